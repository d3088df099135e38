-- Items of lists and of their images.
use Rattle.std.proofs.Common.{◌≡◌, ℕ, zero, suc, ◌+◌, ◌<◌, Bool, true, false, not, ◌||◌, List, []}
use Rattle.std.proofs.Common.{◌∷◌, map, take, refl, sym, ap, ap₂, ◌∙◌, subst, arith, Option, Some}
use Rattle.std.proofs.Common.{None, slice_get}
use Rattle.std.proofs.Common.{bytes_eq}
use Rattle.std.specs.List.{list_any, range_with_len}
use Rattle.std.specs.Option.{option_map}
use Rattle.std.proofs.lemmas.Option.{slice_get-map}
use Rattle.std.proofs.lemmas.Slice.Eq.{bytes_eq-Decides}

pub some_same : {A : Type 0} {x y : A} → Some x ≡ Some y → x ≡ y
some_same p = cc

-- where a list is the image of another, so are its items
module _ {A B : Type 0} (f : A → B) (xs : List A) where
  pub mapped_at : (i : ℕ) (b : B) → slice_get (map f xs) i ≡ Some b
      → (x : A) × (slice_get xs i ≡ Some x) × (f x ≡ b)
  mapped_at i b e = from (slice_get xs i) refl
    where
      from : (o : Option A) → slice_get xs i ≡ o → (x : A) × (slice_get xs i ≡ Some x) × (f x ≡ b)
      from None h = let q : None ≡ Some b = sym (ap (option_map f) h) ∙ (sym (slice_get-map f xs i)
          ∙ e) in absurd cc
      from (Some x) h = let q : Some (f x) ≡ Some b = sym (ap (option_map f) h)
          ∙ (sym (slice_get-map f xs i) ∙ e) in (x, h, some_same q)

  pub image_at : (i : ℕ) (x : A) → slice_get xs i ≡ Some x → slice_get (map f xs) i ≡ Some (f x)
  image_at i x e = slice_get-map f xs i ∙ ap (option_map f) e

-- numbers from one on
pub range_at : (a n i x : ℕ) → slice_get (range_with_len a n) i ≡ Some x → (x ≡ a + i) × (i < n)
range_at a zero i x e = absurd cc
range_at a (suc n) zero x e = let q : a ≡ x = some_same e in (omega (arith, q), omega arith)
range_at a (suc n) (suc i) x e =
    let r = range_at (a + 1) n i x e in (omega (arith, r.0), omega (arith, r.1))

pub range_there : (a n i : ℕ) → i < n → slice_get (range_with_len a n) i ≡ Some (a + i)
range_there a zero i l = absurd (omega arith)
range_there a (suc n) zero l = let q : a ≡ a + 0 = omega arith in ap Some q
range_there a (suc n) (suc i) l =
    let q : (a + 1) + i ≡ a + suc i = omega arith in
    range_there (a + 1) n i (omega arith) ∙ ap Some q

-- tests
pub negated : (b : Bool) → not b ≡ true → b ≡ false
negated true e = absurd cc
negated false e = refl

pub first_false : (a b : Bool) → (a || b) ≡ false → a ≡ false
first_false false b e = refl
first_false true b e = cc

pub second_false : (a b : Bool) → (a || b) ≡ false → b ≡ false
second_false false b e = e
second_false true b e = cc

-- a name stands first at one place
pub first_is_one : (names : List (List ℕ)) (n m : ℕ) (name : List ℕ)
    → slice_get names n ≡ Some name → list_any (bytes_eq name) (take n names) ≡ false
    → slice_get names m ≡ Some name → list_any (bytes_eq name) (take m names) ≡ false → n ≡ m
first_is_one [] n m name e f g h = absurd cc
first_is_one (y ∷ ys) zero zero name e f g h = refl
first_is_one (y ∷ ys) zero (suc m) name e f g h =
    let w : bytes_eq name y ≡ true = (bytes_eq-Decides name y).1 (sym (some_same e)) in
    let v : bytes_eq name y ≡ false = first_false _ _ h in absurd cc
first_is_one (y ∷ ys) (suc n) zero name e f g h =
    let w : bytes_eq name y ≡ true = (bytes_eq-Decides name y).1 (sym (some_same g)) in
    let v : bytes_eq name y ≡ false = first_false _ _ f in absurd cc
first_is_one (y ∷ ys) (suc n) (suc m) name e f g h =
    ap suc (first_is_one ys n m name e (second_false _ _ f) g (second_false _ _ h))

-- none so far, and not the next one
pub none_more : {A : Type 0} (p : A → Bool) (xs : List A) (i : ℕ) (x : A) → slice_get xs i ≡ Some x
    → list_any p (take i xs) ≡ false → p x ≡ false → list_any p (take (i + 1) xs) ≡ false
none_more p [] i x e h f = cc
none_more p (y ∷ ys) zero x e h f =
    ap (λ b. b || false) (ap p (some_same e) ∙ f)
none_more p (y ∷ ys) (suc i) x e h f =
    let q : suc (i + 1) ≡ suc i + 1 = omega arith in
    subst (λ n. list_any p (take n (y ∷ ys)) ≡ false) q
    (ap₂ (λ a b. a || b) (first_false (p y) _ h) (none_more p ys i x e (second_false (p y) _ h) f))
