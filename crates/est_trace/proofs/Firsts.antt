-- The first item of a list that passes a test.
use Rattle.std.proofs.Common.{◌≡◌, ℕ, zero, suc, ◌+◌, ◌≤◌, Bool, true, false, ◌||◌}
use Rattle.std.proofs.Common.{List, [], ◌∷◌, length, map, take, refl, sym, ap, ◌∙◌}
use Rattle.std.proofs.Common.{subst, arith, Some, None, slice_get, bytes_eq}
use Rattle.std.specs.List.{list_any}
use Rattle.std.proofs.lemmas.List.{take_all}
use Rattle.std.proofs.lemmas.Map.Keys.{any_passes_from_place}
use Rattle.std.proofs.lemmas.Slice.Eq.{bytes_eq-Decides}
use Rattle.est_trace.specs.PortNames.{IsNumberOf}
use Rattle.est_trace.proofs.Images.{mapped_at, image_at, some_same}

-- neither of two
neither_true : (a b : Bool) → a ≡ false → b ≡ false → (a || b) ≡ false
neither_true false b e f = f
neither_true true b e f = cc

first_false : (a b : Bool) → (a || b) ≡ false → a ≡ false
first_false false b e = refl
first_false true b e = cc

second_false : (a b : Bool) → (a || b) ≡ false → b ≡ false
second_false false b e = e
second_false true b e = cc

-- none so far, and not the next one
pub none_more : {A : Type 0} (p : A → Bool) (xs : List A) (i : ℕ) (x : A) → slice_get xs i ≡ Some x
    → list_any p (take i xs) ≡ false → p x ≡ false → list_any p (take (i + 1) xs) ≡ false
none_more p [] i x e h f = cc
none_more p (y ∷ ys) zero x e h f = neither_true (p y) false (ap p (some_same e) ∙ f) refl
none_more p (y ∷ ys) (suc i) x e h f =
    subst (λ n. list_any p (take n (y ∷ ys)) ≡ false) (let q : suc (i + 1) ≡ suc i + 1 =
    omega arith in q)
    (neither_true (p y) _ (first_false (p y) _ h) (none_more p ys i x e (second_false (p y) _ h) f))

-- none at all
pub none_of : {A : Type 0} (p : A → Bool) (xs : List A) (i : ℕ) → length xs ≤ i
    → list_any p (take i xs) ≡ false → list_any p xs ≡ false
none_of p xs i l h = ap (list_any p) (sym (take_all i xs l)) ∙ h

-- one of them
pub one_of_them : {A : Type 0} (p : A → Bool) (xs : List A) (i : ℕ) (x : A)
    → slice_get xs i ≡ Some x → p x ≡ true → list_any p xs ≡ true
one_of_them p xs i x e h = any_passes_from_place p xs i x e h

-- the number of a name
module _ {A : Type 0} (name : A → List ℕ) (xs : List A) (bytes : List ℕ) where
  pub number_is : (i : ℕ) (x : A) → slice_get xs i ≡ Some x → bytes_eq (name x) bytes ≡ true
      → slice_get (map name xs) i ≡ Some bytes
  number_is i x e h = image_at name xs i x e ∙ ap Some ((bytes_eq-Decides (name x) bytes).0 h)

  pub no_number : list_any (λ x. bytes_eq (name x) bytes) xs ≡ false
      → IsNumberOf bytes (map name xs) None
  no_number h = λ j e.
      let q = mapped_at name xs j bytes e in
      let w : list_any (λ x. bytes_eq (name x) bytes) xs ≡ true =
      one_of_them (λ x. bytes_eq (name x) bytes) xs j q.0 q.1
      ((bytes_eq-Decides (name q.0) bytes).1 q.2) in
      let u : false ≡ true = sym h ∙ w in
      absurd cc
