-- Lists that are written item by item.
use Rattle.std.proofs.Common.{◌≡◌, ◌∙◌, refl, sym, ap, ℕ, zero, suc, ◌+◌, ◌<◌, ◌≤◌, List, []}
use Rattle.std.proofs.Common.{◌∷◌, ◌++◌, take, length, Some, slice_get, append_assoc, flat_map}
use Rattle.std.proofs.Common.{arith, codes, get_or, None}
use Rattle.std.proofs.Common.{if◌then◌else◌, false, ◌==◌}
use Rattle.std.specs.Prelude.{Result, Ok, Err, OnOk, is_ok}
use Rattle.std.specs.List.{join_by}
use Rattle.std.proofs.lemmas.Grind.{flat_map-append}
use Rattle.std.proofs.lemmas.List.{take_more, take_all, append-nil, length-take-le}
use Rattle.std.proofs.lemmas.Option.{slice_get_within, get_or_from_slice_get, same_Some}
use Rattle.text_values.specs.WrittenLists.{separator, paired, enclosed, bracketed}

-- so many items, written
abbrev pub joined : {X : Type 0} → (X → List ℕ) → List X → List ℕ
joined f xs = join_by f (codes ", ") xs

-- one item more
last_one : {X : Type 0} (f : X → List ℕ) (ys : List X) (x : X)
    → joined f (ys ++ x ∷ []) ≡ joined f ys ++ (separator (length ys) ++ f x)
last_one f [] x = append-nil (f x)
last_one f (y ∷ ys) x =
    let g : _ → List ℕ = λ z. codes ", " ++ f z in
    let e : flat_map g (ys ++ x ∷ []) ≡ flat_map g ys ++ g x =
    flat_map-append g ys (x ∷ []) ∙ ap (λ r. flat_map g ys ++ r) (append-nil (g x)) in
    ap (λ r. f y ++ r) e ∙ sym (append_assoc (f y) (flat_map g ys) (g x))

-- one item more of a list
one_more : {X : Type 0} (f : X → List ℕ) (xs : List X) (i : ℕ) (x : X) → i < length xs
    → x ≡ get_or xs i x
    → joined f (take (i + 1) xs) ≡ joined f (take i xs) ++ (separator i ++ f x)
one_more f xs i x inside is =
    let e : take (i + 1) xs ≡ take i xs ++ x ∷ [] =
    take_more xs i x inside ∙ ap (λ y. take i xs ++ y ∷ []) (sym is) in
    ap (joined f) e ∙ last_one f (take i xs) x
    ∙ ap (λ n. joined f (take i xs) ++ (separator n ++ f x))
    (length-take-le i xs (omega (arith, inside)))

-- a text to which an item of a list was added, after its separator
turned : {X : Type 0} (f : X → List ℕ) (xs : List X) (i : ℕ) (x : X) (start a b : List ℕ)
    → i < length xs → x ≡ get_or xs i x → a ≡ start ++ joined f (take i xs)
    → b ≡ a ++ (separator i ++ f x) → b ≡ start ++ joined f (take (i + 1) xs)
turned f xs i x start a b inside is first second =
    second ∙ ap (λ t. t ++ (separator i ++ f x)) first
    ∙ append_assoc start (joined f (take i xs)) (separator i ++ f x)
    ∙ ap (λ t. start ++ t) (sym (one_more f xs i x inside is))

-- all items
all_of : {X : Type 0} (f : X → List ℕ) (xs : List X) (i : ℕ) (start a : List ℕ)
    → length xs ≤ i → a ≡ start ++ joined f (take i xs) → a ≡ start ++ joined f xs
all_of f xs i start a past is = is ∙ ap (λ ys. start ++ joined f ys) (take_all i xs past)

-- a place where no item stands
out_there : {A : Type 0} (xs : List A) (i : ℕ) → slice_get xs i ≡ None → length xs ≤ i
out_there [] i e = omega arith
out_there (x ∷ xs) zero e = cc
out_there (x ∷ xs) (suc i) e = omega (arith, out_there xs i e)

-- the texts of pairs
pair_there : {A B : Type 0} (f : A → B → List ℕ) (xs : List A) (ys : List B) (i : ℕ) (x : A)
    (y : B) → slice_get xs i ≡ Some x → slice_get ys i ≡ Some y
    → slice_get (paired f xs ys) i ≡ Some (f x y)
pair_there f [] ys i x y a b = cc
pair_there f (x ∷ xs) [] i u v a b = cc
pair_there f (x ∷ xs) (y ∷ ys) zero u v a b =
    ap Some (ap (λ w. f w y) (same_Some x u a) ∙ ap (f u) (same_Some y v b))
pair_there f (x ∷ xs) (y ∷ ys) (suc i) u v a b = pair_there f xs ys i u v a b

-- there are no more than there are first items,
pairs_left : {A B : Type 0} (f : A → B → List ℕ) (xs : List A) (ys : List B)
    → length (paired f xs ys) ≤ length xs
pairs_left f [] ys = omega arith
pairs_left f (x ∷ xs) [] = omega arith
pairs_left f (x ∷ xs) (y ∷ ys) = omega (arith, pairs_left f xs ys)

-- nor than second ones
pairs_right : {A B : Type 0} (f : A → B → List ℕ) (xs : List A) (ys : List B)
    → length (paired f xs ys) ≤ length ys
pairs_right f [] ys = omega arith
pairs_right f (x ∷ xs) [] = omega arith
pairs_right f (x ∷ xs) (y ∷ ys) = omega (arith, pairs_right f xs ys)

abbrev itself : List ℕ → List ℕ
itself t = t

module _ {A B : Type 0} (f : A → B → List ℕ) (xs : List A) (ys : List B) (i : ℕ)
    (start a : List ℕ) (first : a ≡ start ++ joined itself (take i (paired f xs ys))) where
  -- the text of one pair more
  pub pair_turned : (x : A) (y : B) (b : List ℕ) → slice_get xs i ≡ Some x
      → Some y ≡ slice_get ys i → b ≡ a ++ (separator i ++ f x y)
      → b ≡ start ++ joined itself (take (i + 1) (paired f xs ys))
  pair_turned x y b e d second =
      let there = pair_there f xs ys i x y e (sym d) in
      turned itself (paired f xs ys) i (f x y) start a b
      (slice_get_within (paired f xs ys) i (f x y) there)
      (sym (get_or_from_slice_get (paired f xs ys) i (f x y) (f x y) there)) first second

  -- all of them
  pub all_left : length xs ≤ i → a ≡ start ++ joined itself (paired f xs ys)
  all_left past = all_of itself (paired f xs ys) i start a
      (omega (arith, past, pairs_left f xs ys)) first

  pub all_past : length ys ≤ i → a ≡ start ++ joined itself (paired f xs ys)
  all_past past = all_of itself (paired f xs ys) i start a
      (omega (arith, past, pairs_right f xs ys)) first

  pub all_gone : slice_get xs i ≡ None → a ≡ start ++ joined itself (paired f xs ys)
  all_gone none = all_left (out_there xs i none)

  pub all_right : None ≡ slice_get ys i → a ≡ start ++ joined itself (paired f xs ys)
  all_right none = all_past (out_there ys i (sym none))

-- nothing stands in brackets where there are no first items,
pub none_left : {A B : Type 0} (opening closing : List ℕ) (f : A → B → List ℕ) (xs : List A)
    (ys : List B) → length xs ≡ 0 → [] ≡ bracketed opening closing (paired f xs ys)
none_left o c f [] ys e = refl
none_left o c f (x ∷ xs) ys e = absurd (omega (arith, e))

-- nor where there are no second ones
pub none_right : {A B : Type 0} (opening closing : List ℕ) (f : A → B → List ℕ) (xs : List A)
    (ys : List B) → length ys ≡ 0 → [] ≡ bracketed opening closing (paired f xs ys)
none_right o c f [] [] e = refl
none_right o c f (x ∷ xs) [] e = refl
none_right o c f xs (y ∷ ys) e = absurd (omega (arith, e))

-- where there are both, all that is listed does
pub some_listed : {A B : Type 0} (opening closing : List ℕ) (f : A → B → List ℕ) (xs : List A)
    (ys : List B) → 0 < length xs → 0 < length ys
    → enclosed opening closing (paired f xs ys) ≡ bracketed opening closing (paired f xs ys)
some_listed o c f [] ys a b = absurd (omega (arith, a))
some_listed o c f (x ∷ xs) [] a b = absurd (omega (arith, b))
some_listed o c f (x ∷ xs) (y ∷ ys) a b = refl

-- what is added in brackets
pub enclosed_added : {R E : Type 0} (old a b new opening listed closing all : List ℕ)
    (r : Result R E) → a ≡ old ++ opening → b ≡ a ++ listed
    → new ≡ (if is_ok r then b ++ closing else b) → opening ++ listed ++ closing ≡ all
    → OnOk r (new ≡ old ++ all)
enclosed_added old a b new o l c all (Ok x) first second third is =
    third ∙ ap (λ t. t ++ c) (second ∙ ap (λ t. t ++ l) first ∙ append_assoc old o l)
    ∙ append_assoc old (o ++ l) c ∙ ap (λ t. old ++ t) is
enclosed_added old a b new o l c all (Err x) first second third is = tt

-- a number that is not 0
pub above_zero : (n : ℕ) → (n == 0) ≡ false → 0 < n
above_zero zero e = cc
above_zero (suc n) e = omega arith
