-- The first item of a list that passes a test, by its number.
use Rattle.std.proofs.Common.{◌≡◌, refl, sym, ap, ◌∙◌, arith, ℕ, zero, suc, ◌+◌, ◌<◌, ◌≤◌}
use Rattle.std.proofs.Common.{Bool, true, false, not, cond, List, [], ◌∷◌, length, drop}
use Rattle.std.proofs.Common.{Some, None, slice_get, slice_set}
use Rattle.std.proofs.lemmas.Bool.{ltb-true, ltb-false}
use Rattle.std.proofs.lemmas.List.Folds.{find_at}
use Rattle.std.proofs.lemmas.Option.{none-some, same_Some, slice_get_past}
use Rattle.std.specs.List.{find, position, position_from, position_or_len}
use Rattle.est_values.proofs.QueueLaws.{none_taken}
use Rattle.mean_blocks.specs.GlobalSituation.{first_changed}

-- A LIST FROM ONE OF ITS ITEMS ON

pub drop_here : {T : Type 0} (xs : List T) (i : ℕ) (x : T) → slice_get xs i ≡ Some x
    → drop i xs ≡ x ∷ drop (i + 1) xs
drop_here [] i x h = absurd (none-some x h)
drop_here (y ∷ xs) zero x h = ap (λ z. z ∷ xs) (same_Some y x h)
drop_here (y ∷ xs) (suc i) x h =
    let e : suc (i + 1) ≡ suc i + 1 = omega arith in
    drop_here xs i x h ∙ ap (λ n. x ∷ drop n (y ∷ xs)) e

-- what is found from an item on that passes
pub passes_here : {T : Type 0} (test : T → Bool) (xs : List T) (i : ℕ) (x : T)
    → slice_get xs i ≡ Some x → test x ≡ true → position_from test i (drop i xs) ≡ Some i
passes_here test xs i x h e =
    ap (position_from test i) (drop_here xs i x h)
    ∙ ap (λ b. cond b (Some i) (position_from test (i + 1) (drop (i + 1) xs))) e

-- and from one on that fails
pub fails_here : {T : Type 0} (test : T → Bool) (xs : List T) (i : ℕ) (x : T)
    → slice_get xs i ≡ Some x → test x ≡ false
    → position_from test (i + 1) (drop (i + 1) xs) ≡ position_from test i (drop i xs)
fails_here test xs i x h e = sym (
    ap (position_from test i) (drop_here xs i x h)
    ∙ ap (λ b. cond b (Some i) (position_from test (i + 1) (drop (i + 1) xs))) e)

-- and past the last item
pub none_here : {T : Type 0} (test : T → Bool) (xs : List T) (i : ℕ) → slice_get xs i ≡ None
    → position_from test i (drop i xs) ≡ None
none_here test xs i h = ap (position_from test i) (none_taken xs i h)

-- THE NUMBER OF THE FIRST ITEM

-- a number that is given on a test
by_test : (b : Bool) (n i : ℕ) → cond b (Some n) None ≡ Some i → (b ≡ true) × (n ≡ i)
by_test true n i h = (refl, same_Some n i h)
by_test false n i h = absurd (none-some i h)

not_by_test : (b : Bool) (n : ℕ) → cond b (Some n) None ≡ None → b ≡ false
not_by_test true n h = absurd (none-some n (sym h))
not_by_test false n h = refl

-- the first item that passes has this number
first_number : {T : Type 0} (test : T → Bool) (xs : List T) (i : ℕ)
    → position test xs ≡ Some i → position_or_len test xs ≡ i
first_number test xs i h = (by_test _ _ i h).1

-- it is found
pub first_found : {T : Type 0} (test : T → Bool) (xs : List T) (i : ℕ)
    → position test xs ≡ Some i → find test xs ≡ slice_get xs i
first_found test xs i h = find_at test xs ∙ ap (slice_get xs) (first_number test xs i h)

-- there is such a number
first_within : {T : Type 0} (test : T → Bool) (xs : List T) (i : ℕ)
    → position test xs ≡ Some i → i < length xs
first_within test xs i h =
    let t = by_test _ _ i h in
    let e : position_or_len test xs ≡ i = t.1 in
    let w : position_or_len test xs < length xs = ltb-true _ _ t.0 in
    omega (arith, e, w)

there : {T : Type 0} (xs : List T) (i : ℕ) → i < length xs → (x : T) × (slice_get xs i ≡ Some x)
there [] i h = absurd (omega (arith, h))
there (x ∷ xs) zero h = (x, refl)
there (x ∷ xs) (suc i) h = there xs i (omega (arith, h))

pub first_there : {T : Type 0} (test : T → Bool) (xs : List T) (i : ℕ)
    → position test xs ≡ Some i → (x : T) × (slice_get xs i ≡ Some x)
first_there test xs i h = there xs i (first_within test xs i h)

-- no item passes
pub none_found : {T : Type 0} (test : T → Bool) (xs : List T) → position test xs ≡ None
    → find test xs ≡ None
none_found test xs h =
    let e : length xs ≤ position_or_len test xs = ltb-false _ _ (not_by_test _ _ h) in
    find_at test xs ∙ slice_get_past xs (position_or_len test xs) e

-- the first item that passes is changed
changed_arm : {A : Type 0} (change : A → A) (b : Bool) (y x : A) (ys rest : List A) (n : ℕ)
    → slice_get (y ∷ ys) (cond (not b) (1 + n) 0) ≡ Some x
    → (slice_get ys n ≡ Some x → rest ≡ slice_set ys n (change x))
    → cond b (change y ∷ ys) (y ∷ rest) ≡ slice_set (y ∷ ys) (cond (not b) (1 + n) 0) (change x)
changed_arm change true y x ys rest n h k = ap (λ z. change z ∷ ys) (same_Some y x h)
changed_arm change false y x ys rest n h k =
    let e : 1 + n ≡ suc n = omega arith in
    ap (λ l. y ∷ l) (k (sym (ap (slice_get (y ∷ ys)) e) ∙ h))
    ∙ sym (ap (λ m. slice_set (y ∷ ys) m (change x)) e)

changed_first : {A : Type 0} (test : A → Bool) (change : A → A) (xs : List A) (x : A)
    → slice_get xs (position_or_len test xs) ≡ Some x
    → first_changed test change xs ≡ slice_set xs (position_or_len test xs) (change x)
changed_first test change [] x h = absurd (none-some x h)
changed_first test change (y ∷ ys) x h =
    changed_arm change (test y) y x ys (first_changed test change ys) (position_or_len test ys) h
    (changed_first test change ys x)

pub changed_at : {A : Type 0} (test : A → Bool) (change : A → A) (xs : List A) (i : ℕ) (x : A)
    → position test xs ≡ Some i → slice_get xs i ≡ Some x
    → first_changed test change xs ≡ slice_set xs i (change x)
changed_at test change xs i x h at =
    let e : position_or_len test xs ≡ i = first_number test xs i h in
    changed_first test change xs x (ap (slice_get xs) e ∙ at)
    ∙ ap (λ n. slice_set xs n (change x)) e
