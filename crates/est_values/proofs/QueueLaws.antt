-- Lists whose first items were taken.
use Rattle.std.specs.Prelude.{◌≡◌, ℕ, zero, suc, ◌+◌, ◌-◌, ◌≤◌, List, [], ◌∷◌}
use Rattle.std.specs.Prelude.{slice_get, drop, refl, None}
use Rattle.std.proofs.Common.{sym, ◌∙◌, ap, arith, zero-add, add-zero}
use Rattle.std.proofs.lemmas.Option.{none-some}

-- an item behind those that were taken
pub get_behind_taken : {T : Type 0} (xs : List T) (n k : ℕ)
    → slice_get (drop n xs) k ≡ slice_get xs (n + k)
get_behind_taken xs zero k = ap (slice_get xs) (sym (zero-add k))
get_behind_taken [] (suc n) k = refl
get_behind_taken (x ∷ xs) (suc n) k =
    let e : suc (n + k) ≡ suc n + k = omega arith in
    get_behind_taken xs n k ∙ ap (slice_get (x ∷ xs)) e

-- the head
pub head_behind_taken : {T : Type 0} (xs : List T) (n : ℕ)
    → slice_get xs n ≡ slice_get (drop n xs) 0
head_behind_taken xs n = ap (slice_get xs) (sym (add-zero n)) ∙ sym (get_behind_taken xs n 0)

-- nothing is left of nothing
pub drop_none : {T : Type 0} (k : ℕ) → ◌≡◌ {A = List T} (drop k []) []
drop_none zero = refl
drop_none (suc k) = refl

-- one more that was taken
pub drop_more : {T : Type 0} (xs : List T) (n : ℕ) → drop (n + 1) xs ≡ drop 1 (drop n xs)
drop_more xs zero = refl
drop_more [] (suc n) = drop_none (suc n + 1)
drop_more (x ∷ xs) (suc n) =
    let e : suc n + 1 ≡ suc (n + 1) = omega arith in
    ap (λ k. drop k (x ∷ xs)) e ∙ drop_more xs n

-- those that are gone need not be counted
pub drop_less : {T : Type 0} (xs : List T) (m n : ℕ) → m ≤ n → drop (n - m) (drop m xs) ≡ drop n xs
drop_less xs zero n h = ap (λ k. drop k xs) (omega arith)
drop_less xs (suc m) zero h = absurd (omega (arith, h))
drop_less [] (suc m) (suc n) h = drop_none (suc n - suc m)
drop_less (x ∷ xs) (suc m) (suc n) h =
    let e : suc n - suc m ≡ n - m = omega arith in
    ap (λ k. drop k (drop m xs)) e ∙ drop_less xs m n (omega (arith, h))

-- an empty queue has no head
pub none_taken : {T : Type 0} (xs : List T) (n : ℕ) → slice_get xs n ≡ None → drop n xs ≡ []
none_taken [] zero h = refl
none_taken [] (suc n) h = refl
none_taken (x ∷ xs) zero h = absurd (none-some x (sym h))
none_taken (x ∷ xs) (suc n) h = none_taken xs n h

-- and taking leaves it as it is
pub none_to_take : {T : Type 0} (xs : List T) (n : ℕ) → slice_get xs n ≡ None
    → drop n xs ≡ drop 1 (drop n xs)
none_to_take xs n h = none_taken xs n h ∙ sym (ap (drop 1) (none_taken xs n h))
