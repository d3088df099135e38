-- Lists in which an item is written in the place of another.
use Rattle.std.proofs.Common.{◌≡◌, ℕ, zero, suc, List, [], ◌∷◌, length, Some, refl, sym, ap, arith}
use Rattle.std.proofs.Common.{inl, inr, ◌<◌, ◌≤◌}
use Rattle.std.specs.Prelude.{◌⊎◌, slice_get, slice_set}
use Rattle.std.proofs.lemmas.Bool.{cases_lt}

pub same_or_not : (j k : ℕ) → (j ≡ k) ⊎ (j ≡ k → ⊥)
same_or_not j k = by (cases_lt j k) (cases_lt k j)
  where
    by : (j < k) ⊎ (k ≤ j) → (k < j) ⊎ (j ≤ k) → (j ≡ k) ⊎ (j ≡ k → ⊥)
    by (inl l) m = inr (λ q. omega (arith, l, q))
    by (inr l) (inl m) = inr (λ q. omega (arith, m, q))
    by (inr l) (inr m) = inl (omega (arith, l, m))

module _ {A : Type 0} where
  -- what is written stands there
  pub written : (xs : List A) (k : ℕ) (x y : A) → slice_get xs k ≡ Some x
      → slice_get (slice_set xs k y) k ≡ Some y
  written [] k x y e = cc
  written (z ∷ xs) zero x y e = refl
  written (z ∷ xs) (suc k) x y e = written xs k x y e

  -- written back, it is as before
  pub written_back : (xs : List A) (k : ℕ) (x y : A) → slice_get xs k ≡ Some x
      → slice_set (slice_set xs k y) k x ≡ xs
  written_back [] k x y e = refl
  written_back (z ∷ xs) zero x y e = let same : z ≡ x = cc in ap (λ w. w ∷ xs) (sym same)
  written_back (z ∷ xs) (suc k) x y e = ap (λ w. z ∷ w) (written_back xs k x y e)

  -- the last that is written counts
  pub written_over : (xs : List A) (k : ℕ) (x y : A)
      → slice_set (slice_set xs k x) k y ≡ slice_set xs k y
  written_over [] k x y = refl
  written_over (z ∷ xs) zero x y = refl
  written_over (z ∷ xs) (suc k) x y = ap (λ w. z ∷ w) (written_over xs k x y)

  -- elsewhere nothing changes
  pub elsewhere : (xs : List A) (j k : ℕ) (y : A) → (j ≡ k → ⊥)
      → slice_get (slice_set xs k y) j ≡ slice_get xs j
  elsewhere [] j k y n = refl
  elsewhere (z ∷ xs) zero zero y n = absurd (n refl)
  elsewhere (z ∷ xs) zero (suc k) y n = refl
  elsewhere (z ∷ xs) (suc j) zero y n = refl
  elsewhere (z ∷ xs) (suc j) (suc k) y n = elsewhere xs j k y (λ q. n (ap suc q))

  -- at two places either may be written first
  pub either_first : (xs : List A) (j k : ℕ) (x y : A) → (j ≡ k → ⊥)
      → slice_set (slice_set xs j x) k y ≡ slice_set (slice_set xs k y) j x
  either_first [] j k x y n = refl
  either_first (z ∷ xs) zero zero x y n = absurd (n refl)
  either_first (z ∷ xs) zero (suc k) x y n = refl
  either_first (z ∷ xs) (suc j) zero x y n = refl
  either_first (z ∷ xs) (suc j) (suc k) x y n =
      ap (λ w. z ∷ w) (either_first xs j k x y (λ q. n (ap suc q)))

  -- there are as many items
  pub as_many : (xs : List A) (k : ℕ) (y : A) → length (slice_set xs k y) ≡ length xs
  as_many [] k y = refl
  as_many (z ∷ xs) zero y = refl
  as_many (z ∷ xs) (suc k) y = let n = as_many xs k y in omega (arith, n)

  -- an item within the list
  pub item_at : (xs : List A) (k : ℕ) → k < length xs → (x : A) × (slice_get xs k ≡ Some x)
  item_at [] k l = absurd (omega (arith, l))
  item_at (z ∷ xs) zero l = (z, refl)
  item_at (z ∷ xs) (suc k) l = item_at xs k (omega (arith, l))
