use Rattle.std.proofs.Common.{◌≡◌, ◌≤◌, ◌<◌, ◌+◌, ℕ, suc, zero, List, [], ◌∷◌, length}
use Rattle.std.proofs.Common.{take, arith, Bool, true, false, cond, refl, one-add}
use Rattle.std.specs.List.{prefix_len, list_all}
use Rattle.std.proofs.lemmas.Bool.{and_left, and_right}

front_first : (p : ℕ → Bool) (x : ℕ) (xs : List ℕ) (b : Bool) → p x ≡ b
    → list_all p (take (prefix_len p xs) xs) ≡ true
    → list_all p (take (cond b (1 + prefix_len p xs) 0) (x ∷ xs)) ≡ true
front_first p x xs true passes more = rw (one-add, passes) more
front_first p x xs false fails more = refl

-- The front that passes passes.
pub front_passes : (p : ℕ → Bool) (xs : List ℕ) → list_all p (take (prefix_len p xs) xs) ≡ true
front_passes p [] = refl
front_passes p (x ∷ xs) = front_first p x xs (p x) refl (front_passes p xs)

longer_first : (p : ℕ → Bool) (x : ℕ) (xs : List ℕ) (n : ℕ) (b : Bool) → p x ≡ b
    → cond b (1 + prefix_len p xs) 0 < suc n
    → (prefix_len p xs < n → list_all p (take n xs) ≡ false)
    → list_all p (take (suc n) (x ∷ xs)) ≡ false
longer_first p x xs n true passes more further = and_right _ _ (further (omega arith))
longer_first p x xs n false fails more further = and_left _ _ fails

-- A longer front does not.
pub longer_fails : (p : ℕ → Bool) (xs : List ℕ) (n : ℕ) → prefix_len p xs < n → n ≤ length xs
    → list_all p (take n xs) ≡ false
longer_fails p [] n more within = absurd (omega arith)
longer_fails p (x ∷ xs) zero more within = absurd (omega arith)
longer_fails p (x ∷ xs) (suc n) more within = longer_first p x xs n (p x) refl more
    (λ h. longer_fails p xs n h (omega arith))
