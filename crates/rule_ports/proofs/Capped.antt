-- Numbers as far as a greatest one.
use Rattle.std.proofs.Common.{◌≡◌, ℕ, zero, suc, ◌+◌, ◌*◌, ◌-◌, ◌^◌, ◌<◌, ◌≤◌, min}
use Rattle.std.proofs.Common.{sym, ap, ◌∙◌, arith, inl, inr}
use Rattle.std.specs.Prelude.{◌⊎◌}
use Rattle.std.proofs.lemmas.Bool.{cases_lt}
use Rattle.std.proofs.lemmas.Nat.{mul-le}
use Rattle.std.proofs.Math.Nat.{min-eq_left}

-- a product of capped numbers, and a sum
large : (a x m : ℕ) → m ≤ x → min (suc a * x) m ≡ m
large a x m l = let k : 1 * x ≤ suc a * x = mul-le 1 x (suc a) x (omega arith) (omega arith) in
    omega (arith, k, l)

pub capped_product : (a b m : ℕ) → min (a * min b m) m ≡ min (a * b) m
capped_product zero b m = omega arith
capped_product (suc a) b m = by (cases_lt m b)
  where
    by : (m < b) ⊎ (b ≤ m) → min (suc a * min b m) m ≡ min (suc a * b) m
    by (inl l) =
        large a (min b m) m (omega (arith, l)) ∙ sym (large a b m (omega (arith, l)))
    by (inr l) = ap (λ n. min (suc a * n) m) (min-eq_left l)

pub capped_sum : (a b m : ℕ) → min (min a m + min b m) m ≡ min (a + b) m
capped_sum a b m = omega arith

-- a number of 64 bits
abbrev pub most : ℕ
most = 2 ^ 64 - 1
