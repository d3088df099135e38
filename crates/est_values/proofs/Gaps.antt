-- How many numbers lie from one to another.
use Rattle.std.proofs.Common.{◌≡◌, ℕ, zero, suc, ◌+◌, ℤ, pos, negsuc, ◌+ℤ◌, ◌-ℤ◌, ◌<ℤ◌, arith}
use Rattle.std.proofs.Common.{◌-◌, ◌∙◌, ap, sym}
use Rattle.std.proofs.lemmas.Int.{ints}
use Rattle.std.specs.Int.{int_gap}

-- the number after a negative one
below : (b : ℕ) → negsuc (suc b) +ℤ pos 1 ≡ negsuc b
below b = omega (arith, ints)

-- one more than they are apart
pub gap_counted : (a b : ℤ) (n : ℕ) → pos n ≡ b -ℤ a → n + 1 ≡ int_gap a (b +ℤ pos 1)
gap_counted (pos a) (pos b) n e = omega (arith, ints, e)
gap_counted (pos a) (negsuc zero) n e = omega (arith, ints, e)
gap_counted (pos a) (negsuc (suc b)) n e = omega (arith, ints, e)
gap_counted (negsuc a) (pos b) n e = omega (arith, ints, e)
gap_counted (negsuc a) (negsuc zero) n e = omega (arith, ints, e)
gap_counted (negsuc a) (negsuc (suc b)) n e =
    let g : n + 1 ≡ a - b = omega (arith, ints, e) in g ∙ ap (int_gap (negsuc a)) (sym (below b))

-- and none where the other is less
pub gap_none : (a b : ℤ) → (b -ℤ a) <ℤ pos 0 → 0 ≡ int_gap a (b +ℤ pos 1)
gap_none (pos a) (pos b) h = omega (arith, ints, h)
gap_none (pos a) (negsuc zero) h = omega (arith, ints, h)
gap_none (pos a) (negsuc (suc b)) h = ap (int_gap (pos a)) (sym (below b))
gap_none (negsuc a) (pos b) h = omega (arith, ints, h)
gap_none (negsuc a) (negsuc zero) h = omega (arith, ints, h)
gap_none (negsuc a) (negsuc (suc b)) h =
    let g : 0 ≡ a - b = omega (arith, ints, h) in g ∙ ap (int_gap (negsuc a)) (sym (below b))
