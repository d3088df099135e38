-- How many ordinals lie between two.
use Rattle.std.proofs.Common.{◌≡◌, ℕ, ◌+◌, ◌<◌, Bool, true, false, arith}
use Rattle.std.specs.Prelude.{ℤ, pos, negsuc, ◌+ℤ◌, ◌≤ℤ◌}
use Rattle.std.specs.Int.{int_gap}
use Rattle.std.proofs.lemmas.Int.{ints}
use Rattle.mean_blocks.specs.LoopEffects.{step}
use Rattle.plain_effects.specs.plain_operands.TurnsOfLoops.{turn_at}

below : (b : ℤ) (n : ℕ) (a : ℤ) → n < int_gap a b → (a +ℤ pos (n + 1)) ≤ℤ b
below (pos b) n (pos a) h = omega (arith, ints)
below (negsuc b) n (pos a) h = absurd (omega arith)
below (pos b) n (negsuc a) h = omega (arith, ints)
below (negsuc b) n (negsuc a) h = omega (arith, ints)

-- what is counted between two ordinals lies between them
pub counted_below : (a b : ℤ) (n : ℕ) → n < int_gap a (b +ℤ pos 1) → (a +ℤ pos n) ≤ℤ b
counted_below a b n h = let k = below (b +ℤ pos 1) n a h in omega (arith, ints)

-- the next turn of a `for`
pub turn_next : (down : Bool) (z : ℤ) (n : ℕ)
    → turn_at down z (n + 1) ≡ turn_at down z n +ℤ step down
turn_next false z n = omega (arith, ints)
turn_next true z n = omega (arith, ints)

pub turn_first : (down : Bool) (z : ℤ) → turn_at down z 0 ≡ z
turn_first false z = omega (arith, ints)
turn_first true z = omega (arith, ints)
