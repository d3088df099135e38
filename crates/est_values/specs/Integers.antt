-- Arithmetic on integers (ISO 7185, 6.7.2.2): the exact result, where it is an integer of this
-- profile, or what went wrong.
use Rattle.std.specs.Prelude.{ℤ, pos, neg_ℤ, ◌+ℤ◌, ◌-ℤ◌, ◌*ℤ◌, int_le, int_div, ◌&&◌}
use Rattle.std.specs.Prelude.{Result, Ok, Err, if◌then◌else◌}
use Rattle.std.specs.Ordering.{int_eq}
use Rattle.std.specs.Int.{int_rem_euclid}
use Rattle.est_syntax.specs.Kinds.{maxint}
use Rattle.est_values.specs.declared.arithmetic.NumberFault.{NumberFault}
use Rattle.est_values.specs.declared.arithmetic.NumberFault.TheVariants.{Range, Divide}

-- an exact number, where it is an integer of this profile: from -maxint to maxint
abbrev pub in_range : ℤ → Result ℤ NumberFault
in_range z = if int_le (neg_ℤ (pos maxint)) z && int_le z (pos maxint) then Ok z else Err Range

-- the sum
abbrev pub plus : ℤ → ℤ → Result ℤ NumberFault
plus a b = in_range (a +ℤ b)

-- the difference
abbrev pub minus : ℤ → ℤ → Result ℤ NumberFault
minus a b = in_range (a -ℤ b)

-- the product
abbrev pub times : ℤ → ℤ → Result ℤ NumberFault
times a b = in_range (a *ℤ b)

-- the number with the other sign
abbrev pub negative : ℤ → Result ℤ NumberFault
negative a = in_range (neg_ℤ a)

-- the quotient, truncated towards zero, of a divisor that is not 0
abbrev pub divided : ℤ → ℤ → Result ℤ NumberFault
divided a b = if int_eq b (pos 0) then Err Divide else in_range (int_div a b)

-- the remainder, from 0 to the divisor minus 1, of a divisor of 1 or more
abbrev pub modulo : ℤ → ℤ → Result ℤ NumberFault
modulo a b = if int_le b (pos 0) then Err Divide else Ok (int_rem_euclid a b)
