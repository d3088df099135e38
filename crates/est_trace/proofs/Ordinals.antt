-- The ordinals of a kind are its values.
use Rattle.std.proofs.Common.{◌≡◌, ℕ, ◌<◌, ◌≤◌, min, ℤ, pos, negsuc, arith, refl, length}
use Rattle.std.specs.Prelude.{◌+ℤ◌, ◌-ℤ◌, ◌≤ℤ◌}
use Rattle.std.proofs.lemmas.Int.{ints}
use Rattle.est_syntax.specs.declared.kind.Kind.{Kind, out-Kind}
use Rattle.est_syntax.specs.declared.kind.Kind.TheOpen as seen
use Rattle.est_values.specs.FittingValues.{KindLayer, first_of, last_of, IsOrdinalOf}
use Rattle.est_meaning.specs.rule_kinds.TypeTexts.{counted}
use Rattle.est_meaning.specs.rule_declares.OrdinalValues.{values_of}
use Rattle.rule_ports.proofs.Ranks.{offset_is}
use Rattle.std.proofs.Common.{Some, slice_get}

-- how far an integer lies from one that it does not lie below
distance : (a z : ℤ) → a ≤ℤ z → (n : ℕ) × (z ≡ a +ℤ pos n)
distance a z l = by (z -ℤ a) refl
  where
    by : (d : ℤ) → z -ℤ a ≡ d → (n : ℕ) × (z ≡ a +ℤ pos n)
    by (pos n) e = (n, omega (arith, ints, e))
    by (negsuc n) e = absurd (omega (arith, ints, e, l))

-- how many values a kind of this form has
abbrev count_of : KindLayer → ℕ
count_of seen.Integer = 4294967295
count_of seen.Boolean = 2
count_of seen.Char = 128
count_of (seen.Enumeration place names) = length names
count_of (seen.Part host low high) = counted (high -ℤ low)
count_of _ = 0

within_part : (low high z : ℤ) (n : ℕ) → z ≡ low +ℤ pos n → z ≤ℤ high
    → n < counted (high -ℤ low)
within_part low high z n e l = by (high -ℤ low) refl
  where
    by : (d : ℤ) → high -ℤ low ≡ d → n < counted d
    by (pos m) q = omega (arith, ints, q, e, l)
    by (negsuc m) q = absurd (omega (arith, ints, q, e, l))

within_names : (c n : ℕ) (z : ℤ) → z ≡ pos 0 +ℤ pos n
    → z ≤ℤ (pos (min c 2147483648) -ℤ pos 1) → n < c
within_names c n z e l =
    let m : min c 2147483648 ≤ c = omega arith in
    omega (arith, ints, e, l, m)

-- an ordinal of a kind of this form lies less far from the first one than there are values
under : (k : KindLayer) (z : ℤ) (n : ℕ) → z ≡ first_of k +ℤ pos n → z ≤ℤ last_of k
    → n < count_of k
under seen.Integer z n e l = omega (arith, ints, e, l)
under seen.Boolean z n e l = omega (arith, ints, e, l)
under seen.Char z n e l = omega (arith, ints, e, l)
under (seen.Enumeration place names) z n e l = within_names (length names) n z e l
under (seen.Part host low high) z n e l = within_part low high z n e l
under (seen.SetOf base) z n e l = absurd (omega (arith, ints, e, l))
under (seen.ArrayOf index of) z n e l = absurd (omega (arith, ints, e, l))
under (seen.Fields fields) z n e l = absurd (omega (arith, ints, e, l))

-- it is one of the values
pub ordinal_there : (k : Kind) (z : ℤ) → IsOrdinalOf k z
    → (n : ℕ) × (slice_get (values_of k) n ≡ Some z)
ordinal_there k z h =
    let d = distance (first_of (out-Kind k)) z h.0 in
    (d.0, offset_is k z d.0 (under (out-Kind k) z d.0 d.1 h.1) d.1)
