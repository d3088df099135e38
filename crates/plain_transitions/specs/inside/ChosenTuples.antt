-- The tuple of a number, by the ordinals of its kinds from the last one on.
use Rattle.std.specs.Prelude.{◌≡◌, ◌+◌, ◌*◌, ℕ, ℤ, pos, ◌+ℤ◌, ◌≤ℤ◌, ◌<ℤ◌, List, []}
use Rattle.std.specs.Prelude.{reverse, length, drop, slice_get}
use Rattle.std.specs.Prelude.{Option, Some, None}
use Rattle.std.specs.Option.{option_map_or}
use Rattle.est_syntax.specs.declared.kind.Kind.{Kind}
use Rattle.est_values.specs.FittingValues.{ordinal_count}
use Rattle.est_values.specs.OrdinalTuples.{ordinals_of, ordinal_tuples}
use Rattle.est_meaning.specs.rule_scope.declared.declaration.Sort.TheVariants as sort
use Rattle.est_meaning.specs.rule_scope.Outline.{Outline}
use Rattle.est_meaning.specs.mean_blocks.NamesInRuns.{places_of}

-- the places of the variables of a region, if there is one
abbrev pub variables_of : Outline → Option ℕ → List ℕ
variables_of o any = option_map_or (places_of o sort.Variable) any []

-- the ordinal that stands so far above the first one, or none where it is above the last one
abbrev pub IsAbove : ℤ → ℤ → ℕ → Option ℤ → Type 0
IsAbove first last number (Some z) = (z ≡ first +ℤ pos number) × (z ≤ℤ last)
IsAbove first last number None = last <ℤ (first +ℤ pos number)

-- the ordinal of a kind whose number is left over where a number is divided by their count
abbrev pub IsTaken : Kind → ℕ → ℕ → Option ℤ → Type 0
IsTaken k number quotient (Some z) = (digit : ℕ) × (slice_get (ordinals_of k) digit ≡ Some z)
    × (number ≡ ordinal_count k * quotient + digit)
IsTaken k number quotient None = ordinal_count k ≡ 0

-- A number is divided by the counts of the kinds from a place on. The tuple of what was left over,
-- whose last ordinal stands first, has the rank that it has among those of these kinds.
pub record IsDivided (ks : List Kind) (tuple : List ℤ) (i number quotient : ℕ) : Type 0 where
  pub rank : ℕ
  pub is : number ≡ quotient * length (ordinal_tuples (drop i ks)) + rank
  pub stands : slice_get (ordinal_tuples (drop i ks)) rank ≡ Some (reverse tuple)
