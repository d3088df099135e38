-- The values that expressions may yield (ISO 7185, 6.7.1).
use Rattle.std.specs.Prelude.{◌≡◌, ℕ, ℤ, List}
use Rattle.est_syntax.specs.declared.kind.Kind.{Kind}
use Rattle.est_values.specs.declared.value.Value.{Value}
use Rattle.est_values.specs.FittingValues.{AscendFrom, Fits}
use Rattle.est_values.specs.declared.value.Value.TheVariants as value
use Rattle.est_values.specs.Types.{Yielded, Group}
use Rattle.law_values.specs.SameKinds.{HasSizes}

-- members that ascend, within some bounds
abbrev pub DoAscend : List ℤ → Type 0
DoAscend zs = (low : ℤ) × (high : ℤ) × AscendFrom low high zs

-- Expressions yield ordinals and sets, whose members ascend. What yields an array or a record of a
-- kind may yield a group that fits it, and nothing else yields one.
pub data IsYielded (sizes : ℕ → ℕ) (t : Yielded) : Value → Type 0 where
  ordinal : {v : Value} (z : ℤ) → v ≡ value.Ordinal z → IsYielded sizes t v
  set : {v : Value} (zs : List ℤ) → v ≡ value.Set zs → DoAscend zs → IsYielded sizes t v
  group : {v : Value} (k : Kind) (parts : List Value) → t ≡ Group k → HasSizes sizes k
      → v ≡ value.Group parts → Fits k v → IsYielded sizes t v
