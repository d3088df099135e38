-- Which shapes the values of scalars have.
use Rattle.std.specs.Prelude.{◌≡◌, ℤ, pos}
use Rattle.text_reader.specs.Grammar.{nothing, leaf, left, right}
use Rattle.est_syntax.specs.declared.kind.Kind.{Kind}
use Rattle.est_values.specs.declared.value.Value.{Value}
use Rattle.est_values.specs.declared.value.Value.TheVariants as value
use Rattle.est_seen.specs.declared.seen.Seen.{Seen}
use Rattle.est_seen.specs.declared.seen.Seen.TheVariants as seen
use Rattle.text_reader.specs.Tests as number
use Rattle.text_reader.specs.Going.{Shape}
use Rattle.text_values.specs.ValueShapes.{ShowsOrdinal, ShowsSet}

-- an integer that is not negative (`numbers`)
abbrev pub ShowsNumber : ℤ → Shape → Type 0
ShowsNumber z (leaf (number.value n)) = z ≡ pos n
ShowsNumber z _ = ⊥

-- a scalar that is made of what has a shape, or an undefined one (`scalar`)
abbrev pub ShowsScalar : {X V : Type 0} → (X → Shape → Type 0) → (X → V) → V → V → Shape → Type 0
ShowsScalar {X} R made none v (left t) = (x : X) × (v ≡ made x) × R x t
ShowsScalar R made none v (right nothing) = v ≡ none
ShowsScalar R made none v _ = ⊥

-- an ordinal or an undefined one
abbrev pub ShowsOrdinalValue : Kind → Value → Shape → Type 0
ShowsOrdinalValue k v t = ShowsScalar (ShowsOrdinal k) value.Ordinal value.Undefined v t

-- a set or an undefined one
abbrev pub ShowsSetValue : Kind → Value → Shape → Type 0
ShowsSetValue base v t = ShowsScalar (ShowsSet base) value.Set value.Undefined v t

-- what was seen of an ordinal, or that it is undefined
abbrev pub ShowsOrdinalSeen : Kind → Seen → Shape → Type 0
ShowsOrdinalSeen k x t = ShowsScalar (ShowsOrdinal k) seen.Ordinal seen.Undefined x t

-- what was seen of a set, or that it is undefined
abbrev pub ShowsSetSeen : Kind → Seen → Shape → Type 0
ShowsSetSeen base x t = ShowsScalar (ShowsSet base) seen.Set seen.Undefined x t
