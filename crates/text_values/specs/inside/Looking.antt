-- What the look-up of a constant answers.
use Rattle.std.specs.Prelude.{◌≡◌, ℕ, ℤ, pos, true, false, Bool, List, take, Option, Some, None}
use Rattle.std.specs.Prelude.{slice_get}
use Rattle.std.specs.List.{list_any}
use Rattle.std.specs.Option.{IsSomeAnd}
use Rattle.est_lexer.specs.declared.tokens.Tokens.{Tokens}
use Rattle.est_lexer.specs.Offsets.{text_of, tokens_of}
use Rattle.text_reader.specs.Marks.{MeetsOne, can_begin}
use Rattle.est_syntax.specs.declared.kind.Kind.{Kind}
use Rattle.est_values.specs.FittingValues.{IsOrdinalOf}
use Rattle.text_reader.specs.Tests.{holds, named, stands}
use Rattle.text_values.specs.TraceGrammar.{Rule, marks, constant, constants}

-- the token at the place begins g
abbrev pub Begins : Tokens → ℕ → Rule → Type 0
Begins tokens at g =
    MeetsOne (holds (text_of tokens)) (slice_get (tokens_of tokens) at) (can_begin marks g)

-- whether one of these names stands at the place
abbrev pub some_there : List (List ℕ) → Tokens → ℕ → Bool
some_there names tokens at = list_any (λ name. stands tokens at (named name)) names

-- the place of the first of these names that stands at the place of the text, or none where none does
abbrev pub IsFirstThere : List (List ℕ) → Tokens → ℕ → Option ℕ → Type 0
IsFirstThere names tokens at (Some p) = some_there (take p names) tokens at ≡ false
    × IsSomeAnd (slice_get names p) (λ name. stands tokens at (named name) ≡ true)
IsFirstThere names tokens at None = some_there names tokens at ≡ false

-- the number of a constant as an ordinal of the kind, where it is one
abbrev pub IsConstantOf : Kind → Option ℕ → Option ℤ → Type 0
IsConstantOf k place (Some z) = (p : ℕ) × (place ≡ Some p) × (z ≡ pos p) × IsOrdinalOf k z
IsConstantOf k place None = (p : ℕ) → place ≡ Some p → IsOrdinalOf k (pos p) → ⊥

-- the ordinal of the kind whose constant the token at the place begins, or none where it begins no
-- constant
abbrev pub IsFound : List (List ℕ) → Kind → Tokens → ℕ → Option ℤ → Type 0
IsFound names k tokens at (Some z) = IsOrdinalOf k z × Begins tokens at (constant names z)
IsFound names k tokens at None = Begins tokens at (constants names k) → ⊥
