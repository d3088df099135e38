-- What one call takes from what is left of a file, or adds to what was written.
use Rattle.std.specs.Prelude.{◌≡◌, ℕ, List, ◌++◌, Option, Some, None}

-- each name has the bytes that it had, and they are told where they were
abbrev pub SameTold : (List ℕ → Option (List ℕ)) → (List ℕ → Option (List ℕ)) → Type 0
SameTold old new = (name : List ℕ) → new name ≡ old name

-- a piece stands in front of what is left afterwards; nothing is said where what was left is untold
abbrev pub TakesOff : Option (List ℕ) → List ℕ → Option (List ℕ) → Type 0
TakesOff None piece after = Unit {0}
TakesOff (Some rest) piece None = ⊥
TakesOff (Some rest) piece (Some after) = rest ≡ piece ++ after

-- what is written, with a piece after it; it stays untold where it was
abbrev pub appended : Option (List ℕ) → List ℕ → Option (List ℕ)
appended None piece = None
appended (Some bytes) piece = Some (bytes ++ piece)

-- these bytes stand in front of those
abbrev pub IsPrefix : List ℕ → List ℕ → Type 0
IsPrefix part whole = (rest : List ℕ) × (whole ≡ part ++ rest)
