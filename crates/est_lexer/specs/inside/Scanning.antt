use Rattle.std.specs.Prelude.{◌≡◌, ℕ, Bool, true, false, List, [], ◌∷◌}
use Rattle.std.specs.Prelude.{map, ◌+◌, ◌<◌, ◌==◌, ◌&&◌, slice_index}
use Rattle.std.specs.List.{flat_map, list_all}
use Rattle.std.specs.Char.{to_ascii_lowercase}
use Rattle.std.specs.Borrow.{Bor}
use Rattle.est_lexer.specs.declared.kind.TokenKind.{TokenKind}
use Rattle.est_lexer.specs.declared.kind.Token.{Token}
use Rattle.est_lexer.specs.declared.kind.TokenKind.TheVariants.{Bad}
use Rattle.est_lexer.specs.Words.{Word}
use Rattle.est_lexer.specs.TokenList.{IsLongest, IsBadSpan}
use Rattle.est_lexer.specs.Between.{is_blank, opening, IsUnended}

-- Neither a blank nor a comment that has an end begins at a place.
pub record IsBegin (text : List ℕ) (place : ℕ) : Type 0 where
  pub no_blank : is_blank (slice_index text place) ≡ false
  pub unended : 0 < opening text place → IsUnended text (place + opening text place)

-- A comment that begins at a place has no end.
abbrev pub HasNoEnd : List ℕ → ℕ → Type 0
HasNoEnd text place = 0 < opening text place → IsUnended text (place + opening text place)

-- The rows of a table that the code reads.
abbrev pub rows : List (Bor (List ℕ) × TokenKind) → List Word
rows table = map (λ w. (w.0.now, w.1)) table

-- The tables of a table by letter.
abbrev pub groups : List (Bor (List (Bor (List ℕ) × TokenKind))) → List (List Word)
groups table = map (λ group. rows group.now) table

-- The words of all letters.
abbrev pub all_of : List (List Word) → List Word
all_of tables = flat_map (λ table. table) tables

-- The words of the first table begin with this letter, those of the next with the next one, and so
-- on.
abbrev pub is_by_letter : ℕ → List (List Word) → Bool
is_by_letter letter [] = true
is_by_letter letter (table ∷ tables) = list_all
    (λ w. to_ascii_lowercase (slice_index w.0 0) == letter) table && is_by_letter
    (letter + 1) tables

-- The token stands at a place and is the longest one there.
pub record IsTokenAt (text : List ℕ) (place : ℕ) (token : Token) : Type 0 where
  pub starts : token.start ≡ place
  pub longest : IsLongest text token

-- The token stands at a place where none begins.
pub record IsBadAt (text : List ℕ) (place : ℕ) (token : Token) : Type 0 where
  pub starts : token.start ≡ place
  pub kind : token.kind ≡ Bad
  pub span : IsBadSpan text token.start token.length
