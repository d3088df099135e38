-- What stands between the tokens of a printed text.
use Rattle.std.specs.Prelude.{◌≡◌, ℕ, ◌+◌, ◌-◌, Bool, ◌||◌, ◌&&◌, nat_eq, if◌then◌else◌, List, []}
use Rattle.std.specs.Prelude.{◌∷◌, length, slice_range, Option, Some, None}
use Rattle.est_lexer.specs.declared.kind.Token.{Token}
use Rattle.est_lexer.specs.declared.kind.TokenKind.{TokenKind}
use Rattle.est_lexer.specs.declared.kind.TokenKind.TheVariants.{Identifier, Symbol}
use Rattle.est_lexer.specs.declared.kind.Symbol.TheVariants as symbols
use Rattle.est_lexer.specs.Spans.{end_of}
use Rattle.est_lexer.specs.TokenKinds.{is_same}

-- whether a token is a `;`
abbrev pub is_semicolon : TokenKind → Bool
is_semicolon k = is_same k (Symbol symbols.Semicolon)

-- whether nothing stands before a token: `;`, `,`, `)`, `]`, `.`, `:` and `..`
abbrev pub joins_left : TokenKind → Bool
joins_left k = is_semicolon k || (is_same k (Symbol symbols.Comma)
    || (is_same k (Symbol symbols.RightParenthesis) || (is_same k (Symbol symbols.RightBracket)
    || (is_same k (Symbol symbols.Period) || (is_same k (Symbol symbols.Colon)
    || is_same k (Symbol symbols.DoublePeriod))))))

-- whether nothing stands after a token: `(`, `[`, `.` and `..`
abbrev pub joins_right : TokenKind → Bool
joins_right k = is_same k (Symbol symbols.LeftParenthesis)
    || (is_same k (Symbol symbols.LeftBracket) || (is_same k (Symbol symbols.Period)
    || is_same k (Symbol symbols.DoublePeriod)))

-- whether nothing stands between two tokens, since they are a name and `(` or `[`
abbrev pub joins_name : TokenKind → TokenKind → Bool
joins_name k l = is_same k Identifier
    && (is_same l (Symbol symbols.LeftParenthesis) || is_same l (Symbol symbols.LeftBracket))

-- how many round brackets are open after a token, where so many were open before it
abbrev pub open_after : ℕ → TokenKind → ℕ
open_after many k = if is_same k (Symbol symbols.LeftParenthesis) then many + 1
    else (if is_same k (Symbol symbols.RightParenthesis) then many - 1 else many)

-- What stands between two tokens, where so many round brackets are open after the first: a line
-- feed after a `;` outside of such brackets, nothing where they are joined, and else a blank.
abbrev pub between_them : ℕ → TokenKind → TokenKind → List ℕ
between_them nested k l = if is_semicolon k && nat_eq nested 0 then 10 ∷ []
    else (if joins_left l || (joins_right k || joins_name k l) then [] else 32 ∷ [])

-- what stands before a token: nothing where it is the first
abbrev pub gap_before : Option TokenKind → ℕ → TokenKind → List ℕ
gap_before None nested l = []
gap_before (Some k) nested l = between_them nested k l

-- Tokens that begin at an offset, with what stands between them, and a line feed after the last, at
-- which the text ends. So many round brackets are open before the first.
abbrev pub AreSpacedFrom : List ℕ → ℕ → ℕ → List Token → Type 0
AreSpacedFrom text offset nested [] = ⊥
AreSpacedFrom text offset nested (x ∷ []) = (x.start ≡ offset)
    × (slice_range text (end_of x) (length text) ≡ 10 ∷ [])
AreSpacedFrom text offset nested (x ∷ y ∷ rest) = (x.start ≡ offset)
    × (slice_range text (end_of x) y.start ≡ between_them (open_after nested x.kind) x.kind y.kind)
    × AreSpacedFrom text y.start (open_after nested x.kind) (y ∷ rest)
