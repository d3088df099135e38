-- Tokens that are spelled in the one way.
use Rattle.std.specs.Prelude.{◌≡◌, ℕ, List, [], ◌∷◌, Some, slice_get, nat_eq, if◌then◌else◌}
use Rattle.std.specs.Fmt.{decimal}
use Rattle.std.specs.Str.{str_to_ascii_lowercase}
use Rattle.est_lexer.specs.declared.kind.Token.{Token}
use Rattle.est_lexer.specs.declared.kind.TokenKind.{TokenKind}
use Rattle.est_lexer.specs.declared.kind.TokenKind.TheVariants.{Identifier, Reserved, LeftOut}
use Rattle.est_lexer.specs.declared.kind.TokenKind.TheVariants.{Number, Character, Symbol, Bad}
use Rattle.est_lexer.specs.Spans.{spelling}
use Rattle.est_lexer.specs.Spellings.{kind_of}
use Rattle.text_reader.specs.Tests.{value_of}

-- words and names in lower case, numbers in decimal without leading zeros
abbrev pub IsPlain : TokenKind → List ℕ → Type 0
IsPlain Identifier bytes = bytes ≡ str_to_ascii_lowercase bytes
IsPlain (Reserved word) bytes = bytes ≡ str_to_ascii_lowercase bytes
IsPlain Number bytes = bytes ≡ decimal (value_of bytes)
IsPlain Character bytes = Unit {0}
IsPlain (Symbol symbol) bytes = Unit {0}
IsPlain (LeftOut word) bytes = ⊥
IsPlain Bad bytes = ⊥

-- the bytes are a token of this kind, spelled in the one way
pub record IsSpelledPlainly (kind : TokenKind) (bytes : List ℕ) : Type 0 where
  pub token : kind_of bytes ≡ Some kind
  pub plain : IsPlain kind bytes

-- so is each token of a text
abbrev pub AreSpelledPlainly : List ℕ → List Token → Type 0
AreSpelledPlainly text tokens = (place : ℕ) (token : Token) → slice_get tokens place ≡ Some token
    → IsSpelledPlainly token.kind (spelling text token)

-- the constant of a character, whose quote is written as two
abbrev pub character_bytes : ℕ → List ℕ
character_bytes code = if nat_eq code 39 then 39 ∷ 39 ∷ 39 ∷ 39 ∷ [] else 39 ∷ code ∷ 39 ∷ []
