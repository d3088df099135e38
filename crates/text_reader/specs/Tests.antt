-- The tests of the tokens of a text, what trees keep of tokens, and languages over them.
use Rattle.std.specs.Prelude.{ℕ, Bool, true, false, not, ◌+◌, ◌-◌, ◌*◌, ◌&&◌, nat_lt}
use Rattle.std.specs.Prelude.{nat_le, List, fold, codes, bytes_eq, slice_get, slice_index}
use Rattle.std.specs.Str.{str_to_ascii_lowercase}
use Prim.Native.String.{String}
use Rattle.est_lexer.specs.declared.kind.Token.{Token}
use Rattle.est_lexer.specs.declared.kind.TokenKind.{TokenKind}
use Rattle.est_lexer.specs.declared.kind.TokenKind.TheVariants.{Identifier, Reserved, LeftOut}
use Rattle.est_lexer.specs.declared.kind.TokenKind.TheVariants.{Number, Character, Symbol, Bad}
use Rattle.est_lexer.specs.declared.tokens.Tokens.{Tokens}
use Rattle.est_lexer.specs.TokenKinds.{is_same}
use Rattle.est_lexer.specs.Offsets.{text_of, tokens_of}
use Rattle.est_lexer.specs.Spans.{spelling}
use Rattle.text_reader.specs.Grammar.{Grammar, Language, meets}

-- A test of one token: it is of a kind; it is a word or a symbol, or an identifier, which is
-- spelled so in lower case and may be written in any letter case; it is a number within bounds; or
-- it is a character constant whose code lies within bounds.
pub data Test : Type 0 where
  kind : TokenKind → Test
  spelled : List ℕ → Test
  named : List ℕ → Test
  number : (low high : ℕ) → Test
  character : (low high : ℕ) → Test

-- this word
abbrev pub said : String → Test
said word = spelled (codes word)

-- a word or a symbol
abbrev pub is_spelled : TokenKind → Bool
is_spelled Identifier = true
is_spelled (Reserved word) = true
is_spelled (Symbol symbol) = true
is_spelled (LeftOut token) = false
is_spelled Number = false
is_spelled Character = false
is_spelled Bad = false

-- the spelling of a token of the text, in lower case
abbrev pub lowered : List ℕ → Token → List ℕ
lowered text token = str_to_ascii_lowercase (spelling text token)

-- a value with one more decimal digit after it; the digit zero has the code 48
abbrev pub with_digit : ℕ → ℕ → ℕ
with_digit value digit = 10 * value + (digit - 48)

-- the value of decimal digits (ISO 7185, 6.1.5)
abbrev pub value_of : List ℕ → ℕ
value_of digits = fold with_digit 0 digits

-- the value of a token of the text that is a number
abbrev pub value_in : List ℕ → Token → ℕ
value_in text token = value_of (spelling text token)

-- the code of the character of a character constant, which stands after its first quote
abbrev pub code_of : List ℕ → ℕ
code_of bytes = slice_index bytes 1

-- the code of a token of the text that is a character constant
abbrev pub code_in : List ℕ → Token → ℕ
code_in text token = code_of (spelling text token)

-- whether a token of the text meets a test
abbrev pub holds : List ℕ → Test → Token → Bool
holds text (kind k) token = is_same token.kind k
holds text (spelled word) token = is_spelled token.kind && bytes_eq word (lowered text token)
holds text (named name) token = is_same token.kind Identifier && bytes_eq name (lowered text token)
holds text (number low high) token = is_same token.kind Number &&
    (nat_le low (value_in text token) && nat_le (value_in text token) high)
holds text (character low high) token = is_same token.kind Character &&
    (nat_le low (code_in text token) && nat_le (code_in text token) high)

-- whether a token that meets the test stands at the place
abbrev pub stands : Tokens → ℕ → Test → Bool
stands tokens at test = meets (holds (text_of tokens)) test (slice_get (tokens_of tokens) at)

-- no token meets both tests, as far as can be seen from the tests alone
abbrev pub apart : Test → Test → Bool
apart (kind a) (kind b) = not (is_same a b)
apart (kind a) (named name) = not (is_same a Identifier)
apart (kind a) (number low high) = not (is_same a Number)
apart (kind a) (character low high) = not (is_same a Character)
apart (named name) (kind a) = not (is_same a Identifier)
apart (number low high) (kind a) = not (is_same a Number)
apart (character low high) (kind a) = not (is_same a Character)
apart (spelled word) (spelled other) = not (bytes_eq word other)
apart (spelled word) (named name) = not (bytes_eq word name)
apart (spelled word) (number low high) = true
apart (named name) (spelled word) = not (bytes_eq name word)
apart (named name) (named other) = not (bytes_eq name other)
apart (named name) (number low high) = true
apart (number low high) (spelled word) = true
apart (number low high) (named name) = true
apart (number low high) (number from to) = nat_lt high from
apart (spelled word) (character low high) = true
apart (named name) (character low high) = true
apart (number low high) (character from to) = true
apart (character low high) (spelled word) = true
apart (character low high) (named name) = true
apart (character low high) (number from to) = true
apart (character low high) (character from to) = nat_lt high from
apart _ _ = false

-- a token that meets the first test meets the second, as far as can be seen from the tests alone
abbrev pub implies : Test → Test → Bool
implies (kind a) (kind b) = is_same a b
implies (spelled word) (spelled other) = bytes_eq word other
implies (named name) (named other) = bytes_eq name other
implies (named name) (spelled word) = bytes_eq name word
implies (number low high) (number from to) = nat_le from low && nat_le high to
implies (character low high) (character from to) = nat_le from low && nat_le high to
implies _ _ = false

-- What a tree keeps of a token: the value of a number, the code of a character, and of any other
-- token its spelling in lower case.
pub data Kept : Type 0 where
  name : List ℕ → Kept
  value : ℕ → Kept
  code : ℕ → Kept

-- what is kept of a token of this kind and spelling
abbrev pub kept_as : TokenKind → List ℕ → Kept
kept_as Number bytes = value (value_of bytes)
kept_as Character bytes = code (code_of bytes)
kept_as Identifier bytes = name (str_to_ascii_lowercase bytes)
kept_as (Reserved word) bytes = name (str_to_ascii_lowercase bytes)
kept_as (Symbol symbol) bytes = name (str_to_ascii_lowercase bytes)
kept_as (LeftOut token) bytes = name (str_to_ascii_lowercase bytes)
kept_as Bad bytes = name (str_to_ascii_lowercase bytes)

-- what is kept of a token of the text
abbrev pub kept_of : List ℕ → Token → Kept
kept_of text token = kept_as token.kind (spelling text token)

-- the language of these productions over the tokens of a text
abbrev pub language : {P : Type 0} → (P → Grammar Test P) → List ℕ → Language Token Kept Test P
language production text =
    record { holds = holds text; keeps = kept_of text; production = production }
