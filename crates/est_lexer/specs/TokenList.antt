use Rattle.std.specs.Prelude.{◌≡◌, ℕ, false, List, [], ◌∷◌, ◌+◌, ◌-◌, ◌<◌, ◌≤◌, length}
use Rattle.std.specs.Prelude.{drop, slice_get, slice_index, slice_range, Some, None}
use Rattle.std.specs.List.{prefix_len}
use Rattle.std.specs.Char.{is_ascii_digit}
use Rattle.est_lexer.specs.declared.kind.Token.{Token}
use Rattle.est_lexer.specs.declared.kind.TokenKind.TheVariants.{Bad}
use Rattle.est_lexer.specs.Between.{is_blank, opening, IsOpenComment, IsBetween}
use Rattle.est_lexer.specs.Spellings.{kind_of}
use Rattle.est_lexer.specs.Spans.{end_of, spelling}

-- How many digits stand in a row from a place on.
abbrev pub digits_at : List ℕ → ℕ → ℕ
digits_at text place = prefix_len is_ascii_digit (drop place text)

-- A token may begin at a place: it is not the beginning of a comment, nor of more digits than a
-- number may have.
pub record MayBegin (text : List ℕ) (place : ℕ) : Type 0 where
  pub no_comment : opening text place ≡ 0
  pub few_digits : digits_at text place < 19

-- The token is the longest one at its start.
pub record IsLongest (text : List ℕ) (token : Token) : Type 0 where
  pub may_begin : MayBegin text token.start
  pub inside : end_of token ≤ length text
  pub kind : kind_of (spelling text token) ≡ Some token.kind
  pub longest : (end : ℕ) → end_of token < end → end ≤ length text
      → kind_of (slice_range text token.start end) ≡ None

-- Neither a blank nor a comment nor a token begins at a place.
pub record NoneBegins (text : List ℕ) (place : ℕ) : Type 0 where
  pub inside : place < length text
  pub no_blank : is_blank (slice_index text place) ≡ false
  pub may_begin : MayBegin text place
  pub no_token : (end : ℕ) → end ≤ length text → kind_of (slice_range text place end) ≡ None

-- What a bad token spans: the one byte with which nothing begins; a comment that nothing ends, up
-- to the end of the text; or all the digits that stand in a row, where they are more than a number
-- may have.
pub data IsBadSpan (text : List ℕ) (place : ℕ) : ℕ → Type 0 where
  illegal : NoneBegins text place → IsBadSpan text place 1
  open_comment : IsOpenComment text place → IsBadSpan text place (length text - place)
  many_digits : 19 ≤ digits_at text place → IsBadSpan text place (digits_at text place)

-- The tokens from a place on, with blanks and comments around them: each is the longest that stands
-- at its start, and the first bad one is the last of all.
pub data AreTokensFrom (text : List ℕ) : ℕ → List Token → Type 0 where
  none_left : (from : ℕ) → IsBetween text from (length text) → AreTokensFrom text from []
  bad : (from : ℕ) (token : Token) → IsBetween text from token.start → token.kind ≡ Bad
      → IsBadSpan text token.start token.length → AreTokensFrom text from (token ∷ [])
  next : (from : ℕ) (token : Token) (tokens : List Token) → IsBetween text from token.start
      → IsLongest text token → AreTokensFrom text (end_of token) tokens
      → AreTokensFrom text from (token ∷ tokens)

-- The token list of a text.
abbrev pub IsTokenList : List ℕ → List Token → Type 0
IsTokenList text tokens = AreTokensFrom text 0 tokens

-- Each of the tokens lies within the text.
abbrev pub AreWithin : List ℕ → List Token → Type 0
AreWithin text tokens = (place : ℕ) (token : Token) → slice_get tokens place ≡ Some token
    → token.start + token.length ≤ length text

-- Each of them that is not bad is of the kind that its bytes are.
abbrev pub AreSpelled : List ℕ → List Token → Type 0
AreSpelled text tokens = (place : ℕ) (token : Token) → slice_get tokens place ≡ Some token
    → (token.kind ≡ Bad → ⊥) → kind_of (spelling text token) ≡ Some token.kind
