use Rattle.std.specs.Prelude.{ℕ, List, ◌-◌, length, slice_get}
use Rattle.std.specs.Option.{option_map_or}
use Rattle.est_lexer.specs.declared.kind.Token.{Token}
use Rattle.est_lexer.specs.declared.tokens.Tokens.{Tokens}
use Rattle.est_lexer.specs.Spans.{end_of}

-- The text of a token list.
abbrev pub text_of : Tokens → List ℕ
text_of tokens = tokens.text.now

-- The tokens of a token list, in the order of the text.
abbrev pub tokens_of : Tokens → List Token
tokens_of tokens = tokens.list.items

-- Where the last token ends, or 0 where there is none.
abbrev pub last_end : List Token → ℕ
last_end tokens = option_map_or end_of (slice_get tokens (length tokens - 1)) 0

-- Where the token of a place starts; the place after all tokens lies where the last one ends.
abbrev pub offset_at : List Token → ℕ → ℕ
offset_at tokens place =
    option_map_or (λ token. token.start) (slice_get tokens place) (last_end tokens)
