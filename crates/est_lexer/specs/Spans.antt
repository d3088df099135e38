use Rattle.std.specs.Prelude.{ℕ, List, ◌+◌, slice_range}
use Rattle.est_lexer.specs.declared.kind.Token.{Token}

-- The place of the byte after a token.
abbrev pub end_of : Token → ℕ
end_of token = token.start + token.length

-- The bytes of a token.
abbrev pub spelling : List ℕ → Token → List ℕ
spelling text token = slice_range text token.start (end_of token)
