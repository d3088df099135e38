use Rattle.std.specs.Prelude.{ℕ, Bool, [], ◌∷◌, ◌==◌, ◌||◌, Option, option_map, find, length}
use Rattle.std.specs.Prelude.{nat_eq}
use Rattle.std.specs.List.{starts_with}
use Rattle.std.specs.Str.{byte}
use Rattle.est_lexer.specs.declared.kind.TokenKind.{TokenKind}
use Rattle.est_lexer.specs.Words.{symbols}

-- More than one symbol begins with this byte.
abbrev pub begins_several : ℕ → Bool
begins_several b = (b == byte ".") || (b == byte ":") || (b == byte "<") || (b == byte ">")

-- The length and the kind of the symbol that three bytes begin with.
abbrev pub symbol_at : ℕ → ℕ → ℕ → Option (ℕ × TokenKind)
symbol_at first second third = option_map (λ w. (length w.0, w.1))
    (find (λ w. starts_with nat_eq (first ∷ second ∷ third ∷ []) w.0) symbols)
