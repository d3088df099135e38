use Rattle.std.specs.Prelude.{◌≡◌, ℕ, Bool, true, List, [], ◌∷◌, ◌&&◌, ◌||◌, not, bytes_eq}
use Rattle.std.specs.List.{list_all}
use Rattle.std.specs.Char.{is_ascii_lowercase}
use Rattle.est_lexer.specs.Spellings.{is_identifier, is_number, is_character}
use Rattle.est_lexer.specs.Words.{Word}
use Rattle.est_lexer.specs.declared.kind.Token.{Token}
use Rattle.est_lexer.specs.TokenList.{IsTokenList}

-- A text has one token list.
abbrev pub TokenListIsUnique : Type 0
TokenListIsUnique =
    (text : List ℕ) (xs ys : List Token) → IsTokenList text xs → IsTokenList text ys → xs ≡ ys

-- No spelling stands twice.
abbrev pub are_distinct : List Word → Bool
are_distinct [] = true
are_distinct (w ∷ ws) = list_all (λ v. not (bytes_eq v.0 w.0)) ws && are_distinct ws

-- Each row is spelled as an identifier of lower-case letters.
abbrev pub are_lower_names : List Word → Bool
are_lower_names table = list_all (λ w. is_identifier w.0 && list_all is_ascii_lowercase w.0) table

-- No row is spelled as an identifier, a number or a character constant.
abbrev pub are_apart : List Word → Bool
are_apart table = list_all (λ w. not (is_identifier w.0 || is_number w.0 || is_character w.0)) table
