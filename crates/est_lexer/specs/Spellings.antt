use Rattle.std.specs.Prelude.{ℕ, Bool, false, List, [], ◌∷◌, ◌==◌, ◌||◌, ◌&&◌}
use Rattle.std.specs.Prelude.{not, nat_lt, nat_le, length, if◌then◌else◌, Option}
use Rattle.std.specs.Prelude.{Some, find, option_map, unwrap_or, bytes_eq}
use Rattle.std.specs.List.{list_all}
use Rattle.std.specs.Char.{is_ascii_alphabetic, is_ascii_alphanumeric, is_ascii_digit}
use Rattle.std.specs.Str.{byte, str_eq_ignore_ascii_case}
use Rattle.est_lexer.specs.declared.kind.TokenKind.{TokenKind}
use Rattle.est_lexer.specs.declared.kind.TokenKind.TheVariants.{Identifier, Number, Character}
use Rattle.est_lexer.specs.Words.{words, symbols}

-- The kind of a reserved or left-out word, which may be written in any letter case (ISO 7185, word
-- symbols).
unfoldable pub word_kind : List ℕ → Option TokenKind
word_kind bytes = option_map (λ w. w.1) (find (λ w. str_eq_ignore_ascii_case w.0 bytes) words)

-- The kind of a name: a word, or else an identifier.
abbrev pub name_kind : List ℕ → TokenKind
name_kind bytes = unwrap_or (word_kind bytes) Identifier

-- The kind of a symbol (ISO 7185, special symbols).
unfoldable pub symbol_kind : List ℕ → Option TokenKind
symbol_kind bytes = option_map (λ w. w.1) (find (λ w. bytes_eq w.0 bytes) symbols)

-- A byte that may stand in an identifier after its first letter.
abbrev pub is_identifier_part : ℕ → Bool
is_identifier_part b = is_ascii_alphanumeric b || (b == byte "_")

-- An identifier begins with a letter, and all that stands after it in the identifier are letters,
-- digits and `_` (ISO 7185, identifiers).
abbrev pub is_identifier : List ℕ → Bool
is_identifier [] = false
is_identifier (first ∷ rest) = is_ascii_alphabetic first && list_all is_identifier_part rest

-- A number has 1 to 18 digits and nothing else (ISO 7185, numbers; the bound is the profile's).
abbrev pub is_number : List ℕ → Bool
is_number [] = false
is_number (first ∷ rest) =
    is_ascii_digit first && list_all is_ascii_digit rest && nat_lt (length rest) 18

-- A byte that may stand alone between the quotes of a character constant: a printable one, and no
-- quote.
abbrev pub is_plain_character : ℕ → Bool
is_plain_character b = nat_le 32 b && nat_le b 126 && not (b == byte "'")

-- A character constant has one such byte between quotes, or two quotes, which mean one (ISO 7185,
-- character-strings).
abbrev pub is_character : List ℕ → Bool
is_character (first ∷ held ∷ last ∷ []) =
    (first == byte "'") && is_plain_character held && (last == byte "'")
is_character (first ∷ second ∷ third ∷ last ∷ []) =
    (first == byte "'") && (second == byte "'") && (third == byte "'") && (last == byte "'")
is_character _ = false

-- The kind of the token that the bytes are, if they are one.
unfoldable pub kind_of : List ℕ → Option TokenKind
kind_of bytes = if is_identifier bytes then Some (name_kind bytes)
    else if is_number bytes then Some Number
    else if is_character bytes then Some Character
    else symbol_kind bytes
