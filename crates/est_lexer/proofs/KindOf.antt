use Rattle.std.proofs.Common.{◌≡◌, ℕ, List, [], ◌∷◌, length, get_or, arith}
use Rattle.std.proofs.Common.{Bool, true, false, not, cond, refl, ap, ◌∙◌, eqb}
use Rattle.std.proofs.Common.{◌&&◌, Some, None, option_map, bytes_eq, nat_lt}
use Rattle.std.specs.List.{find, list_all}
use Rattle.std.specs.Char.{is_ascii_alphabetic, is_ascii_digit}
use Rattle.std.proofs.lemmas.Bool.{and_left, and_parts, both_ways, not-true, ne_eqb}
use Rattle.std.proofs.lemmas.Bool.Decides.{nat_tests}
use Rattle.est_lexer.specs.Between.{is_blank}
use Rattle.est_lexer.specs.Spellings.{name_kind, symbol_kind}
use Rattle.est_lexer.specs.Spellings.{is_identifier_part, is_character, kind_of}
use Rattle.est_lexer.specs.Words.{Word, symbols}
use Rattle.est_lexer.specs.declared.kind.TokenKind.TheVariants.{Number, Character}

-- No row begins with such a byte.
abbrev pub none_begins : (ℕ → Bool) → List Word → Bool
none_begins p table = list_all (λ w. not (p (get_or w.0 0 0))) table

-- A spelling that begins with another byte.
begins_otherwise : (p : ℕ → Bool) (spelling : List ℕ) (first : ℕ) (rest : List ℕ)
    → p (get_or spelling 0 0) ≡ false → p first ≡ true → bytes_eq spelling (first ∷ rest) ≡ false
begins_otherwise p [] first rest other here = refl
begins_otherwise p (x ∷ xs) first rest other here =
    and_left _ _ (ne_eqb _ _ (λ same. both_ways (p x) other (ap p same ∙ here)))

find_otherwise : (p : ℕ → Bool) (table : List Word) (first : ℕ) (rest : List ℕ)
    → none_begins p table ≡ true → p first ≡ true → find (λ w. bytes_eq w.0 (first ∷ rest)) table
    ≡ None
find_otherwise p [] first rest none here = refl
find_otherwise p (w ∷ ws) first rest none here =
    let parts = and_parts _ _ none in
    let other = begins_otherwise p w.0 first rest (not-true _ parts.0) here in
    let more = find_otherwise p ws first rest parts.1 here in
    rw other more

-- No symbol begins with such a byte.
symbol_otherwise : (p : ℕ → Bool) (first : ℕ) (rest : List ℕ) → none_begins p symbols ≡ true
    → p first ≡ true → symbol_kind (first ∷ rest) ≡ None
unfolding symbol_kind
symbol_otherwise p first rest none here = ap (option_map (λ (w : Word). w.1))
    (find_otherwise p symbols first rest none here)

pub letter_no_symbol : (first : ℕ) (rest : List ℕ) → is_ascii_alphabetic first ≡ true
    → symbol_kind (first ∷ rest) ≡ None
unfolding symbols
letter_no_symbol first rest here = symbol_otherwise is_ascii_alphabetic first rest test here
  where
    test : none_begins is_ascii_alphabetic symbols ≡ true
    test = refl

pub digit_no_symbol : (first : ℕ) (rest : List ℕ) → is_ascii_digit first ≡ true
    → symbol_kind (first ∷ rest) ≡ None
unfolding symbols
digit_no_symbol first rest here = symbol_otherwise is_ascii_digit first rest test here
  where
    test : none_begins is_ascii_digit symbols ≡ true
    test = refl

pub blank_no_symbol : (first : ℕ) (rest : List ℕ) → is_blank first ≡ true
    → symbol_kind (first ∷ rest) ≡ None
unfolding symbols
blank_no_symbol first rest here = symbol_otherwise is_blank first rest test here
  where
    test : none_begins is_blank symbols ≡ true
    test = refl

pub quote_no_symbol : (rest : List ℕ) → symbol_kind (39 ∷ rest) ≡ None
unfolding symbols
quote_no_symbol rest = symbol_otherwise (λ b. eqb b 39) 39 rest test refl
  where
    test : none_begins (λ b. eqb b 39) symbols ≡ true
    test = refl

-- A character constant begins with a quote.
no_character : (first : ℕ) (rest : List ℕ) → eqb first 39 ≡ false
    → is_character (first ∷ rest) ≡ false
no_character first [] no_quote = refl
no_character first (a ∷ []) no_quote = refl
no_character first (a ∷ b ∷ []) no_quote = rw no_quote refl
no_character first (a ∷ b ∷ d ∷ []) no_quote = rw no_quote refl
no_character first (a ∷ b ∷ d ∷ e ∷ rest) no_quote = refl

-- A letter is no digit.
pub letter_no_digit : (b : ℕ) → is_ascii_alphabetic b ≡ true → is_ascii_digit b ≡ false
letter_no_digit b letter = grind (arith, nat_tests)

letter_no_quote : (b : ℕ) → is_ascii_alphabetic b ≡ true → eqb b 39 ≡ false
letter_no_quote b letter = grind (arith, nat_tests)

digit_no_letter : (b : ℕ) → is_ascii_digit b ≡ true → is_ascii_alphabetic b ≡ false
digit_no_letter b digit = grind (arith, nat_tests)

digit_no_quote : (b : ℕ) → is_ascii_digit b ≡ true → eqb b 39 ≡ false
digit_no_quote b digit = grind (arith, nat_tests)

-- What begins with a letter is a name.
pub kind_of_letter : (first : ℕ) (rest : List ℕ) → is_ascii_alphabetic first ≡ true
    → kind_of (first ∷ rest) ≡ cond (list_all is_identifier_part rest)
    (Some (name_kind (first ∷ rest))) None
unfolding kind_of
kind_of_letter first rest letter =
    rw (
      letter,
      letter_no_digit first letter,
      no_character first rest
          (letter_no_quote first letter),
      letter_no_symbol first rest letter,
    ) refl

-- What begins with a digit is a number.
pub kind_of_digit : (first : ℕ) (rest : List ℕ) → is_ascii_digit first ≡ true
    → kind_of (first ∷ rest) ≡ cond (list_all is_ascii_digit rest && nat_lt (length rest) 18)
    (Some Number) None
unfolding kind_of
kind_of_digit first rest digit =
    rw (
      digit_no_letter first digit,
      digit,
      no_character first rest (digit_no_quote first digit),
      digit_no_symbol first rest digit,
    ) refl

-- What begins with a quote is a character constant.
pub kind_of_quote : (rest : List ℕ)
    → kind_of (39 ∷ rest) ≡ cond (is_character (39 ∷ rest)) (Some Character) None
unfolding kind_of
kind_of_quote rest = rw (quote_no_symbol rest) refl

-- What begins with another byte is a symbol.
pub kind_of_other : (first : ℕ) (rest : List ℕ) → is_ascii_alphabetic first ≡ false
    → is_ascii_digit first ≡ false → eqb first 39 ≡ false
    → kind_of (first ∷ rest) ≡ symbol_kind (first ∷ rest)
unfolding kind_of
kind_of_other first rest no_letter no_digit no_quote =
    rw (no_letter, no_digit, no_character first rest no_quote) refl
