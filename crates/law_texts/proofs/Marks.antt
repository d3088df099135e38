-- The symbols of a trace, and names and numbers, as words that are written.
use Rattle.std.proofs.Common.{◌≡◌, ℕ, ◌<◌, ◌≤◌, ◌^◌, true, false, List, [], ◌∷◌, ◌++◌, get_or, refl}
use Rattle.std.proofs.Common.{ap, subst, arith, eqb, le-leb}
use Rattle.std.specs.Fmt.{decimal}
use Rattle.std.specs.Option.{unwrap_or}
use Rattle.std.specs.Prelude.{codes}
use Rattle.std.specs.Char.{is_ascii_alphabetic, is_ascii_digit}
use Rattle.std.proofs.lemmas.Bool.{and_parts}
use Rattle.std.proofs.lemmas.Bool.Decides.{nat_tests}
use Rattle.std.proofs.lemmas.List.{append-nil}
use Rattle.std.proofs.lemmas.Slice.Eq.{bytes_eq-Decides}
use Rattle.est_lexer.specs.declared.kind.TokenKind.TheVariants.{Identifier, Number, Symbol}
use Rattle.est_lexer.specs.declared.kind.Symbol as mark
use Rattle.est_lexer.specs.declared.kind.Symbol.TheVariants as sign
use Rattle.est_lexer.specs.Between.{opening}
use Rattle.est_lexer.specs.Spellings.{is_identifier, is_identifier_part, is_number}
use Rattle.est_lexer.specs.TokenKinds.{is_same}
use Rattle.est_lexer.specs.Words.{symbols}
use Rattle.text_reader.specs.Grammar.{word, token, leaf}
use Rattle.text_reader.specs.Tests.{kind, named, number, value}
use Rattle.text_reader.specs.Going.{Shape}
use Rattle.text_values.specs.TraceGrammar.{Rule, symbol}
use Rattle.law_texts.specs.PlainNames.{IsPlainName}
use Rattle.est_explanation.proofs.Words.{Written}
use Rattle.est_explanation.proofs.Numerals.{decimal_is_number, decimal_value}
use Rattle.text_printer.proofs.Standing.{Stands, name_stands, number_stands, symbol_stands}
use Rattle.law_texts.proofs.Wholes.{Ends, standing_whole}
use Rattle.law_texts.proofs.Writing.{Meets, Writes, word_written, token_written}

-- no comment begins with a `(` before the text
abbrev pub NoStar : List ℕ → Type 0
NoStar rest = eqb (get_or rest 0 0) 42 ≡ false

-- SYMBOLS

-- A symbol of one byte, which stands before any text, if no comment begins there.
pub record IsMark (s : mark.Symbol) (b : ℕ) : Type 0 where
  pub stands : (rest : List ℕ) → NoStar rest → Stands (Symbol s) (b ∷ []) rest
  pub same : is_same (Symbol s) (Symbol s) ≡ true
  pub no_part : is_identifier_part b ≡ false
  pub no_star : eqb b 42 ≡ false

pub left_bracket : IsMark sign.LeftBracket 91
unfolding opening symbols
left_bracket = record {
  stands = λ rest h. symbol_stands 91 (Symbol sign.LeftBracket) rest refl refl refl refl refl;
  same = refl;
  no_part = refl;
  no_star = refl;
}

pub right_bracket : IsMark sign.RightBracket 93
unfolding opening symbols
right_bracket = record {
  stands = λ rest h. symbol_stands 93 (Symbol sign.RightBracket) rest refl refl refl refl refl;
  same = refl;
  no_part = refl;
  no_star = refl;
}

pub left_parenthesis : IsMark sign.LeftParenthesis 40
unfolding opening symbols
left_parenthesis = record {
  stands = λ rest h. symbol_stands 40 (Symbol sign.LeftParenthesis) rest refl refl refl
      (rw h refl) refl;
  same = refl;
  no_part = refl;
  no_star = refl;
}

pub right_parenthesis : IsMark sign.RightParenthesis 41
unfolding opening symbols
right_parenthesis = record {
  stands = λ rest h. symbol_stands 41 (Symbol sign.RightParenthesis) rest refl refl refl refl
      refl;
  same = refl;
  no_part = refl;
  no_star = refl;
}

pub comma : IsMark sign.Comma 44
unfolding opening symbols
comma = record {
  stands = λ rest h. symbol_stands 44 (Symbol sign.Comma) rest refl refl refl refl refl;
  same = refl;
  no_part = refl;
  no_star = refl;
}

pub minus : IsMark sign.Minus 45
unfolding opening symbols
minus = record {
  stands = λ rest h. symbol_stands 45 (Symbol sign.Minus) rest refl refl refl refl refl;
  same = refl;
  no_part = refl;
  no_star = refl;
}

pub underscore_stands : (rest : List ℕ) → Stands (Symbol sign.Underscore) (95 ∷ []) rest
unfolding opening symbols
underscore_stands rest =
    symbol_stands 95 (Symbol sign.Underscore) rest refl refl refl refl refl

pub question_stands : (rest : List ℕ) → Stands (Symbol sign.QuestionMark) (63 ∷ []) rest
unfolding opening symbols
question_stands rest =
    symbol_stands 63 (Symbol sign.QuestionMark) rest refl refl refl refl refl

-- a symbol, and blanks
abbrev pub marked : mark.Symbol → ℕ → List ℕ → Written
marked s b gap = record { kind = Symbol s; bytes = b ∷ []; gap = gap }

pub mark_meets : (s : mark.Symbol) (b : ℕ) (gap : List ℕ) → is_same (Symbol s) (Symbol s) ≡ true
    → Meets (marked s b gap) (kind (Symbol s))
mark_meets s b gap e = λ text t w. rw w.kind e

-- a symbol before a text
pub mark_written : {After : List ℕ → Type 0} {least : ℕ} {g : Rule} {Is : Shape → Type 0}
    {bytes : List ℕ} (s : mark.Symbol) (b : ℕ) → IsMark s b → Writes After least g Is bytes
    → Writes After least (symbol s g) Is (b ∷ bytes)
mark_written {bytes = bytes} s b m x =
    word_written (kind (Symbol s)) (marked s b []) x (mark_meets s b [] m.same)
    (λ rest h. standing_whole (Symbol s) (b ∷ []) [] (bytes ++ rest) refl
    (m.stands (bytes ++ rest) (x.no_star rest h))) (λ rest. m.no_star)

-- a comma and a blank before a text
pub comma_written : {After : List ℕ → Type 0} {least : ℕ} {g : Rule} {Is : Shape → Type 0}
    {bytes : List ℕ} → Writes After least g Is bytes
    → Writes After least (symbol sign.Comma g) Is (codes ", " ++ bytes)
comma_written {bytes = bytes} x =
    word_written (kind (Symbol sign.Comma)) (marked sign.Comma 44 (32 ∷ [])) x
    (mark_meets sign.Comma 44 (32 ∷ []) comma.same)
    (λ rest h. standing_whole (Symbol sign.Comma) (44 ∷ []) (32 ∷ []) (32 ∷ (bytes ++ rest)) refl
    (comma.stands (32 ∷ (bytes ++ rest)) refl)) (λ rest. refl)

-- a text that begins with a symbol ends what stands before it
pub mark_ends : (s : mark.Symbol) (b : ℕ) → IsMark s b → (rest : List ℕ) → Ends (b ∷ rest)
mark_ends s b m rest = record { no_part = m.no_part; no_star = m.no_star }

-- NAMES

-- a name, and blanks
abbrev pub plain : List ℕ → List ℕ → Written
plain bytes gap = record { kind = Identifier; bytes = bytes; gap = gap }

pub plain_meets : (bytes gap : List ℕ) → IsPlainName bytes → Meets (plain bytes gap) (named bytes)
plain_meets bytes gap n =
    λ text t w. rw (w.kind, w.spelled, n.lower) ((bytes_eq-Decides bytes bytes).1 refl)

pub plain_stands : (bytes rest : List ℕ) → IsPlainName bytes
    → is_identifier_part (get_or rest 0 0) ≡ false → Stands Identifier bytes rest
plain_stands bytes rest n f =
    subst (λ k. Stands k bytes rest) (ap (λ o. unwrap_or o Identifier) n.no_word)
    (name_stands bytes rest n.identifier f)

letter_no_star : (b : ℕ) → is_ascii_alphabetic b ≡ true → eqb b 42 ≡ false
letter_no_star b h = grind (arith, nat_tests)

digit_no_star : (b : ℕ) → is_ascii_digit b ≡ true → eqb b 42 ≡ false
digit_no_star b h = grind (arith, nat_tests)

pub name_no_star : (bytes rest : List ℕ) → is_identifier bytes ≡ true → NoStar (bytes ++ rest)
name_no_star [] rest h = absurd cc
name_no_star (b ∷ bytes) rest h = letter_no_star b (and_parts _ _ h).0

letter_no_period : (b : ℕ) → is_ascii_alphabetic b ≡ true → b ≡ 46 → ⊥
letter_no_period b h e = grind (arith, nat_tests)

pub name_no_period : (bytes rest : List ℕ) → is_identifier bytes ≡ true
    → get_or (bytes ++ rest) 0 0 ≡ 46 → ⊥
name_no_period [] rest h = absurd cc
name_no_period (b ∷ bytes) rest h = letter_no_period b (and_parts _ _ h).0

-- a name before a text
pub name_written : {After : List ℕ → Type 0} {least : ℕ} {g : Rule} {Is : Shape → Type 0}
    {bytes : List ℕ} (name : List ℕ) → IsPlainName name → Writes After least g Is bytes
    → ((rest : List ℕ) → After rest → is_identifier_part (get_or (bytes ++ rest) 0 0) ≡ false)
    → Writes After least (word (named name) g) Is (name ++ bytes)
name_written {bytes = bytes} name n x after =
    word_written (named name) (plain name []) x (plain_meets name [] n)
    (λ rest h. standing_whole Identifier name [] (bytes ++ rest) refl
    (plain_stands name (bytes ++ rest) n (after rest h)))
    (λ rest. name_no_star name rest n.identifier)

-- NUMBERS

-- a number, and blanks
abbrev pub numeral : ℕ → List ℕ → Written
numeral n gap = record { kind = Number; bytes = decimal n; gap = gap }

pub numeral_meets : (n low high : ℕ) (gap : List ℕ) → low ≤ n → n ≤ high → n < 10 ^ 18
    → Meets (numeral n gap) (number low high)
numeral_meets n low high gap l u h = λ text t w.
    rw (w.kind, w.spelled, decimal_value n h, le-leb low n l, le-leb n high u) refl

number_no_star : (bytes rest : List ℕ) → is_number bytes ≡ true → NoStar (bytes ++ rest)
number_no_star [] rest h = absurd cc
number_no_star (b ∷ bytes) rest h =
    digit_no_star b (and_parts _ _ (and_parts _ _ h).0).0

-- a number within bounds
pub number_written : {least : ℕ} (n low high : ℕ) → low ≤ n → n ≤ high → n < 10 ^ 18
    → Writes Ends least (token (number low high)) (λ t. t ≡ leaf (value n)) (decimal n)
number_written n low high l u h =
    let is = decimal_is_number n h in
    token_written (number low high) (value n) (numeral n []) refl
    (numeral_meets n low high [] l u h)
    (λ text t w. rw (w.kind, w.spelled) (ap value (decimal_value n h)))
    (λ rest e. standing_whole Number (decimal n) [] rest refl
    (number_stands (decimal n) rest is e.no_part))
    (λ rest. number_no_star (decimal n) rest is) (append-nil (decimal n))
