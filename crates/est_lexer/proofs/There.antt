use Rattle.std.proofs.Common.{◌≡◌, ◌≤◌, ◌<◌, ◌+◌, ◌-◌, ℕ, suc, List, ◌∷◌, length, take, drop}
use Rattle.std.proofs.Common.{get_or, arith, true, false, refl, ap, sym, subst, ◌∙◌, eqb, ◌&&◌}
use Rattle.std.proofs.Common.{Some, None, option_map, nat_eq, find, slice_range, one-add}
use Rattle.std.specs.List.{prefix_len, starts_with}
use Rattle.std.specs.Char.{is_ascii_alphabetic, is_ascii_digit}
use Rattle.std.proofs.lemmas.Bool.{ne_eqb}
use Rattle.std.proofs.lemmas.List.{drop_more, get_or-drop, take_rest}
use Rattle.est_lexer.specs.Between.{opening}
use Rattle.est_lexer.specs.Spellings.{name_kind, is_identifier_part, is_plain_character, kind_of}
use Rattle.est_lexer.specs.Words.{symbols}
use Rattle.est_lexer.specs.inside.Scanning.{IsBegin, IsTokenAt, IsBadAt}
use Rattle.est_lexer.specs.TokenList.{MayBegin, IsBadSpan, digits_at, many_digits}
use Rattle.est_lexer.specs.declared.kind.Token.{Token}
use Rattle.est_lexer.specs.declared.kind.TokenKind.{TokenKind}
use Rattle.est_lexer.specs.declared.kind.TokenKind.TheVariants.{Number, Character, Bad}
use Rattle.est_lexer.proofs.KindOf.{letter_no_digit}
use Rattle.est_lexer.proofs.Longest.{Longest, name_longest, number_longest, plain_longest}
use Rattle.est_lexer.proofs.Longest.{quotes_longest, quote_alone, is_plain_rest, is_quotes_rest}
use Rattle.est_lexer.proofs.Longest.{token_there, illegal_there, may_begin_there}
use Rattle.est_lexer.proofs.SymbolFront.{sized, symbol_longest, no_symbol}

-- The name at a letter.
pub name_there : (text : List ℕ) (place end : ℕ) (kind : TokenKind) (token : Token)
    → place < length text → opening text place ≡ 0 → is_ascii_alphabetic (get_or text place 0)
    ≡ true → end ≡ place + 1 + prefix_len is_identifier_part (drop (place + 1) text)
    → kind ≡ name_kind (slice_range text place end) → token ≡ record {
      kind = kind;
      start = place;
      length = end - place;
    } → IsTokenAt text place token
name_there text place end kind token inside no_comment letter ends kind_is is =
    let may = may_begin_there text place inside no_comment (letter_no_digit (get_or text place 0)
    letter) in
    let split = drop_more text place 0 inside in
    let size : end - place ≡ suc (prefix_len is_identifier_part (drop (place + 1) text)) =
    omega arith in
    let here = name_longest (get_or text place 0) (drop (place + 1) text) letter in
    let there =
    subst (λ (r : List ℕ). Longest r
    (suc (prefix_len is_identifier_part (drop (place + 1) text)))
    (name_kind (take (suc (prefix_len is_identifier_part (drop (place + 1) text))) r)))
    (sym split) here in
    let same_kind : name_kind (take (suc (prefix_len is_identifier_part (drop (place + 1) text)))
    (drop place text)) ≡ kind = sym (kind_is
    ∙ ap (λ (n : ℕ). name_kind (take n (drop place text))) size) in
    let long = subst (λ (k : TokenKind). Longest (drop place text)
    (suc (prefix_len is_identifier_part (drop (place + 1) text))) k) same_kind there in
    token_there text place _ (end - place) kind token (omega arith) may long size is

digits_there : (text : List ℕ) (place : ℕ) → place < length text
    → is_ascii_digit (get_or text place 0) ≡ true
    → digits_at text place ≡ suc (prefix_len is_ascii_digit (drop (place + 1) text))
digits_there text place inside digit = rw (drop_more text place 0 inside, digit, one-add) refl

-- The number at a digit.
pub number_there : (text : List ℕ) (place size : ℕ) (token : Token) → place < length text
    → opening text place ≡ 0 → is_ascii_digit (get_or text place 0) ≡ true
    → size ≡ digits_at text place → size ≤ 18 → token ≡ record {
      kind = Number;
      start = place;
      length = size;
    } → IsTokenAt text place token
number_there text place size token inside no_comment digit size_is few is =
    let digits = digits_there text place inside digit in
    let may : MayBegin text place = record { no_comment = no_comment; few_digits = omega arith } in
    let split = drop_more text place 0 inside in
    let here = number_longest (get_or text place 0) (drop (place + 1) text) digit (omega arith) in
    let there =
    subst (λ (r : List ℕ). Longest r (suc (prefix_len is_ascii_digit (drop (place + 1) text)))
    Number) (sym split) here in
    token_there text place _ size Number token (omega arith) may there (size_is ∙ digits) is

-- Too many digits.
pub many_there : (text : List ℕ) (place size : ℕ) (token : Token) → size ≡ digits_at text place
    → 18 < size → token ≡ record { kind = Bad; start = place; length = size }
    → IsBadAt text place token
many_there text place size token size_is many is =
    let span : IsBadSpan text place size = subst (λ (n : ℕ). IsBadSpan text place n) (sym size_is)
    (many_digits (omega arith)) in
    subst (λ (t : Token). IsBadAt text place t) (sym is) (record {
      starts = refl;
      kind = refl;
      span = span;
    })

-- The bytes after a place.
behind : (text : List ℕ) (place k : ℕ)
    → get_or (drop (place + 1) text) k 0 ≡ get_or text (place + 1 + k) 0
behind text place k = get_or-drop (place + 1) text k 0

plain_behind : (text : List ℕ) (place : ℕ) → is_plain_rest (drop (place + 1) text)
    ≡ is_plain_character (get_or text (place + 1) 0) && eqb (get_or text (place + 2) 0) 39
plain_behind text place =
    let second : get_or (drop (place + 1) text) 0 0 ≡ get_or text (place + 1) 0 = behind text place
    0 ∙ ap (λ (k : ℕ). get_or text k 0) (omega arith) in
    let third : get_or (drop (place + 1) text) 1 0 ≡ get_or text (place + 2) 0 = behind text place 1
    ∙ ap (λ (k : ℕ). get_or text k 0) (omega arith) in
    rw (second, third) refl

quotes_behind : (text : List ℕ) (place : ℕ) → is_quotes_rest (drop (place + 1) text)
    ≡ eqb (get_or text (place + 1) 0) 39 && eqb (get_or text (place + 2) 0) 39 && eqb
    (get_or text (place + 3) 0) 39
quotes_behind text place =
    let second : get_or (drop (place + 1) text) 0 0 ≡ get_or text (place + 1) 0 = behind text place
    0 ∙ ap (λ (k : ℕ). get_or text k 0) (omega arith) in
    let third : get_or (drop (place + 1) text) 1 0 ≡ get_or text (place + 2) 0 = behind text place 1
    ∙ ap (λ (k : ℕ). get_or text k 0) (omega arith) in
    let fourth : get_or (drop (place + 1) text) 2 0 ≡ get_or text (place + 3) 0 = behind text place
    2 ∙ ap (λ (k : ℕ). get_or text k 0) (omega arith) in
    rw (second, third, fourth) refl

quote_split : (text : List ℕ) (place : ℕ) → place < length text → get_or text place 0 ≡ 39
    → drop place text ≡ 39 ∷ drop (place + 1) text
quote_split text place inside quote = drop_more text place 0 inside
    ∙ ap (λ (b : ℕ). b ∷ drop (place + 1) text) quote

quote_no_digit : (b : ℕ) → b ≡ 39 → is_ascii_digit b ≡ false
quote_no_digit b quote = rw quote refl

-- The character constant of a plain byte.
pub plain_there : (text : List ℕ) (place : ℕ) (token : Token) → place < length text
    → opening text place ≡ 0 → get_or text place 0 ≡ 39
    → is_plain_character (get_or text (place + 1) 0) && eqb (get_or text (place + 2) 0) 39 ≡ true
    → token ≡ record { kind = Character; start = place; length = 3 } → IsTokenAt text place token
plain_there text place token inside no_comment quote plain is =
    let may = may_begin_there text place inside no_comment (quote_no_digit _ quote) in
    let here = plain_longest (drop (place + 1) text) (plain_behind text place ∙ plain) in
    let there = subst (λ (r : List ℕ). Longest r 3 Character)
    (sym (quote_split text place inside quote)) here in
    token_there text place 3 3 Character token (omega arith) may there refl is

-- The character constant of the quote.
pub quotes_there : (text : List ℕ) (place : ℕ) (token : Token) → place < length text
    → opening text place ≡ 0 → get_or text place 0 ≡ 39
    → eqb (get_or text (place + 1) 0) 39 && eqb (get_or text (place + 2) 0) 39 && eqb
    (get_or text (place + 3) 0) 39 ≡ true → token ≡ record {
      kind = Character;
      start = place;
      length = 4;
    } → IsTokenAt text place token
quotes_there text place token inside no_comment quote quotes is =
    let may = may_begin_there text place inside no_comment (quote_no_digit _ quote) in
    let here = quotes_longest (drop (place + 1) text) (quotes_behind text place ∙ quotes) in
    let there = subst (λ (r : List ℕ). Longest r 4 Character)
    (sym (quote_split text place inside quote)) here in
    token_there text place 4 4 Character token (omega arith) may there refl is

-- A quote that begins no character constant.
pub quote_there : (text : List ℕ) (place : ℕ) (token : Token) → place < length text
    → IsBegin text place → opening text place ≡ 0 → get_or text place 0 ≡ 39
    → is_plain_character (get_or text (place + 1) 0) && eqb (get_or text (place + 2) 0) 39 ≡ false
    → eqb (get_or text (place + 1) 0) 39 && eqb (get_or text (place + 2) 0) 39 && eqb
    (get_or text (place + 3) 0) 39 ≡ false → token ≡ record {
      kind = Bad;
      start = place;
      length = 1;
    } → IsBadAt text place token
quote_there text place token inside begin no_comment quote no_plain no_quotes is =
    let may = may_begin_there text place inside no_comment (quote_no_digit _ quote) in
    let alone = quote_alone (drop (place + 1) text) (plain_behind text place ∙ no_plain)
    (quotes_behind text place ∙ no_quotes) in
    let none = subst (λ (r : List ℕ). (m : ℕ) → m ≤ length r → kind_of (take m r) ≡ None)
    (sym (quote_split text place inside quote)) (λ m within. alone m) in
    illegal_there text place token inside begin may none is

-- What the code takes for the rest of the text.
rest_split : (text : List ℕ) (place : ℕ) → place < length text
    → take (length text - place) (drop place text) ≡ get_or text place 0 ∷ drop (place + 1) text
rest_split text place inside = take_rest text place ∙ drop_more text place 0 inside

-- The symbol where no letter, digit or quote stands.
pub symbol_there : (text : List ℕ) (place : ℕ) → place < length text
    → is_ascii_alphabetic (get_or text place 0) ≡ false
    → is_ascii_digit (get_or text place 0) ≡ false → (get_or text place 0 ≡ 39 → ⊥)
    → (pair : ℕ × TokenKind)
    → Some pair ≡ option_map sized
    (find (λ w. starts_with nat_eq (take (length text - place) (drop place text)) w.0) symbols)
    → Longest (drop place text) pair.0 pair.1
symbol_there text place inside no_letter no_digit no_quote pair found =
    let split = drop_more text place 0 inside in
    let here = symbol_longest (get_or text place 0) (drop (place + 1) text) no_letter no_digit
    (ne_eqb _ _ no_quote) _ refl pair (found
    ∙ ap (λ (r : List ℕ). option_map sized (find (λ w. starts_with nat_eq r w.0) symbols))
    (rest_split text place inside)) in
    subst (λ (r : List ℕ). Longest r pair.0 pair.1) (sym split) here

pub symbol_token : (text : List ℕ) (place : ℕ) (token : Token) (size : ℕ) (kind : TokenKind)
    → place < length text → opening text place ≡ 0 → is_ascii_digit (get_or text place 0) ≡ false
    → Longest (drop place text) size kind → token ≡ record {
      kind = kind;
      start = place;
      length = size;
    } → IsTokenAt text place token
symbol_token text place token size kind inside no_comment no_digit long is = token_there text place
    size size kind token (omega arith) (may_begin_there text place inside no_comment no_digit) long
    refl is

-- A byte that begins nothing.
pub byte_there : (text : List ℕ) (place : ℕ) (token : Token) → place < length text
    → IsBegin text place → opening text place ≡ 0 → is_ascii_alphabetic (get_or text place 0)
    ≡ false → is_ascii_digit (get_or text place 0) ≡ false → (get_or text place 0 ≡ 39 → ⊥)
    → None ≡ option_map sized
    (find (λ w. starts_with nat_eq (take (length text - place) (drop place text)) w.0) symbols)
    → token ≡ record { kind = Bad; start = place; length = 1 } → IsBadAt text place token
byte_there text place token inside begin no_comment no_letter no_digit no_quote found is =
    let split = drop_more text place 0 inside in
    let may = may_begin_there text place inside no_comment no_digit in
    let here = no_symbol (get_or text place 0) (drop (place + 1) text) no_letter no_digit
    (ne_eqb _ _ no_quote) _ refl (found
    ∙ ap (λ (r : List ℕ). option_map sized (find (λ w. starts_with nat_eq r w.0) symbols))
    (rest_split text place inside)) in
    let none = subst (λ (r : List ℕ). (m : ℕ) → m ≤ length r → kind_of (take m r) ≡ None)
    (sym split) here in
    illegal_there text place token inside begin may none is
