-- Names, numbers and character constants that a tree keeps are printed so that they are read again.
use Rattle.std.specs.Prelude.{fold}
use Rattle.std.specs.List.{list_all}
use Rattle.std.specs.Char.{is_ascii_alphabetic, is_ascii_digit}
use Rattle.std.specs.Fmt.{decimal}
use Rattle.std.specs.Str.{str_to_ascii_lowercase}
use Rattle.std.proofs.Common.{◌≡◌, refl, sym, ap, ◌∙◌, subst, ℕ, true, false, List, [], ◌∷◌, ◌≤◌}
use Rattle.std.proofs.Common.{◌<◌, ◌^◌, Some, None, eqb, arith, length, rules, lt-ltb, ltb-true}
use Rattle.std.proofs.Common.{nat_eq, nat_lt, ◌&&◌}
use Rattle.std.proofs.lemmas.Bool.{and_parts}
use Rattle.std.proofs.lemmas.Bool.Decides.{nat_tests}
use Rattle.std.proofs.lemmas.Fmt.{digits_decimal, digits_value-decimal, decimal_nonempty}
use Rattle.std.proofs.lemmas.Fmt.{length-decimal-le}
use Rattle.std.proofs.lemmas.Str.Parse.{IsNumeralModel, numerals_by_fold, digits_value_short}
use Rattle.est_lexer.specs.declared.kind.TokenKind.{TokenKind}
use Rattle.est_lexer.specs.declared.kind.TokenKind.TheVariants.{Identifier, Number, Character, Bad}
use Rattle.est_lexer.specs.Spellings.{is_identifier, word_kind, is_number, is_plain_character}
use Rattle.est_lexer.specs.Spellings.{is_character, kind_of}
use Rattle.est_lexer.specs.TokenKinds.{is_same}
use Rattle.text_reader.specs.Grammar.{token}
use Rattle.text_reader.specs.Shown.{kept}
use Rattle.est_syntax.specs.declared.name.Used.{Used}
use Rattle.text_reader.specs.Tests as kinds
use Rattle.text_reader.specs.Tests.{kind, Kept, kept_as, value_of, code_of, with_digit}
use Rattle.text_reader.specs.Going.{identifier, used}
use Rattle.text_productions.specs.Productions.{number, character}
use Rattle.text_printer.specs.declared.printer.Printer.{Printer}
use Rattle.text_printer.specs.PlainSpelling.{IsSpelledPlainly, character_bytes}
use Rattle.text_printer.specs.Putting.{Puts}
use Rattle.text_printer.specs.Printing.{Next, same_else, no_else, PrintsFor}
use Rattle.text_printer.proofs.KeptTokens.{identifier_spelled, number_spelled, character_spelled}
use Rattle.text_printer.proofs.KeptTokens.{lower_identifier, lower_twice, lower_word}
use Rattle.text_printer.proofs.KeptTokens.{is_identifier_kind, is_number_kind, is_character_kind}
use Rattle.text_printer.proofs.Putting.{put_grows}
use Rattle.text_printer.proofs.Parts.{is_no_else, token_as}
use Rattle.text_printer.proofs.Printing.{here_prints}
use Rattle.text_printer.specs.PlainNodes.{estelle}

-- NAMES

-- what names keep of an identifier is one, spelled in the one way
name_kept : (bytes old : List ℕ) → kind_of old ≡ Some Identifier
    → kept_as Identifier old ≡ kinds.name bytes
    → IsSpelledPlainly Identifier bytes × (kept_as Identifier bytes ≡ kinds.name bytes)
unfolding kind_of
name_kept bytes old h e =
    let r = identifier_spelled old h in
    let same : bytes ≡ str_to_ascii_lowercase old = cc in
    let lower : bytes ≡ str_to_ascii_lowercase bytes =
    same ∙ sym (lower_twice old) ∙ ap str_to_ascii_lowercase (sym same) in
    let letters : is_identifier bytes ≡ true =
    ap is_identifier same ∙ lower_identifier old r.letters in
    let no_word : word_kind bytes ≡ None = ap word_kind same ∙ lower_word old ∙ r.no_word in
    (record { token = rw (letters, no_word) refl; plain = lower }, ap kinds.name (sym lower))

-- NUMBERS

own : IsNumeralModel (λ ds. list_all is_ascii_digit ds ≡ true) value_of
own = numerals_by_fold _ (search rules) (fold with_digit) (search rules)

number_of : (ds : List ℕ) → list_all is_ascii_digit ds ≡ true → 0 < length ds → length ds ≤ 18
    → is_number ds ≡ true
number_of [] h some few = absurd (omega arith)
number_of (d ∷ ds) h some few = rw (h, lt-ltb (length ds) 18 (omega arith)) refl

number_small : (bytes : List ℕ) → is_number bytes ≡ true → value_of bytes < 10 ^ 18
number_small [] h = absurd cc
number_small (d ∷ ds) h =
    let p = and_parts (is_ascii_digit d && list_all is_ascii_digit ds) (nat_lt (length ds) 18) h in
    let few : length ds < 18 = ltb-true (length ds) 18 p.1 in
    digits_value_short own (d ∷ ds) 18 p.0 (omega (arith, few))

decimal_kind : (n : ℕ) → n < 10 ^ 18 → kind_of (decimal n) ≡ Some Number
unfolding kind_of
decimal_kind n h =
    let small : n < 2 ^ 64 = omega arith in
    let digits = digits_decimal own n small in
    let number = number_of (decimal n) digits (decimal_nonempty n small)
    (length-decimal-le 18 n (omega arith) h small) in
    rw (no_letter (decimal n) digits, number) refl
  where
    digit_no_letter : (b : ℕ) → is_ascii_digit b ≡ true → is_ascii_alphabetic b ≡ false
    digit_no_letter b h = grind (arith, nat_tests)

    no_letter : (ds : List ℕ) → list_all is_ascii_digit ds ≡ true → is_identifier ds ≡ false
    no_letter [] h = refl
    no_letter (d ∷ ds) h = rw (digit_no_letter d (and_parts _ _ h).0) refl

number_kept : (n : ℕ) (old : List ℕ) → kind_of old ≡ Some Number
    → kept_as Number old ≡ kinds.value n
    → IsSpelledPlainly Number (decimal n) × (kept_as Number (decimal n) ≡ kinds.value n)
number_kept n old h e =
    let same : value_of old ≡ n = cc in
    let small : n < 10 ^ 18 = subst (λ m. m < 10 ^ 18) same
    (number_small old (number_spelled old h)) in
    let back : value_of (decimal n) ≡ n = digits_value-decimal own n (omega arith) in
    (record { token = decimal_kind n small; plain = ap decimal (sym back) }, ap kinds.value back)

-- CHARACTERS

quote_is : (b : ℕ) → eqb b 39 ≡ true → b ≡ 39
quote_is b h = grind (arith, nat_tests)

plain_no_quote : (b : ℕ) → is_plain_character b ≡ true → nat_eq b 39 ≡ false
plain_no_quote b h = grind (arith, nat_tests)

-- the bytes of a character constant are those that its code has
pub character_is : (bytes : List ℕ) → is_character bytes ≡ true
    → character_bytes (code_of bytes) ≡ bytes
character_is [] h = absurd cc
character_is (a ∷ []) h = absurd cc
character_is (a ∷ b ∷ []) h = absurd cc
character_is (a ∷ b ∷ c ∷ []) h =
    let p = and_parts _ _ h in
    let q = and_parts _ _ p.0 in
    rw (plain_no_quote b q.1, quote_is a q.0, quote_is c p.1) refl
character_is (a ∷ b ∷ c ∷ d ∷ []) h =
    let p = and_parts _ _ h in
    let q = and_parts _ _ p.0 in
    let r = and_parts _ _ q.0 in
    rw (quote_is a r.0, quote_is b r.1, quote_is c q.1, quote_is d p.1) refl
character_is (a ∷ b ∷ c ∷ d ∷ e ∷ rest) h = absurd cc

character_kept : (n : ℕ) (old : List ℕ) → kind_of old ≡ Some Character
    → kept_as Character old ≡ kinds.code n
    → IsSpelledPlainly Character (character_bytes n)
    × (kept_as Character (character_bytes n) ≡ kinds.code n)
character_kept n old h e =
    let same : code_of old ≡ n = cc in
    let bytes : character_bytes n ≡ old =
    ap character_bytes (sym same) ∙ character_is old (character_spelled old h) in (
      record { token = ap kind_of bytes ∙ h; plain = tt },
      ap (λ bs. kinds.code (code_of bs)) bytes ∙ ap kinds.code same,
    )

-- WHAT IS PRINTED

token_prints : {f : Next} {k : TokenKind} {bytes : List ℕ} {v : Kept} {A B : Printer}
    → is_no_else k ≡ true → ((l : TokenKind) → is_same l k ≡ true → l ≡ k) → (k ≡ Bad → ⊥)
    → ((old : List ℕ) → kind_of old ≡ Some k → kept_as k old ≡ v
    → IsSpelledPlainly k bytes × (kept_as k bytes ≡ v))
    → Puts k bytes A B → PrintsFor f estelle (token (kind k)) (kept v) (kept v) A B
token_prints n one good told p = record {
  grows = λ e. put_grows (p.put e);
  same = λ e. token_as n (p.put e) same_else one good told;
  without = λ e. token_as n (p.put e) no_else one good told;
}

pub name_prints : {f : Next} (u : Used) {A B : Printer} → Puts Identifier u.name.bytes A B
    → PrintsFor f estelle identifier (used u) (used u) A B
name_prints u p = here_prints (token_prints refl is_identifier_kind (λ q. cc)
    (name_kept u.name.bytes) p) u.place

pub number_prints : {f : Next} (n : ℕ) {A B : Printer} → Puts Number (decimal n) A B
    → PrintsFor f estelle number (kept (kinds.value n)) (kept (kinds.value n)) A B
number_prints n p = token_prints refl is_number_kind (λ q. cc) (number_kept n) p

pub character_prints : {f : Next} (n : ℕ) {A B : Printer} → Puts Character (character_bytes n) A B
    → PrintsFor f estelle character (kept (kinds.code n)) (kept (kinds.code n)) A B
character_prints n p = token_prints refl is_character_kind (λ q. cc) (character_kept n) p
