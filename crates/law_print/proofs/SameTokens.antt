-- Tokens that are spelled in the one way are spelled alike where a tree cannot tell them apart.
use Rattle.std.proofs.Common.{◌≡◌, ℕ, Bool, true, false, List, [], refl, sym, ◌∙◌, ap, subst}
use Rattle.std.proofs.Common.{get_or, Option, Some, None, bytes_eq}
use Rattle.std.specs.Prelude.{unwrap_or}
use Rattle.std.specs.Fmt.{decimal}
use Rattle.std.specs.Str.{str_to_ascii_lowercase, str_eq_ignore_ascii_case}
use Rattle.std.proofs.lemmas.Bool.{eqb-true}
use Rattle.std.proofs.lemmas.Slice.Eq.{bytes_eq-Decides}
use denote.Enum.Declared.{tag_of}
use Rattle.est_lexer.specs.declared.kind.Token.{Token}
use Rattle.est_lexer.specs.declared.kind.TokenKind.{TokenKind}
use Rattle.est_lexer.specs.declared.kind.TokenKind.TheVariants.{Identifier, Number, Character}
use Rattle.est_lexer.specs.declared.kind.TokenKind.TheVariants.{Reserved, Symbol, LeftOut, Bad}
use Rattle.est_lexer.specs.declared.kind.ReservedWord.{ReservedWord}
use Rattle.est_lexer.specs.declared.kind.Symbol as mark
use Rattle.est_lexer.specs.contracts.kind.ReservedWord as reserved
use Rattle.est_lexer.specs.contracts.kind.Symbol as symbols_of
use Rattle.est_lexer.specs.Spans.{spelling}
use Rattle.est_lexer.specs.Spellings.{word_kind}
use Rattle.est_lexer.specs.TokenKinds.{is_same}
use Rattle.est_lexer.specs.Words.{Word, words}
use Rattle.text_reader.specs.Tests.{Test, kind, Kept, kept_as, kept_of, value_of, code_of, holds}
use Rattle.text_printer.specs.PlainSpelling.{IsSpelledPlainly, character_bytes}
use Rattle.text_printer.proofs.SpelledWords.{word_list, symbol_list, word_listed}
use Rattle.text_printer.proofs.KeptTokens.{is_identifier_kind, is_number_kind, is_character_kind}
use Rattle.text_printer.proofs.KeptTokens.{character_spelled}
use Rattle.text_printer.proofs.Single.{character_is}
use Rattle.text_printer.proofs.Ending.{sign_bytes, sign_spelled, named, found_row}

-- whether a test is that of a word or a symbol
abbrev pub is_word : Test → Bool
is_word (kind (Reserved w)) = true
is_word (kind (Symbol s)) = true
is_word _ = false

-- whether a test is that of a name, a number or a character
abbrev pub is_kept : Test → Bool
is_kept (kind Identifier) = true
is_kept (kind Number) = true
is_kept (kind Character) = true
is_kept _ = false

-- the spelling of a word
abbrev word_bytes : ReservedWord → List ℕ
word_bytes w = get_or word_list (tag_of reserved.the_type w) []

-- WORDS AND SYMBOLS

same_sign : (t s : mark.Symbol) → is_same (Symbol t) (Symbol s) ≡ true
    → sign_bytes t ≡ sign_bytes s
same_sign t s h = ap (λ n. get_or symbol_list n [])
    (eqb-true (tag_of symbols_of.the_type t) (tag_of symbols_of.the_type s) h)

same_word : (v w : ReservedWord) → is_same (Reserved v) (Reserved w) ≡ true
    → word_bytes v ≡ word_bytes w
same_word v w h = ap (λ n. get_or word_list n [])
    (eqb-true (tag_of reserved.the_type v) (tag_of reserved.the_type w) h)

of_sign : (l : TokenKind) (s : mark.Symbol) (bytes : List ℕ) → is_same l (Symbol s) ≡ true
    → IsSpelledPlainly l bytes → bytes ≡ sign_bytes s
of_sign (Symbol t) s bytes h p = sign_spelled bytes t p.token ∙ same_sign t s h
of_sign Identifier s bytes h p = absurd cc
of_sign Number s bytes h p = absurd cc
of_sign Character s bytes h p = absurd cc
of_sign (Reserved word) s bytes h p = absurd cc
of_sign (LeftOut left) s bytes h p = absurd cc
of_sign Bad s bytes h p = absurd cc

-- a row of a word has its spelling
abbrev is_own : Word → Bool
is_own (bytes, Reserved w) = bytes_eq bytes (word_bytes w)
is_own (bytes, _) = true

named_word : (bytes : List ℕ) (w : ReservedWord) (o : Option TokenKind) → word_kind bytes ≡ o
    → unwrap_or o Identifier ≡ Reserved w → word_kind bytes ≡ Some (Reserved w)
named_word bytes w None e h = absurd cc
named_word bytes w (Some k) e h = e ∙ ap Some h

word_row : (bytes : List ℕ) (w : ReservedWord) → word_kind bytes ≡ Some (Reserved w)
    → bytes ≡ str_to_ascii_lowercase bytes → bytes ≡ word_bytes w
unfolding word_kind words
word_row bytes w here low =
    let r = found_row is_own (λ w. str_eq_ignore_ascii_case w.0 bytes) words (Reserved w) refl here
    in
    own r.row.0 r.row.1 r.kind_is r.has r.meets
  where
    own : (found : List ℕ) (k : TokenKind) → k ≡ Reserved w → is_own (found, k) ≡ true
        → str_eq_ignore_ascii_case found bytes ≡ true → bytes ≡ word_bytes w
    own found (Reserved v) e h m =
        let same : v ≡ w = cc in
        let is : found ≡ word_bytes v = (bytes_eq-Decides found (word_bytes v)).0 h in
        let alike : str_to_ascii_lowercase found ≡ str_to_ascii_lowercase bytes =
        (bytes_eq-Decides (str_to_ascii_lowercase found) (str_to_ascii_lowercase bytes)).0 m in
        low ∙ sym alike ∙ ap str_to_ascii_lowercase is ∙ sym (word_listed v []).plain
        ∙ ap word_bytes same
    own found k e h m = absurd cc

of_word : (l : TokenKind) (w : ReservedWord) (bytes : List ℕ) → is_same l (Reserved w) ≡ true
    → IsSpelledPlainly l bytes → bytes ≡ word_bytes w
of_word (Reserved v) w bytes h p =
    let n = named bytes (Reserved v) refl p.token in
    word_row bytes v (named_word bytes v (word_kind bytes) refl n.kind_is) p.plain ∙ same_word v w h
of_word Identifier w bytes h p = absurd cc
of_word Number w bytes h p = absurd cc
of_word Character w bytes h p = absurd cc
of_word (Symbol symbol) w bytes h p = absurd cc
of_word (LeftOut left) w bytes h p = absurd cc
of_word Bad w bytes h p = absurd cc

pub met_same : (k : Test) → is_word k ≡ true → (text other : List ℕ) (x y : Token)
    → holds text k x ≡ true → holds other k y ≡ true → IsSpelledPlainly x.kind (spelling text x)
    → IsSpelledPlainly y.kind (spelling other y) → spelling text x ≡ spelling other y
met_same (kind (Reserved w)) e text other x y h k p q =
    of_word x.kind w (spelling text x) h p ∙ sym (of_word y.kind w (spelling other y) k q)
met_same (kind (Symbol s)) e text other x y h k p q =
    of_sign x.kind s (spelling text x) h p ∙ sym (of_sign y.kind s (spelling other y) k q)
met_same k e text other x y h i p q = absurd cc

-- NAMES, NUMBERS AND CHARACTERS

name_same : (a b : List ℕ) (v : Kept) → IsSpelledPlainly Identifier a
    → IsSpelledPlainly Identifier b → kept_as Identifier a ≡ v → kept_as Identifier b ≡ v → a ≡ b
name_same a b v p q e f =
    let one : str_to_ascii_lowercase a ≡ str_to_ascii_lowercase b = cc in
    p.plain ∙ one ∙ sym q.plain

number_same : (a b : List ℕ) (v : Kept) → IsSpelledPlainly Number a → IsSpelledPlainly Number b
    → kept_as Number a ≡ v → kept_as Number b ≡ v → a ≡ b
number_same a b v p q e f =
    let one : value_of a ≡ value_of b = cc in
    p.plain ∙ ap decimal one ∙ sym q.plain

character_same : (a b : List ℕ) (v : Kept) → IsSpelledPlainly Character a
    → IsSpelledPlainly Character b → kept_as Character a ≡ v → kept_as Character b ≡ v → a ≡ b
character_same a b v p q e f =
    let one : code_of a ≡ code_of b = cc in
    sym (character_is a (character_spelled a p.token)) ∙ ap character_bytes one
    ∙ character_is b (character_spelled b q.token)

-- tokens of one of these kinds
both_kinds : (k : TokenKind) (text other : List ℕ) (x y : Token) (v : Kept) → x.kind ≡ k
    → y.kind ≡ k → ((a b : List ℕ) → IsSpelledPlainly k a → IsSpelledPlainly k b
    → kept_as k a ≡ v → kept_as k b ≡ v → a ≡ b) → kept_of text x ≡ v → kept_of other y ≡ v
    → IsSpelledPlainly x.kind (spelling text x) → IsSpelledPlainly y.kind (spelling other y)
    → spelling text x ≡ spelling other y
both_kinds k text other x y v e f g h i p q =
    g (spelling text x) (spelling other y)
    (subst (λ j. IsSpelledPlainly j (spelling text x)) e p)
    (subst (λ j. IsSpelledPlainly j (spelling other y)) f q)
    (sym (ap (λ j. kept_as j (spelling text x)) e) ∙ h)
    (sym (ap (λ j. kept_as j (spelling other y)) f) ∙ i)

pub kept_same : (k : Test) → is_kept k ≡ true → (v : Kept) (text other : List ℕ) (x y : Token)
    → holds text k x ≡ true → holds other k y ≡ true → kept_of text x ≡ v → kept_of other y ≡ v
    → IsSpelledPlainly x.kind (spelling text x) → IsSpelledPlainly y.kind (spelling other y)
    → spelling text x ≡ spelling other y
kept_same (kind Identifier) e v text other x y h k i j p q =
    both_kinds Identifier text other x y v (is_identifier_kind x.kind h)
    (is_identifier_kind y.kind k) (λ a b. name_same a b v) i j p q
kept_same (kind Number) e v text other x y h k i j p q =
    both_kinds Number text other x y v (is_number_kind x.kind h)
    (is_number_kind y.kind k) (λ a b. number_same a b v) i j p q
kept_same (kind Character) e v text other x y h k i j p q =
    both_kinds Character text other x y v (is_character_kind x.kind h)
    (is_character_kind y.kind k) (λ a b. character_same a b v) i j p q
kept_same k e v text other x y h i j l p q = absurd cc
