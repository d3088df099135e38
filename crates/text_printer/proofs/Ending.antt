-- What may stand after a token, so that it does not go on into it.
use Rattle.std.proofs.Common.{◌≡◌, ℕ, Bool, true, false, not, ◌&&◌, List, [], ◌∷◌, get_or, refl}
use Rattle.std.proofs.Common.{sym, ◌∙◌, ap, subst, eqb, Option, Some, None, option_map, bytes_eq}
use Rattle.std.proofs.Common.{true≢false, arith}
use Rattle.std.specs.Prelude.{if◌then◌else◌, unwrap_or, find}
use Rattle.std.specs.List.{list_all}
use Rattle.std.specs.Str.{str_eq_ignore_ascii_case}
use Rattle.std.proofs.lemmas.Bool.{and_parts, not-true}
use Rattle.std.proofs.lemmas.Bool.Decides.{nat_tests}
use Rattle.std.proofs.lemmas.Slice.Eq.{bytes_eq-Decides}
use denote.Enum.Declared.{tag_of}
use Rattle.est_lexer.specs.declared.kind.TokenKind.{TokenKind}
use Rattle.est_lexer.specs.declared.kind.TokenKind.TheVariants.{Identifier, Number, Character}
use Rattle.est_lexer.specs.declared.kind.TokenKind.TheVariants.{Reserved, Symbol, LeftOut, Bad}
use Rattle.est_lexer.specs.declared.kind.Symbol as mark
use Rattle.est_lexer.specs.declared.kind.Symbol.TheVariants as sign
use Rattle.est_lexer.specs.contracts.kind.Symbol as symbols_of
use Rattle.est_lexer.specs.Between.{opening}
use Rattle.est_lexer.specs.Spellings.{is_identifier, is_identifier_part, is_number, is_character}
use Rattle.est_lexer.specs.Spellings.{kind_of, name_kind, word_kind, symbol_kind}
use Rattle.est_lexer.specs.Words.{Word, words, symbols}
use Rattle.est_lexer.proofs.SymbolBytes.{two_periods, one_period, colon_alone, below_alone}
use Rattle.est_lexer.proofs.SymbolBytes.{above_alone}
use Rattle.text_printer.proofs.SpelledWords.{symbol_list}
use Rattle.text_printer.proofs.KeptTokens.{number_spelled, character_spelled}
use Rattle.text_printer.proofs.Standing.{Stands, name_stands, number_stands, plain_stands}
use Rattle.text_printer.proofs.Standing.{quotes_stand, symbol_stands, pair_stands}

-- the spelling of a symbol
abbrev pub sign_bytes : mark.Symbol → List ℕ
sign_bytes s = get_or symbol_list (tag_of symbols_of.the_type s) []

-- whether a token of this kind does not go on into this byte, nor begins a comment with it
abbrev pub ends_at : TokenKind → ℕ → Bool
ends_at Identifier b = not (is_identifier_part b)
ends_at (Reserved word) b = not (is_identifier_part b)
ends_at Number b = not (is_identifier_part b)
ends_at Character b = true
ends_at (Symbol sign.Below) b = not (eqb b 62) && not (eqb b 61)
ends_at (Symbol sign.Above) b = not (eqb b 61)
ends_at (Symbol sign.Colon) b = not (eqb b 61)
ends_at (Symbol sign.Period) b = not (eqb b 46)
ends_at (Symbol sign.DoublePeriod) b = not (eqb b 46)
ends_at (Symbol sign.LeftParenthesis) b = not (eqb b 42)
ends_at (Symbol symbol) b = true
ends_at (LeftOut left) b = false
ends_at Bad b = false

-- HOW KINDS ARE SPELLED

-- what is found is what was looked for, and has what each row has
pub record Row (P f : Word → Bool) (k : TokenKind) : Type 0 where
  pub row : Word
  pub kind_is : row.1 ≡ k
  pub has : P row ≡ true
  pub meets : f row ≡ true

pub found_row : (P f : Word → Bool) (table : List Word) (k : TokenKind) → list_all P table ≡ true
    → option_map (λ (w : Word). w.1) (find f table) ≡ Some k → Row P f k
found_row P f [] k all here = absurd cc
found_row P f (w ∷ ws) k all here = by (f w) refl (found_row P f ws k (and_parts _ _ all).1)
  where
    by : (b : Bool) → f w ≡ b → (option_map (λ (v : Word). v.1) (find f ws) ≡ Some k → Row P f k)
        → Row P f k
    by true e more =
        let same : option_map (λ (w : Word). w.1) (find f (w ∷ ws)) ≡ Some w.1 = rw e refl in
        let one : w.1 ≡ k = cc in
        record { row = w; kind_is = one; has = (and_parts _ _ all).0; meets = e }
    by false e more =
        let same : option_map (λ (w : Word). w.1) (find f (w ∷ ws)) ≡ option_map (λ (w : Word). w.1)
        (find f ws) = rw e refl in
        more (sym same ∙ here)

abbrev is_sign : TokenKind → Bool
is_sign (Symbol symbol) = true
is_sign _ = false

-- a row of a symbol has its spelling
abbrev is_own : Word → Bool
is_own (bytes, Symbol symbol) = bytes_eq bytes (sign_bytes symbol)
is_own (bytes, _) = true

no_word_sign : (bytes : List ℕ) (k : TokenKind) → word_kind bytes ≡ Some k → is_sign k ≡ false
unfolding word_kind words
no_word_sign bytes k here =
    let r = found_row (λ w. not (is_sign w.1)) (λ w. str_eq_ignore_ascii_case w.0 bytes) words k
    refl here in
    sym (ap is_sign r.kind_is) ∙ not-true _ r.has

symbol_row : (bytes : List ℕ) (s : mark.Symbol) → symbol_kind bytes ≡ Some (Symbol s)
    → bytes ≡ sign_bytes s
unfolding symbol_kind symbols
symbol_row bytes s here =
    let r = found_row is_own (λ w. bytes_eq w.0 bytes) symbols (Symbol s) refl here in
    own r.row.0 r.row.1 r.kind_is r.has ((bytes_eq-Decides r.row.0 bytes).0 r.meets)
  where
    own : (found : List ℕ) (k : TokenKind) → k ≡ Symbol s → is_own (found, k) ≡ true
        → found ≡ bytes → bytes ≡ sign_bytes s
    own found (Symbol t) e h m =
        let same : t ≡ s = cc in
        sym m ∙ (bytes_eq-Decides found (sign_bytes t)).0 h ∙ ap sign_bytes same
    own found k e h m = absurd cc

-- a name that is a symbol is none
name_no_sign : (bytes : List ℕ) (s : mark.Symbol) (o : Option TokenKind) → word_kind bytes ≡ o
    → unwrap_or o Identifier ≡ Symbol s → ⊥
name_no_sign bytes s None is h = absurd cc
name_no_sign bytes s (Some k) is h =
    true≢false (sym (ap is_sign h) ∙ no_word_sign bytes k is)

-- the bytes of a symbol are its spelling
pub sign_spelled : (bytes : List ℕ) (s : mark.Symbol) → kind_of bytes ≡ Some (Symbol s)
    → bytes ≡ sign_bytes s
unfolding kind_of
sign_spelled bytes s h = by (is_identifier bytes) (is_number bytes) (is_character bytes) h
  where
    by : (a b c : Bool)
        → (if a then Some (name_kind bytes) else if b then Some Number
        else if c then Some Character else symbol_kind bytes) ≡ Some (Symbol s)
        → bytes ≡ sign_bytes s
    by true b c h = absurd (name_no_sign bytes s (word_kind bytes) refl cc)
    by false true c h = absurd cc
    by false false true h = absurd cc
    by false false false h = symbol_row bytes s h

-- A word is a name of its kind.
pub record IsNamed (bytes : List ℕ) (k : TokenKind) : Type 0 where
  pub letters : is_identifier bytes ≡ true
  pub kind_is : name_kind bytes ≡ k

abbrev is_name : TokenKind → Bool
is_name Identifier = true
is_name (Reserved word) = true
is_name _ = false

no_symbol_name : (bytes : List ℕ) (k : TokenKind) → symbol_kind bytes ≡ Some k
    → is_name k ≡ false
unfolding symbol_kind symbols
no_symbol_name bytes k here =
    let r = found_row (λ w. not (is_name w.1)) (λ w. bytes_eq w.0 bytes) symbols k refl here in
    sym (ap is_name r.kind_is) ∙ not-true _ r.has

pub named : (bytes : List ℕ) (k : TokenKind) → is_name k ≡ true → kind_of bytes ≡ Some k
    → IsNamed bytes k
unfolding kind_of
named bytes k n h = by (is_identifier bytes) (is_number bytes) (is_character bytes) refl h
  where
    by : (a b c : Bool) → is_identifier bytes ≡ a
        → (if a then Some (name_kind bytes) else if b then Some Number
        else if c then Some Character else symbol_kind bytes) ≡ Some k
        → IsNamed bytes k
    by true b c e h = record { letters = e; kind_is = cc }
    by false true c e h = let q : Number ≡ k = cc in
        absurd (true≢false (sym n ∙ sym (ap is_name q)))
    by false false true e h = let q : Character ≡ k = cc in
        absurd (true≢false (sym n ∙ sym (ap is_name q)))
    by false false false e h = absurd (true≢false (sym n ∙ no_symbol_name bytes k h))

-- EACH STANDS

quote_is : (b : ℕ) → eqb b 39 ≡ true → b ≡ 39
quote_is b h = grind (arith, nat_tests)

-- a byte that is told apart from another is another
other : (b x : ℕ) → not (eqb b x) ≡ true → b ≡ x → ⊥
other b x h e = grind (arith, nat_tests)

-- what is left of bytes that are a plain character constant or four quotes
character_stands : (bytes rest : List ℕ) → is_character bytes ≡ true
    → Stands Character bytes rest
character_stands [] rest h = absurd cc
character_stands (a ∷ []) rest h = absurd cc
character_stands (a ∷ b ∷ []) rest h = absurd cc
character_stands (a ∷ b ∷ c ∷ []) rest h =
    let p = and_parts _ _ h in
    let q = and_parts _ _ p.0 in
    rw (quote_is a q.0, quote_is c p.1) (plain_stands b rest q.1)
character_stands (a ∷ b ∷ c ∷ d ∷ []) rest h =
    let p = and_parts _ _ h in
    let q = and_parts _ _ p.0 in
    let r = and_parts _ _ q.0 in
    rw (quote_is a r.0, quote_is b r.1, quote_is c q.1, quote_is d p.1) (quotes_stand rest)
character_stands (a ∷ b ∷ c ∷ d ∷ e ∷ more) rest h = absurd cc

pub sign_stands : (s : mark.Symbol) (rest : List ℕ)
    → ends_at (Symbol s) (get_or rest 0 0) ≡ true → Stands (Symbol s) (sign_bytes s) rest
unfolding opening symbols
sign_stands sign.Plus rest h = symbol_stands 43 (Symbol sign.Plus) rest refl refl refl refl refl
sign_stands sign.Minus rest h = symbol_stands 45 (Symbol sign.Minus) rest refl refl refl refl refl
sign_stands sign.Star rest h = symbol_stands 42 (Symbol sign.Star) rest refl refl refl refl refl
sign_stands sign.Equal rest h = symbol_stands 61 (Symbol sign.Equal) rest refl refl refl refl refl
sign_stands sign.Unequal rest h =
    pair_stands 60 62 (Symbol sign.Unequal) rest refl refl refl refl refl
sign_stands sign.Below rest h =
    let p = and_parts _ _ h in
    symbol_stands 60 (Symbol sign.Below) rest refl refl refl refl
    (below_alone (get_or rest 0 0) (get_or rest 1 0) (other _ _ p.0) (other _ _ p.1))
sign_stands sign.AtMost rest h =
    pair_stands 60 61 (Symbol sign.AtMost) rest refl refl refl refl refl
sign_stands sign.Above rest h = symbol_stands 62 (Symbol sign.Above) rest refl refl refl refl
    (above_alone (get_or rest 0 0) (get_or rest 1 0) (other _ _ h))
sign_stands sign.AtLeast rest h =
    pair_stands 62 61 (Symbol sign.AtLeast) rest refl refl refl refl refl
sign_stands sign.LeftParenthesis rest h =
    symbol_stands 40 (Symbol sign.LeftParenthesis) rest refl refl refl (rw (not-true _ h) refl) refl
sign_stands sign.RightParenthesis rest h =
    symbol_stands 41 (Symbol sign.RightParenthesis) rest refl refl refl refl refl
sign_stands sign.LeftBracket rest h =
    symbol_stands 91 (Symbol sign.LeftBracket) rest refl refl refl refl refl
sign_stands sign.RightBracket rest h =
    symbol_stands 93 (Symbol sign.RightBracket) rest refl refl refl refl refl
sign_stands sign.Comma rest h = symbol_stands 44 (Symbol sign.Comma) rest refl refl refl refl refl
sign_stands sign.Semicolon rest h =
    symbol_stands 59 (Symbol sign.Semicolon) rest refl refl refl refl refl
sign_stands sign.Colon rest h = symbol_stands 58 (Symbol sign.Colon) rest refl refl refl refl
    (colon_alone (get_or rest 0 0) (get_or rest 1 0) (other _ _ h))
sign_stands sign.Assign rest h =
    pair_stands 58 61 (Symbol sign.Assign) rest refl refl refl refl refl
sign_stands sign.Period rest h = symbol_stands 46 (Symbol sign.Period) rest refl refl refl refl
    (one_period (get_or rest 0 0) (get_or rest 1 0) (other _ _ h))
sign_stands sign.DoublePeriod rest h =
    pair_stands 46 46 (Symbol sign.DoublePeriod) rest refl refl refl refl
    (two_periods (get_or rest 0 0) (other _ _ h))
sign_stands sign.Underscore rest h =
    symbol_stands 95 (Symbol sign.Underscore) rest refl refl refl refl refl
sign_stands sign.QuestionMark rest h =
    symbol_stands 63 (Symbol sign.QuestionMark) rest refl refl refl refl refl

-- A token stands whole before what it does not go on into.
pub stands : (kind : TokenKind) (bytes rest : List ℕ) → kind_of bytes ≡ Some kind
    → ends_at kind (get_or rest 0 0) ≡ true → Stands kind bytes rest
stands Identifier bytes rest h e =
    let n = named bytes Identifier refl h in
    subst (λ k. Stands k bytes rest) n.kind_is (name_stands bytes rest n.letters (not-true _ e))
stands (Reserved word) bytes rest h e =
    let n = named bytes (Reserved word) refl h in
    subst (λ k. Stands k bytes rest) n.kind_is (name_stands bytes rest n.letters (not-true _ e))
stands Number bytes rest h e =
    number_stands bytes rest (number_spelled bytes h) (not-true _ e)
stands Character bytes rest h e = character_stands bytes rest (character_spelled bytes h)
stands (Symbol symbol) bytes rest h e =
    subst (λ bs. Stands (Symbol symbol) bs rest) (sym (sign_spelled bytes symbol h))
    (sign_stands symbol rest e)
stands (LeftOut left) bytes rest h e = absurd cc
stands Bad bytes rest h e = absurd cc
