-- How the tokens of each kind are spelled.
use Rattle.std.proofs.Common.{◌≡◌, ◌<◌, ℕ, List, [], ◌∷◌, length, arith, Bool, true, false}
use Rattle.std.proofs.Common.{refl, sym, ◌∙◌, ap, Option, Some, None, option_map, slice_get}
use Rattle.std.specs.Prelude.{if◌then◌else◌, unwrap_or, bytes_eq}
use Rattle.std.specs.List.{find, list_all}
use Rattle.std.specs.Str.{str_eq_ignore_ascii_case}
use Rattle.std.proofs.lemmas.Bool.{and_parts}
use Rattle.est_lexer.specs.declared.kind.Token.{Token}
use Rattle.est_lexer.specs.declared.kind.TokenKind.{TokenKind}
use Rattle.est_lexer.specs.declared.kind.TokenKind.TheVariants.{Identifier, Number, Character}
use Rattle.est_lexer.specs.declared.tokens.Tokens.{Tokens}
use Rattle.est_lexer.specs.Offsets.{text_of, tokens_of}
use Rattle.est_lexer.specs.Spans.{spelling}
use Rattle.est_lexer.specs.Spellings.{word_kind, name_kind, symbol_kind}
use Rattle.est_lexer.specs.Spellings.{is_number, is_character, kind_of}
use Rattle.est_lexer.specs.Words.{Word, words, symbols}

-- what is found has what each row has
found_has : (p : TokenKind → Bool) (f : Word → Bool) (table : List Word) (k : TokenKind)
    → list_all (λ w. p w.1) table ≡ true → option_map (λ (w : Word). w.1) (find f table) ≡ Some k
    → p k ≡ true
found_has p f [] k all here = absurd cc
found_has p f (w ∷ ws) k all here = by (f w) refl (found_has p f ws k (and_parts _ _ all).1)
  where
    by : (b : Bool) → f w ≡ b → (option_map (λ (v : Word). v.1) (find f ws) ≡ Some k → p k ≡ true)
        → p k ≡ true
    by true e more =
        let same : option_map (λ (w : Word). w.1) (find f (w ∷ ws)) ≡ Some w.1 = rw e refl in
        let one : w.1 ≡ k = cc in
        sym (ap p one) ∙ (and_parts _ _ all).0
    by false e more =
        let same : option_map (λ (w : Word). w.1) (find f (w ∷ ws)) ≡ option_map (λ (w : Word). w.1)
        (find f ws) = rw e refl in
        more (sym same ∙ here)

-- neither a number nor a character
abbrev is_other : TokenKind → Bool
is_other Number = false
is_other Character = false
is_other _ = true

no_word : (bytes : List ℕ) (k : TokenKind) → word_kind bytes ≡ Some k → is_other k ≡ true
unfolding word_kind words
no_word bytes k here = found_has is_other (λ w. str_eq_ignore_ascii_case w.0 bytes) words k refl
    here

no_symbol : (bytes : List ℕ) (k : TokenKind) → symbol_kind bytes ≡ Some k → is_other k ≡ true
unfolding symbol_kind symbols
no_symbol bytes k here = found_has is_other (λ w. bytes_eq w.0 bytes) symbols k refl here

no_name : (bytes : List ℕ) → is_other (name_kind bytes) ≡ true
no_name bytes = by (word_kind bytes) refl
  where
    by : (o : Option TokenKind) → word_kind bytes ≡ o → is_other (name_kind bytes) ≡ true
    by None e = ap (λ o. is_other (unwrap_or o Identifier)) e
    by (Some k) e = ap (λ o. is_other (unwrap_or o Identifier)) e ∙ no_word bytes k e

number_among : (a b c : Bool) (n : TokenKind) (o : Option TokenKind) → is_other n ≡ true
    → ((k : TokenKind) → o ≡ Some k → is_other k ≡ true)
    → (if a then Some n else if b then Some Number else if c then Some Character else o)
    ≡ Some Number → b ≡ true
number_among true b c n o f g h = absurd (let e : n ≡ Number = cc in cc)
number_among false true c n o f g h = refl
number_among false false true n o f g h = absurd cc
number_among false false false n o f g h = absurd (let e = g Number h in cc)

character_among : (a b c : Bool) (n : TokenKind) (o : Option TokenKind) → is_other n ≡ true
    → ((k : TokenKind) → o ≡ Some k → is_other k ≡ true)
    → (if a then Some n else if b then Some Number else if c then Some Character else o)
    ≡ Some Character → c ≡ true
character_among true b c n o f g h = absurd (let e : n ≡ Character = cc in cc)
character_among false true c n o f g h = absurd cc
character_among false false true n o f g h = refl
character_among false false false n o f g h = absurd (let e = g Character h in cc)

kind_is_number : (bytes : List ℕ) → kind_of bytes ≡ Some Number → is_number bytes ≡ true
unfolding kind_of
kind_is_number bytes h = number_among _ _ _ _ _ (no_name bytes) (no_symbol bytes) h

kind_is_character : (bytes : List ℕ) → kind_of bytes ≡ Some Character → is_character bytes ≡ true
unfolding kind_of
kind_is_character bytes h = character_among _ _ _ _ _ (no_name bytes) (no_symbol bytes) h

-- a token that is a number is spelled as one
pub number_spelled : (tokens : Tokens) (place : ℕ) (token : Token)
    → slice_get (tokens_of tokens) place ≡ Some token → token.kind ≡ Number
    → is_number (spelling (text_of tokens) token) ≡ true
number_spelled tokens place token at e = kind_is_number _ (tokens.kinds place token at
    (λ b. let q = sym e ∙ b in cc) ∙ ap Some e)

-- and a character
pub character_spelled : (tokens : Tokens) (place : ℕ) (token : Token)
    → slice_get (tokens_of tokens) place ≡ Some token → token.kind ≡ Character
    → is_character (spelling (text_of tokens) token) ≡ true
character_spelled tokens place token at e = kind_is_character _ (tokens.kinds place token at
    (λ b. let q = sym e ∙ b in cc) ∙ ap Some e)

-- which has a byte after its first quote
pub character_long : (bytes : List ℕ) → is_character bytes ≡ true → 1 < length bytes
character_long [] e = absurd cc
character_long (a ∷ []) e = absurd cc
character_long (a ∷ b ∷ rest) e = omega arith
