-- How the tokens are spelled of which trees keep something: identifiers, numbers and characters.
use Rattle.std.specs.Prelude.{if◌then◌else◌, unwrap_or, find, bytes_eq, option_map, map}
use Rattle.std.specs.List.{list_all}
use Rattle.std.specs.Char.{is_ascii_alphabetic, to_ascii_lowercase}
use Rattle.std.specs.Str.{str_to_ascii_lowercase, str_eq_ignore_ascii_case}
use Rattle.std.proofs.Common.{◌≡◌, refl, sym, ap, ◌∙◌, true≢false, ℕ, Bool, true, false}
use Rattle.std.proofs.Common.{List, [], ◌∷◌, Option, Some, None, arith}
use Rattle.std.proofs.lemmas.Bool.{and_parts}
use Rattle.std.proofs.lemmas.Bool.Decides.{nat_tests}
use Rattle.std.proofs.lemmas.Str.Ascii.{lowercase-lowercase}
use Rattle.est_lexer.specs.declared.kind.TokenKind.{TokenKind}
use Rattle.est_lexer.specs.declared.kind.TokenKind.TheVariants.{Identifier, Number, Character}
use Rattle.est_lexer.specs.declared.kind.TokenKind.TheVariants.{Reserved, Symbol, LeftOut, Bad}
use Rattle.est_lexer.specs.Spellings.{is_identifier, is_identifier_part, name_kind, word_kind}
use Rattle.est_lexer.specs.Spellings.{symbol_kind, is_number, is_character, kind_of}
use Rattle.est_lexer.specs.TokenKinds.{is_same}
use Rattle.est_lexer.specs.Words.{Word, words, symbols}

-- BY THEIR KINDS

-- a word or a symbol
abbrev is_other : TokenKind → Bool
is_other Identifier = false
is_other Number = false
is_other Character = false
is_other _ = true

-- what is found has what each row has
found_has : (p : TokenKind → Bool) (f : Word → Bool) (table : List Word) (k : TokenKind)
    → list_all (λ w. p w.1) table ≡ true → option_map (λ (w : Word). w.1) (find f table) ≡ Some k
    → p k ≡ true
found_has p f [] k all here = absurd cc
found_has p f (w ∷ ws) k all here = by (f w) refl (found_has p f ws k (and_parts _ _ all).1)
  where
    by : (b : Bool) → f w ≡ b → (option_map (λ (v : Word). v.1) (find f ws) ≡ Some k → p k ≡ true)
        → p k ≡ true
    by true e more =
        let same : option_map (λ (w : Word). w.1) (find f (w ∷ ws)) ≡ Some w.1 = rw e refl in
        let one : w.1 ≡ k = cc in
        sym (ap p one) ∙ (and_parts _ _ all).0
    by false e more =
        let same : option_map (λ (w : Word). w.1) (find f (w ∷ ws)) ≡ option_map (λ (w : Word). w.1)
        (find f ws) = rw e refl in
        more (sym same ∙ here)

no_word_names : (bytes : List ℕ) (k : TokenKind) → word_kind bytes ≡ Some k → is_other k ≡ true
unfolding word_kind words
no_word_names bytes k here =
    found_has is_other (λ w. str_eq_ignore_ascii_case w.0 bytes) words k refl here

no_symbol_names : (bytes : List ℕ) (k : TokenKind) → symbol_kind bytes ≡ Some k
    → is_other k ≡ true
unfolding symbol_kind symbols
no_symbol_names bytes k here = found_has is_other (λ w. bytes_eq w.0 bytes) symbols k refl here

-- an identifier, where the kind is that of one
among : (a b c : Bool) (n : TokenKind) (o : Option TokenKind)
    → ((k : TokenKind) → o ≡ Some k → is_other k ≡ true)
    → (if a then Some n else if b then Some Number else if c then Some Character else o)
    ≡ Some Identifier → (a ≡ true) × (n ≡ Identifier)
among true b c n o g h = (refl, cc)
among false true c n o g h = absurd cc
among false false true n o g h = absurd cc
among false false false n o g h = absurd (true≢false (sym (g Identifier h)))

no_word_there : (bytes : List ℕ) (o : Option TokenKind) → word_kind bytes ≡ o
    → unwrap_or o Identifier ≡ Identifier → o ≡ None
no_word_there bytes None is h = refl
no_word_there bytes (Some k) is h =
    absurd (true≢false (sym (no_word_names bytes k is) ∙ ap is_other h))

-- an identifier, which is no word
pub record IsIdentifier (bytes : List ℕ) : Type 0 where
  pub letters : is_identifier bytes ≡ true
  pub no_word : word_kind bytes ≡ None

pub identifier_spelled : (bytes : List ℕ) → kind_of bytes ≡ Some Identifier → IsIdentifier bytes
unfolding kind_of
identifier_spelled bytes h =
    let r = among (is_identifier bytes) (is_number bytes) (is_character bytes) (name_kind bytes)
    (symbol_kind bytes) (no_symbol_names bytes) h in
    record { letters = r.0; no_word = no_word_there bytes (word_kind bytes) refl r.1 }

character_among : (a b c : Bool) (n : TokenKind) (o : Option TokenKind) → (n ≡ Character → ⊥)
    → ((k : TokenKind) → o ≡ Some k → is_other k ≡ true)
    → (if a then Some n else if b then Some Number else if c then Some Character else o)
    ≡ Some Character → c ≡ true
character_among true b c n o f g h = absurd (f cc)
character_among false true c n o f g h = absurd cc
character_among false false true n o f g h = refl
character_among false false false n o f g h = absurd (true≢false (sym (g Character h)))

no_character : (bytes : List ℕ) (o : Option TokenKind) → word_kind bytes ≡ o
    → unwrap_or o Identifier ≡ Character → ⊥
no_character bytes None is h = absurd cc
no_character bytes (Some k) is h = true≢false (sym (no_word_names bytes k is) ∙ ap is_other h)

pub character_spelled : (bytes : List ℕ) → kind_of bytes ≡ Some Character
    → is_character bytes ≡ true
unfolding kind_of
character_spelled bytes h =
    character_among (is_identifier bytes) (is_number bytes) (is_character bytes) (name_kind bytes)
    (symbol_kind bytes) (no_character bytes (word_kind bytes) refl) (no_symbol_names bytes) h

number_among : (a b c : Bool) (n : TokenKind) (o : Option TokenKind) → (n ≡ Number → ⊥)
    → ((k : TokenKind) → o ≡ Some k → is_other k ≡ true)
    → (if a then Some n else if b then Some Number else if c then Some Character else o)
    ≡ Some Number → b ≡ true
number_among true b c n o f g h = absurd (f cc)
number_among false true c n o f g h = refl
number_among false false true n o f g h = absurd cc
number_among false false false n o f g h = absurd (true≢false (sym (g Number h)))

no_number : (bytes : List ℕ) (o : Option TokenKind) → word_kind bytes ≡ o
    → unwrap_or o Identifier ≡ Number → ⊥
no_number bytes None is h = absurd cc
no_number bytes (Some k) is h = true≢false (sym (no_word_names bytes k is) ∙ ap is_other h)

pub number_spelled : (bytes : List ℕ) → kind_of bytes ≡ Some Number → is_number bytes ≡ true
unfolding kind_of
number_spelled bytes h =
    number_among (is_identifier bytes) (is_number bytes) (is_character bytes) (name_kind bytes)
    (symbol_kind bytes) (no_number bytes (word_kind bytes) refl) (no_symbol_names bytes) h

-- IN LOWER CASE

letter_lower : (b : ℕ) → is_ascii_alphabetic b ≡ true
    → is_ascii_alphabetic (to_ascii_lowercase b) ≡ true
letter_lower b h = grind (arith, nat_tests)

part_lower : (b : ℕ) → is_identifier_part b ≡ true
    → is_identifier_part (to_ascii_lowercase b) ≡ true
part_lower b h = grind (arith, nat_tests)

parts_lower : (bs : List ℕ) → list_all is_identifier_part bs ≡ true
    → list_all is_identifier_part (map to_ascii_lowercase bs) ≡ true
parts_lower [] h = refl
parts_lower (b ∷ bs) h =
    let p = and_parts _ _ h in
    rw (part_lower b p.0, parts_lower bs p.1) refl

pub lower_identifier : (bytes : List ℕ) → is_identifier bytes ≡ true
    → is_identifier (str_to_ascii_lowercase bytes) ≡ true
lower_identifier [] h = absurd cc
lower_identifier (b ∷ bs) h =
    let p = and_parts _ _ h in
    rw (letter_lower b p.0, parts_lower bs p.1) refl

pub lower_twice : (bytes : List ℕ)
    → str_to_ascii_lowercase (str_to_ascii_lowercase bytes) ≡ str_to_ascii_lowercase bytes
lower_twice [] = refl
lower_twice (b ∷ bs) = λ i. lowercase-lowercase b i ∷ lower_twice bs i

pub lower_word : (bytes : List ℕ) → word_kind (str_to_ascii_lowercase bytes) ≡ word_kind bytes
unfolding word_kind
lower_word bytes = ap (λ (low : List ℕ). option_map (λ (w : Word). w.1)
    (find (λ w. bytes_eq (str_to_ascii_lowercase w.0) low) words)) (lower_twice bytes)

-- THE KINDS

pub is_identifier_kind : (k : TokenKind) → is_same k Identifier ≡ true → k ≡ Identifier
is_identifier_kind Identifier h = refl
is_identifier_kind Number h = absurd (true≢false (sym h))
is_identifier_kind Character h = absurd (true≢false (sym h))
is_identifier_kind (Reserved word) h = absurd (true≢false (sym h))
is_identifier_kind (Symbol symbol) h = absurd (true≢false (sym h))
is_identifier_kind (LeftOut left) h = absurd (true≢false (sym h))
is_identifier_kind Bad h = absurd (true≢false (sym h))

pub is_number_kind : (k : TokenKind) → is_same k Number ≡ true → k ≡ Number
is_number_kind Identifier h = absurd (true≢false (sym h))
is_number_kind Number h = refl
is_number_kind Character h = absurd (true≢false (sym h))
is_number_kind (Reserved word) h = absurd (true≢false (sym h))
is_number_kind (Symbol symbol) h = absurd (true≢false (sym h))
is_number_kind (LeftOut left) h = absurd (true≢false (sym h))
is_number_kind Bad h = absurd (true≢false (sym h))

pub is_character_kind : (k : TokenKind) → is_same k Character ≡ true → k ≡ Character
is_character_kind Identifier h = absurd (true≢false (sym h))
is_character_kind Number h = absurd (true≢false (sym h))
is_character_kind Character h = refl
is_character_kind (Reserved word) h = absurd (true≢false (sym h))
is_character_kind (Symbol symbol) h = absurd (true≢false (sym h))
is_character_kind (LeftOut left) h = absurd (true≢false (sym h))
is_character_kind Bad h = absurd (true≢false (sym h))
