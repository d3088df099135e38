-- Two tokens that are joined, of which the first does not go on into the second.
use Rattle.std.proofs.Common.{◌≡◌, ℕ, Bool, true, false, ◌||◌, ◌&&◌, List, [], ◌∷◌, ◌++◌, get_or}
use Rattle.std.proofs.Common.{refl, sym, subst, eqb, arith, nat_eq}
use Rattle.std.specs.Prelude.{if◌then◌else◌}
use Rattle.std.specs.Char.{is_ascii_alphabetic, is_ascii_digit}
use Rattle.std.proofs.Math.Bool.{and-false}
use Rattle.std.proofs.lemmas.Bool.{and_parts, both_ways}
use Rattle.std.proofs.lemmas.Bool.Decides.{nat_tests}
use Rattle.est_lexer.specs.declared.kind.TokenKind.{TokenKind}
use Rattle.est_lexer.specs.declared.kind.TokenKind.TheVariants.{Identifier, Number, Character}
use Rattle.est_lexer.specs.declared.kind.TokenKind.TheVariants.{Reserved, Symbol, LeftOut, Bad}
use Rattle.est_lexer.specs.declared.kind.Symbol as mark
use Rattle.est_lexer.specs.declared.kind.Symbol.TheVariants as sign
use Rattle.est_lexer.specs.Spellings.{is_identifier, is_identifier_part, is_number, is_character}
use Rattle.est_lexer.specs.TokenKinds.{is_same}
use Rattle.text_printer.specs.PlainSpelling.{IsSpelledPlainly}
use Rattle.text_printer.specs.Spacing.{is_semicolon, joins_left, joins_right, joins_name}
use Rattle.text_printer.specs.Spacing.{between_them}
use Rattle.text_printer.proofs.KeptTokens.{number_spelled, character_spelled}
use Rattle.text_printer.proofs.Ending.{ends_at, sign_bytes, sign_spelled, named}

abbrev pub is_period : TokenKind → Bool
is_period k = is_same k (Symbol sign.Period) || is_same k (Symbol sign.DoublePeriod)

abbrev pub is_star : TokenKind → Bool
is_star k = is_same k (Symbol sign.Star)

-- whether a token of the first kind, joined to one of the second, would be read as another, or as
-- the beginning of a comment
abbrev pub runs_on : TokenKind → TokenKind → Bool
runs_on (Symbol sign.Period) l = is_period l
runs_on (Symbol sign.DoublePeriod) l = is_period l
runs_on (Symbol sign.LeftParenthesis) l = is_star l
runs_on k l = false

-- FIRST BYTES

-- the first byte of a token, before anything
abbrev first_of : List ℕ → List ℕ → ℕ
first_of bytes later = get_or (bytes ++ later) 0 0

letter_sure : (b : ℕ) → is_ascii_alphabetic b ≡ true
    → (eqb b 46 ≡ false) × (eqb b 42 ≡ false)
letter_sure b h = (grind (arith, nat_tests), grind (arith, nat_tests))

digit_sure : (b : ℕ) → is_ascii_digit b ≡ true → (eqb b 46 ≡ false) × (eqb b 42 ≡ false)
digit_sure b h = (grind (arith, nat_tests), grind (arith, nat_tests))

quote_sure : (b : ℕ) → eqb b 39 ≡ true → (eqb b 46 ≡ false) × (eqb b 42 ≡ false)
quote_sure b h = (grind (arith, nat_tests), grind (arith, nat_tests))

name_sure : (bytes later : List ℕ) → is_identifier bytes ≡ true
    → (eqb (first_of bytes later) 46 ≡ false) × (eqb (first_of bytes later) 42 ≡ false)
name_sure [] later h = absurd cc
name_sure (b ∷ bs) later h = letter_sure b (and_parts _ _ h).0

number_sure : (bytes later : List ℕ) → is_number bytes ≡ true
    → (eqb (first_of bytes later) 46 ≡ false) × (eqb (first_of bytes later) 42 ≡ false)
number_sure [] later h = absurd cc
number_sure (b ∷ bs) later h = digit_sure b (and_parts _ _ (and_parts _ _ h).0).0

character_sure : (bytes later : List ℕ) → is_character bytes ≡ true
    → (eqb (first_of bytes later) 46 ≡ false) × (eqb (first_of bytes later) 42 ≡ false)
character_sure [] later h = absurd cc
character_sure (a ∷ []) later h = absurd cc
character_sure (a ∷ b ∷ []) later h = absurd cc
character_sure (a ∷ b ∷ c ∷ []) later h = quote_sure a (and_parts _ _ (and_parts _ _ h).0).0
character_sure (a ∷ b ∷ c ∷ d ∷ []) later h =
    quote_sure a (and_parts _ _ (and_parts _ _ (and_parts _ _ h).0).0).0
character_sure (a ∷ b ∷ c ∷ d ∷ e ∷ more) later h = absurd cc

sign_no_period : (t : mark.Symbol) (later : List ℕ) → is_period (Symbol t) ≡ false
    → eqb (first_of (sign_bytes t) later) 46 ≡ false
sign_no_period sign.Plus later h = refl
sign_no_period sign.Minus later h = refl
sign_no_period sign.Star later h = refl
sign_no_period sign.Equal later h = refl
sign_no_period sign.Unequal later h = refl
sign_no_period sign.Below later h = refl
sign_no_period sign.AtMost later h = refl
sign_no_period sign.Above later h = refl
sign_no_period sign.AtLeast later h = refl
sign_no_period sign.LeftParenthesis later h = refl
sign_no_period sign.RightParenthesis later h = refl
sign_no_period sign.LeftBracket later h = refl
sign_no_period sign.RightBracket later h = refl
sign_no_period sign.Comma later h = refl
sign_no_period sign.Semicolon later h = refl
sign_no_period sign.Colon later h = refl
sign_no_period sign.Assign later h = refl
sign_no_period sign.Period later h = absurd cc
sign_no_period sign.DoublePeriod later h = absurd cc
sign_no_period sign.Underscore later h = refl
sign_no_period sign.QuestionMark later h = refl

sign_no_star : (t : mark.Symbol) (later : List ℕ) → is_star (Symbol t) ≡ false
    → eqb (first_of (sign_bytes t) later) 42 ≡ false
sign_no_star sign.Plus later h = refl
sign_no_star sign.Minus later h = refl
sign_no_star sign.Star later h = absurd cc
sign_no_star sign.Equal later h = refl
sign_no_star sign.Unequal later h = refl
sign_no_star sign.Below later h = refl
sign_no_star sign.AtMost later h = refl
sign_no_star sign.Above later h = refl
sign_no_star sign.AtLeast later h = refl
sign_no_star sign.LeftParenthesis later h = refl
sign_no_star sign.RightParenthesis later h = refl
sign_no_star sign.LeftBracket later h = refl
sign_no_star sign.RightBracket later h = refl
sign_no_star sign.Comma later h = refl
sign_no_star sign.Semicolon later h = refl
sign_no_star sign.Colon later h = refl
sign_no_star sign.Assign later h = refl
sign_no_star sign.Period later h = refl
sign_no_star sign.DoublePeriod later h = refl
sign_no_star sign.Underscore later h = refl
sign_no_star sign.QuestionMark later h = refl

sign_no_more : (t : mark.Symbol) (later : List ℕ) → joins_left (Symbol t) ≡ true
    → (eqb (first_of (sign_bytes t) later) 62 ≡ false)
    × (eqb (first_of (sign_bytes t) later) 61 ≡ false)
sign_no_more sign.Plus later h = (refl, refl)
sign_no_more sign.Minus later h = (refl, refl)
sign_no_more sign.Star later h = (refl, refl)
sign_no_more sign.Equal later h = absurd cc
sign_no_more sign.Unequal later h = (refl, refl)
sign_no_more sign.Below later h = (refl, refl)
sign_no_more sign.AtMost later h = (refl, refl)
sign_no_more sign.Above later h = absurd cc
sign_no_more sign.AtLeast later h = absurd cc
sign_no_more sign.LeftParenthesis later h = (refl, refl)
sign_no_more sign.RightParenthesis later h = (refl, refl)
sign_no_more sign.LeftBracket later h = (refl, refl)
sign_no_more sign.RightBracket later h = (refl, refl)
sign_no_more sign.Comma later h = (refl, refl)
sign_no_more sign.Semicolon later h = (refl, refl)
sign_no_more sign.Colon later h = (refl, refl)
sign_no_more sign.Assign later h = (refl, refl)
sign_no_more sign.Period later h = (refl, refl)
sign_no_more sign.DoublePeriod later h = (refl, refl)
sign_no_more sign.Underscore later h = (refl, refl)
sign_no_more sign.QuestionMark later h = (refl, refl)

sign_no_part : (t : mark.Symbol) (later : List ℕ)
    → is_same (Symbol t) (Symbol sign.Underscore) ≡ false
    → is_identifier_part (first_of (sign_bytes t) later) ≡ false
sign_no_part sign.Plus later h = refl
sign_no_part sign.Minus later h = refl
sign_no_part sign.Star later h = refl
sign_no_part sign.Equal later h = refl
sign_no_part sign.Unequal later h = refl
sign_no_part sign.Below later h = refl
sign_no_part sign.AtMost later h = refl
sign_no_part sign.Above later h = refl
sign_no_part sign.AtLeast later h = refl
sign_no_part sign.LeftParenthesis later h = refl
sign_no_part sign.RightParenthesis later h = refl
sign_no_part sign.LeftBracket later h = refl
sign_no_part sign.RightBracket later h = refl
sign_no_part sign.Comma later h = refl
sign_no_part sign.Semicolon later h = refl
sign_no_part sign.Colon later h = refl
sign_no_part sign.Assign later h = refl
sign_no_part sign.Period later h = refl
sign_no_part sign.DoublePeriod later h = refl
sign_no_part sign.Underscore later h = absurd cc
sign_no_part sign.QuestionMark later h = refl

no_underscore : (k : TokenKind) (t : mark.Symbol) → joins_right k ≡ false
    → joins_left (Symbol t) || (joins_right k || joins_name k (Symbol t)) ≡ true
    → is_same (Symbol t) (Symbol sign.Underscore) ≡ false
no_underscore k sign.Plus f h = refl
no_underscore k sign.Minus f h = refl
no_underscore k sign.Star f h = refl
no_underscore k sign.Equal f h = refl
no_underscore k sign.Unequal f h = refl
no_underscore k sign.Below f h = refl
no_underscore k sign.AtMost f h = refl
no_underscore k sign.Above f h = refl
no_underscore k sign.AtLeast f h = refl
no_underscore k sign.LeftParenthesis f h = refl
no_underscore k sign.RightParenthesis f h = refl
no_underscore k sign.LeftBracket f h = refl
no_underscore k sign.RightBracket f h = refl
no_underscore k sign.Comma f h = refl
no_underscore k sign.Semicolon f h = refl
no_underscore k sign.Colon f h = refl
no_underscore k sign.Assign f h = refl
no_underscore k sign.Period f h = refl
no_underscore k sign.DoublePeriod f h = refl
no_underscore k sign.Underscore f h =
    let g : joins_right k || (is_same k Identifier && false) ≡ true = h in
    let e : is_same k Identifier && false ≡ true = rw f at g in
    absurd (both_ways _ (and-false (is_same k Identifier)) e)
no_underscore k sign.QuestionMark f h = refl

-- the first byte of a token of this kind is no period, or no star
no_period : (l : TokenKind) (bytes later : List ℕ) → IsSpelledPlainly l bytes
    → is_period l ≡ false → eqb (first_of bytes later) 46 ≡ false
no_period Identifier bytes later s e =
    (name_sure bytes later (named bytes _ refl s.token).letters).0
no_period (Reserved w) bytes later s e =
    (name_sure bytes later (named bytes _ refl s.token).letters).0
no_period Number bytes later s e = (number_sure bytes later (number_spelled bytes s.token)).0
no_period Character bytes later s e =
    (character_sure bytes later (character_spelled bytes s.token)).0
no_period (Symbol t) bytes later s e =
    subst (λ bs. eqb (first_of bs later) 46 ≡ false) (sym (sign_spelled bytes t s.token))
    (sign_no_period t later e)
no_period (LeftOut left) bytes later s e = absurd s.plain
no_period Bad bytes later s e = absurd s.plain

no_star : (l : TokenKind) (bytes later : List ℕ) → IsSpelledPlainly l bytes
    → is_star l ≡ false → eqb (first_of bytes later) 42 ≡ false
no_star Identifier bytes later s e = (name_sure bytes later (named bytes _ refl s.token).letters).1
no_star (Reserved w) bytes later s e =
    (name_sure bytes later (named bytes _ refl s.token).letters).1
no_star Number bytes later s e = (number_sure bytes later (number_spelled bytes s.token)).1
no_star Character bytes later s e = (character_sure bytes later (character_spelled bytes s.token)).1
no_star (Symbol t) bytes later s e =
    subst (λ bs. eqb (first_of bs later) 42 ≡ false) (sym (sign_spelled bytes t s.token))
    (sign_no_star t later e)
no_star (LeftOut left) bytes later s e = absurd s.plain
no_star Bad bytes later s e = absurd s.plain

-- JOINED TOKENS

-- whether nothing stands between two tokens
abbrev pub joins : TokenKind → TokenKind → Bool
joins k l = joins_left l || (joins_right k || joins_name k l)

no_name : (k : TokenKind) → joins_right k ≡ false
    → joins_right k || (is_same k Identifier && false) ≡ true → ⊥
no_name k f j =
    let e : is_same k Identifier && false ≡ true = rw f at j in
    both_ways _ (and-false (is_same k Identifier)) e

-- what may be a part of a name does not stand right after a name or a number
joined_part : (k l : TokenKind) (bytes later : List ℕ) → joins_right k ≡ false
    → IsSpelledPlainly l bytes → joins k l ≡ true
    → is_identifier_part (first_of bytes later) ≡ false
joined_part k (Symbol t) bytes later f s j =
    subst (λ bs. is_identifier_part (first_of bs later) ≡ false)
    (sym (sign_spelled bytes t s.token)) (sign_no_part t later (no_underscore k t f j))
joined_part k (LeftOut left) bytes later f s j = absurd s.plain
joined_part k Bad bytes later f s j = absurd s.plain
joined_part k Identifier bytes later f s j = absurd (no_name k f j)
joined_part k (Reserved word) bytes later f s j = absurd (no_name k f j)
joined_part k Number bytes later f s j = absurd (no_name k f j)
joined_part k Character bytes later f s j = absurd (no_name k f j)

joined_sign : (l : TokenKind) (bytes later : List ℕ) → IsSpelledPlainly l bytes
    → joins_left l ≡ true
    → (eqb (first_of bytes later) 62 ≡ false) × (eqb (first_of bytes later) 61 ≡ false)
joined_sign (Symbol t) bytes later s j =
    subst (λ bs. (eqb (first_of bs later) 62 ≡ false) × (eqb (first_of bs later) 61 ≡ false))
    (sym (sign_spelled bytes t s.token)) (sign_no_more t later j)
joined_sign (LeftOut left) bytes later s j = absurd cc
joined_sign Bad bytes later s j = absurd cc
joined_sign Identifier bytes later s j = absurd cc
joined_sign (Reserved word) bytes later s j = absurd cc
joined_sign Number bytes later s j = absurd cc
joined_sign Character bytes later s j = absurd cc

left_only : (l : TokenKind) (a b : Bool) → a ≡ false → b ≡ false → joins_left l || (a || b) ≡ true
    → joins_left l ≡ true
left_only l a b e f h = let g : joins_left l || (false || false) ≡ true = rw (e, f) at h in
    by (joins_left l) g
  where
    by : (c : Bool) → c || (false || false) ≡ true → c ≡ true
    by true g = refl
    by false g = g

-- a token that is joined to the next does not go on into it
joined_ends : (k l : TokenKind) (bytes later : List ℕ) → ends_at k 32 ≡ true
    → IsSpelledPlainly l bytes → runs_on k l ≡ false → joins k l ≡ true
    → ends_at k (first_of bytes later) ≡ true
joined_ends Identifier l bytes later g s r j =
    rw (joined_part Identifier l bytes later refl s j) refl
joined_ends (Reserved word) l bytes later g s r j =
    rw (joined_part (Reserved word) l bytes later refl s j) refl
joined_ends Number l bytes later g s r j = rw (joined_part Number l bytes later refl s j) refl
joined_ends Character l bytes later g s r j = refl
joined_ends (Symbol sign.Below) l bytes later g s r j =
    let p = joined_sign l bytes later s (left_only l _ _ refl refl j) in
    rw (p.0, p.1) refl
joined_ends (Symbol sign.Above) l bytes later g s r j =
    let p = joined_sign l bytes later s (left_only l _ _ refl refl j) in
    rw p.1 refl
joined_ends (Symbol sign.Colon) l bytes later g s r j =
    let p = joined_sign l bytes later s (left_only l _ _ refl refl j) in
    rw p.1 refl
joined_ends (Symbol sign.Period) l bytes later g s r j = rw (no_period l bytes later s r) refl
joined_ends (Symbol sign.DoublePeriod) l bytes later g s r j =
    rw (no_period l bytes later s r) refl
joined_ends (Symbol sign.LeftParenthesis) l bytes later g s r j =
    rw (no_star l bytes later s r) refl
joined_ends (Symbol sign.Plus) l bytes later g s r j = refl
joined_ends (Symbol sign.Minus) l bytes later g s r j = refl
joined_ends (Symbol sign.Star) l bytes later g s r j = refl
joined_ends (Symbol sign.Equal) l bytes later g s r j = refl
joined_ends (Symbol sign.Unequal) l bytes later g s r j = refl
joined_ends (Symbol sign.AtMost) l bytes later g s r j = refl
joined_ends (Symbol sign.AtLeast) l bytes later g s r j = refl
joined_ends (Symbol sign.RightParenthesis) l bytes later g s r j = refl
joined_ends (Symbol sign.LeftBracket) l bytes later g s r j = refl
joined_ends (Symbol sign.RightBracket) l bytes later g s r j = refl
joined_ends (Symbol sign.Comma) l bytes later g s r j = refl
joined_ends (Symbol sign.Semicolon) l bytes later g s r j = refl
joined_ends (Symbol sign.Assign) l bytes later g s r j = refl
joined_ends (Symbol sign.Underscore) l bytes later g s r j = refl
joined_ends (Symbol sign.QuestionMark) l bytes later g s r j = refl
joined_ends (LeftOut left) l bytes later g s r j = absurd cc
joined_ends Bad l bytes later g s r j = absurd cc

-- a token that is spelled in the one way ends at a blank and at a line feed
pub ends_blank : (k : TokenKind) (bytes : List ℕ) → IsSpelledPlainly k bytes
    → (ends_at k 32 ≡ true) × (ends_at k 10 ≡ true)
ends_blank Identifier bytes s = (refl, refl)
ends_blank (Reserved word) bytes s = (refl, refl)
ends_blank Number bytes s = (refl, refl)
ends_blank Character bytes s = (refl, refl)
ends_blank (Symbol sign.Plus) bytes s = (refl, refl)
ends_blank (Symbol sign.Minus) bytes s = (refl, refl)
ends_blank (Symbol sign.Star) bytes s = (refl, refl)
ends_blank (Symbol sign.Equal) bytes s = (refl, refl)
ends_blank (Symbol sign.Unequal) bytes s = (refl, refl)
ends_blank (Symbol sign.Below) bytes s = (refl, refl)
ends_blank (Symbol sign.AtMost) bytes s = (refl, refl)
ends_blank (Symbol sign.Above) bytes s = (refl, refl)
ends_blank (Symbol sign.AtLeast) bytes s = (refl, refl)
ends_blank (Symbol sign.LeftParenthesis) bytes s = (refl, refl)
ends_blank (Symbol sign.RightParenthesis) bytes s = (refl, refl)
ends_blank (Symbol sign.LeftBracket) bytes s = (refl, refl)
ends_blank (Symbol sign.RightBracket) bytes s = (refl, refl)
ends_blank (Symbol sign.Comma) bytes s = (refl, refl)
ends_blank (Symbol sign.Semicolon) bytes s = (refl, refl)
ends_blank (Symbol sign.Colon) bytes s = (refl, refl)
ends_blank (Symbol sign.Assign) bytes s = (refl, refl)
ends_blank (Symbol sign.Period) bytes s = (refl, refl)
ends_blank (Symbol sign.DoublePeriod) bytes s = (refl, refl)
ends_blank (Symbol sign.Underscore) bytes s = (refl, refl)
ends_blank (Symbol sign.QuestionMark) bytes s = (refl, refl)
ends_blank (LeftOut left) bytes s = absurd s.plain
ends_blank Bad bytes s = absurd s.plain

-- A token does not go on into what stands between it and the next, nor into the next.
pub between_ends : (nested : ℕ) (k l : TokenKind) (spelled bytes later : List ℕ)
    → IsSpelledPlainly k spelled → IsSpelledPlainly l bytes → runs_on k l ≡ false
    → ends_at k (get_or (between_them nested k l ++ (bytes ++ later)) 0 0) ≡ true
between_ends nested k l spelled bytes later p s r =
    by (is_semicolon k && nat_eq nested 0) (joins k l) refl
  where
    by : (a b : Bool) → joins k l ≡ b
        → ends_at k (get_or ((if a then 10 ∷ [] else if b then [] else 32 ∷ []) ++ (bytes ++ later))
        0 0) ≡ true
    by true b e = (ends_blank k spelled p).1
    by false true e = joined_ends k l bytes later (ends_blank k spelled p).0 s r e
    by false false e = (ends_blank k spelled p).0
