use Rattle.std.proofs.Common.{◌≡◌, ◌≤◌, ◌<◌, ◌+◌, ℕ, suc, zero, List, [], ◌∷◌, length}
use Rattle.std.proofs.Common.{get_or, arith, subst, Option, Some, None, MatchOption, IfSome}
use Rattle.std.proofs.Common.{true, false, eqb, refl}
use Rattle.std.specs.Char.{is_ascii_alphabetic, is_ascii_digit}
use Rattle.std.proofs.lemmas.Bool.Decides.{nat_tests}
use Rattle.est_lexer.specs.Between.{opening, closing, IsBetween, IsFirstEnd}
use Rattle.est_lexer.specs.Between.{IsUnended, IsComment, nothing, blank, comment}

-- A byte other than 0 stands within the text.
pub byte_inside : (text : List ℕ) (place : ℕ) → 0 < get_or text place 0 → place < length text
byte_inside [] place h = absurd (omega arith)
byte_inside (x ∷ xs) zero h = omega arith
byte_inside (x ∷ xs) (suc i) h = omega (arith, byte_inside xs i h)

-- A mark that ends a comment stands within the text.
pub closing_inside : (text : List ℕ) (mark : ℕ) → 0 < closing text mark
    → mark + closing text mark ≤ length text
unfolding closing
closing_inside text mark h = grind (arith, byte_inside text mark, byte_inside text (mark + 1))

pub opening_inside : (text : List ℕ) (mark : ℕ) → 0 < opening text mark
    → mark + opening text mark ≤ length text
unfolding opening
opening_inside text mark h = grind (arith, byte_inside text mark, byte_inside text (mark + 1))

pub opening_small : (text : List ℕ) (mark : ℕ) → opening text mark ≤ 2
unfolding opening
opening_small text mark = grind arith

pub closing_small : (text : List ℕ) (mark : ℕ) → closing text mark ≤ 2
unfolding closing
closing_small text mark = grind arith

-- With another byte no comment begins.
no_opening : (text : List ℕ) (place : ℕ) → eqb (get_or text place 0) 123 ≡ false
    → eqb (get_or text place 0) 40 ≡ false → opening text place ≡ 0
unfolding opening
no_opening text place no_brace no_parenthesis = rw (no_brace, no_parenthesis) refl

letter_no_mark : (b : ℕ) → is_ascii_alphabetic b ≡ true → (eqb b 123 ≡ false) × (eqb b 40 ≡ false)
letter_no_mark b letter = (grind (arith, nat_tests), grind (arith, nat_tests))

digit_no_mark : (b : ℕ) → is_ascii_digit b ≡ true → (eqb b 123 ≡ false) × (eqb b 40 ≡ false)
digit_no_mark b digit = (grind (arith, nat_tests), grind (arith, nat_tests))

-- With a letter, a digit or a quote no comment begins.
pub letter_opens_none : (text : List ℕ) (place : ℕ)
    → is_ascii_alphabetic (get_or text place 0) ≡ true → opening text place ≡ 0
letter_opens_none text place letter =
    let other = letter_no_mark (get_or text place 0) letter in
    no_opening text place other.0 other.1

pub digit_opens_none : (text : List ℕ) (place : ℕ) → is_ascii_digit (get_or text place 0) ≡ true
    → opening text place ≡ 0
digit_opens_none text place digit =
    let other = digit_no_mark (get_or text place 0) digit in
    no_opening text place other.0 other.1

pub quote_opens_none : (text : List ℕ) (place : ℕ) → get_or text place 0 ≡ 39
    → opening text place ≡ 0
unfolding opening
quote_opens_none text place quote = rw quote refl

-- After the text no mark stands.
pub closing_past : (text : List ℕ) (mark : ℕ) → length text ≤ mark → closing text mark ≡ 0
closing_past text mark h = grind (arith, closing_inside text mark)

-- Two stretches of blanks and comments in a row are one.
pub between_append : {text : List ℕ} {from middle to : ℕ} → IsBetween text from middle
    → IsBetween text middle to → IsBetween text from to
between_append (nothing place) rest = rest
between_append (blank from to b more) rest = blank from _ b (between_append more rest)
between_append (comment from middle to c more) rest = comment from middle _ c
    (between_append more rest)

-- A stretch of blanks and comments goes onward.
pub between_onward : {text : List ℕ} {from to : ℕ} → IsBetween text from to → from ≤ to
between_onward (nothing place) = omega arith
between_onward (blank from to b more) = omega (arith, between_onward more)
between_onward (comment from middle to c more) =
    omega (arith, between_onward more, c.ended.onward, c.ended.whole)

-- Where a first end was found after a mark, one comment stands.
pub comment_between : (text : List ℕ) (place size : ℕ) (found : Option ℕ)
    → size ≡ opening text place → (size ≡ 0 → ⊥)
    → MatchOption found (IsUnended text (place + size)) (IsFirstEnd text (place + size))
    → IfSome found (λ end. IsBetween text place end)
comment_between text place size None e some h = tt
comment_between text place size (Some end) e some h =
    let ended : IsFirstEnd text (place + opening text place) end =
    subst (λ (n : ℕ). IsFirstEnd text (place + n) end) e h in
    let whole : IsComment text place end = record { begins = omega arith; ended = ended } in
    comment place end end whole (nothing end)

pub comment_inside : (text : List ℕ) (from : ℕ) (found : Option ℕ)
    → MatchOption found (IsUnended text from) (IsFirstEnd text from)
    → IfSome found (λ end. end ≤ length text)
comment_inside text from None h = tt
comment_inside text from (Some end) h = omega (arith, closing_inside text h.mark h.ends, h.whole)
