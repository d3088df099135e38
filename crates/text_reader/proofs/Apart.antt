-- Tests that are apart by computation are met by no token both, and a test that implies another is
-- met by no other token.
use Rattle.std.proofs.Common.{◌≡◌, ℕ, ◌≤◌, Bool, true, false, not, ◌&&◌, List, Option, Some, None}
use Rattle.std.proofs.Common.{sym, ◌∙◌, arith, ltb-true, leb-true, le-leb, bytes_eq, subst, refl}
use Rattle.std.specs.Prelude.{nat_le}
use Rattle.std.proofs.lemmas.Slice.Eq.{bytes_eq-Decides}
use Rattle.est_lexer.specs.declared.kind.Token.{Token}
use Rattle.est_lexer.specs.declared.kind.TokenKind.{TokenKind}
use Rattle.est_lexer.specs.declared.kind.TokenKind.TheVariants.{Identifier, Reserved, LeftOut}
use Rattle.est_lexer.specs.declared.kind.TokenKind.TheVariants.{Number, Character, Symbol, Bad}
use Rattle.est_lexer.specs.TokenKinds.{is_same}
use Rattle.est_lexer.proofs.SameKinds.{is_same-apart, is_same-implies}
use Rattle.text_reader.specs.Grammar.{Grammar, meets}
use Rattle.text_reader.specs.Marks.{disjoint, covered, Within}
use Rattle.text_reader.specs.Marks as marks
use Rattle.text_reader.proofs.Members.{and_left, and_right, clear, cover}
use Rattle.text_reader.specs.Tests.{Test, kind, spelled, named, number, character, is_spelled}
use Rattle.text_reader.specs.Tests.{lowered, holds, value_in, code_in, apart, implies, language}

not_true : (a : Bool) → not a ≡ true → a ≡ true → ⊥
not_true true h q = cc
not_true false h q = cc

both_true : (a b : Bool) → a ≡ true → b ≡ true → (a && b) ≡ true
both_true true true h k = refl
both_true true false h k = k
both_true false b h k = cc

-- no kind is of both sorts
spelled_or_number : (k : TokenKind) → is_spelled k ≡ true → is_same k Number ≡ true → ⊥
spelled_or_number Identifier h q = cc
spelled_or_number (Reserved word) h q = cc
spelled_or_number (Symbol symbol) h q = cc
spelled_or_number (LeftOut token) h q = cc
spelled_or_number Number h q = cc
spelled_or_number Character h q = cc
spelled_or_number Bad h q = cc

spelled_or_character : (k : TokenKind) → is_spelled k ≡ true → is_same k Character ≡ true → ⊥
spelled_or_character Identifier h q = cc
spelled_or_character (Reserved word) h q = cc
spelled_or_character (Symbol symbol) h q = cc
spelled_or_character (LeftOut token) h q = cc
spelled_or_character Number h q = cc
spelled_or_character Character h q = cc
spelled_or_character Bad h q = cc

-- nor is an identifier a number
named_or_number : (k : TokenKind) → is_same k Identifier ≡ true → is_same k Number ≡ true → ⊥
named_or_number k h q = is_same-apart Identifier Number k refl h q

-- an identifier has a spelling
named_spelled : (k : TokenKind) → is_same k Identifier ≡ true → is_spelled k ≡ true
named_spelled Identifier h = refl
named_spelled (Reserved word) h = cc
named_spelled (Symbol symbol) h = cc
named_spelled (LeftOut token) h = cc
named_spelled Number h = cc
named_spelled Character h = cc
named_spelled Bad h = cc

-- two words that one text spells are one word
pub words_equal : (word other bytes : List ℕ) → bytes_eq word bytes ≡ true
    → bytes_eq other bytes ≡ true → bytes_eq word other ≡ true
words_equal word other bytes h k =
    let p = (bytes_eq-Decides word bytes).0 h in
    let q = (bytes_eq-Decides other bytes).0 k in
    (bytes_eq-Decides word other).1 (p ∙ sym q)

word_follows : (word other bytes : List ℕ) → bytes_eq word other ≡ true → bytes_eq word bytes ≡ true
    → bytes_eq other bytes ≡ true
word_follows word other bytes e h = subst (λ w. bytes_eq w bytes ≡ true)
    ((bytes_eq-Decides word other).0 e) h

-- a number within bounds
pub within : (low high : ℕ) (text : List ℕ) (token : Token)
    → holds text (number low high) token ≡ true → (low ≤ value_in text token)
    × (value_in text token ≤ high)
within low high text token h =
    let p = and_right (is_same token.kind Number) _ h in (
      leb-true low (value_in text token) (and_left (nat_le low (value_in text token)) _ p),
      leb-true
          (value_in text token) high (and_right (nat_le low (value_in text token)) _ p),
    )

-- a character constant within bounds
pub coded : (low high : ℕ) (text : List ℕ) (token : Token)
    → holds text (character low high) token ≡ true → (low ≤ code_in text token)
    × (code_in text token ≤ high)
coded low high text token h =
    let p = and_right (is_same token.kind Character) _ h in (
      leb-true low (code_in text token) (and_left (nat_le low (code_in text token)) _ p),
      leb-true
          (code_in text token) high (and_right (nat_le low (code_in text token)) _ p),
    )

-- no token meets two tests that are apart
pub apart-holds : (text : List ℕ) (x y : Test) (token : Token) → apart x y ≡ true
    → holds text x token ≡ true → holds text y token ≡ true → ⊥
apart-holds text (kind a) (kind b) token e h k = is_same-apart a b token.kind e h k
apart-holds text (spelled word) (spelled other) token e h k =
    not_true _ e (words_equal word other (lowered text token) (and_right (is_spelled token.kind) _
    h) (and_right (is_spelled token.kind) _ k))
apart-holds text (spelled word) (named name) token e h k =
    not_true _ e (words_equal word name (lowered text token) (and_right (is_spelled token.kind) _ h)
    (and_right (is_same token.kind Identifier) _ k))
apart-holds text (named name) (spelled word) token e h k =
    not_true _ e (words_equal name word (lowered text token)
    (and_right (is_same token.kind Identifier) _ h) (and_right (is_spelled token.kind) _ k))
apart-holds text (named name) (named other) token e h k =
    not_true _ e (words_equal name other (lowered text token)
    (and_right (is_same token.kind Identifier) _ h) (and_right (is_same token.kind Identifier) _ k))
apart-holds text (named name) (number low high) token e h k = named_or_number token.kind
    (and_left (is_same token.kind Identifier) _ h) (and_left (is_same token.kind Number) _ k)
apart-holds text (number low high) (named name) token e h k = named_or_number token.kind
    (and_left (is_same token.kind Identifier) _ k) (and_left (is_same token.kind Number) _ h)
apart-holds text (spelled word) (number low high) token e h k = spelled_or_number token.kind
    (and_left (is_spelled token.kind) _ h) (and_left (is_same token.kind Number) _ k)
apart-holds text (number low high) (spelled word) token e h k = spelled_or_number token.kind
    (and_left (is_spelled token.kind) _ k) (and_left (is_same token.kind Number) _ h)
apart-holds text (number low high) (number from to) token e h k =
    let p = ltb-true high from e in
    let q = (within low high text token h).1 in
    let r = (within from to text token k).0 in
    omega arith
apart-holds text (kind a) (spelled word) token e h k = cc
apart-holds text (spelled word) (kind b) token e h k = cc
apart-holds text (kind a) (named name) token e h k = is_same-apart a Identifier token.kind e h
    (and_left (is_same token.kind Identifier) _ k)
apart-holds text (kind a) (number low high) token e h k = is_same-apart a Number token.kind e h
    (and_left (is_same token.kind Number) _ k)
apart-holds text (kind a) (character low high) token e h k = is_same-apart a Character token.kind e
    h (and_left (is_same token.kind Character) _ k)
apart-holds text (named name) (kind b) token e h k = is_same-apart b Identifier token.kind e k
    (and_left (is_same token.kind Identifier) _ h)
apart-holds text (number low high) (kind b) token e h k = is_same-apart b Number token.kind e k
    (and_left (is_same token.kind Number) _ h)
apart-holds text (character low high) (kind b) token e h k = is_same-apart b Character token.kind e
    k (and_left (is_same token.kind Character) _ h)
apart-holds text (spelled word) (character low high) token e h k = spelled_or_character token.kind
    (and_left (is_spelled token.kind) _ h) (and_left (is_same token.kind Character) _ k)
apart-holds text (character low high) (spelled word) token e h k = spelled_or_character token.kind
    (and_left (is_spelled token.kind) _ k) (and_left (is_same token.kind Character) _ h)
apart-holds text (named name) (character low high) token e h k =
    is_same-apart Identifier Character token.kind refl
    (and_left (is_same token.kind Identifier) _ h) (and_left (is_same token.kind Character) _ k)
apart-holds text (character low high) (named name) token e h k =
    is_same-apart Identifier Character token.kind refl
    (and_left (is_same token.kind Identifier) _ k) (and_left (is_same token.kind Character) _ h)
apart-holds text (number low high) (character from to) token e h k =
    is_same-apart Number Character token.kind refl
    (and_left (is_same token.kind Number) _ h) (and_left (is_same token.kind Character) _ k)
apart-holds text (character low high) (number from to) token e h k =
    is_same-apart Number Character token.kind refl
    (and_left (is_same token.kind Number) _ k) (and_left (is_same token.kind Character) _ h)
apart-holds text (character low high) (character from to) token e h k =
    let p = ltb-true high from e in
    let q = (coded low high text token h).1 in
    let r = (coded from to text token k).0 in
    omega arith

-- a token that meets a test meets what the test implies
pub implies-holds : (text : List ℕ) (x y : Test) (token : Token) → implies x y ≡ true
    → holds text x token ≡ true → holds text y token ≡ true
implies-holds text (kind a) (kind b) token e h = is_same-implies a b token.kind e h
implies-holds text (spelled word) (spelled other) token e h = both_true _ _
    (and_left (is_spelled token.kind) _ h) (word_follows word other (lowered text token) e
    (and_right (is_spelled token.kind) _ h))
implies-holds text (named name) (named other) token e h = both_true _ _
    (and_left (is_same token.kind Identifier) _ h) (word_follows name other (lowered text token) e
    (and_right (is_same token.kind Identifier) _ h))
implies-holds text (named name) (spelled word) token e h = both_true _ _
    (named_spelled token.kind (and_left (is_same token.kind Identifier) _ h))
    (word_follows name word (lowered text token) e (and_right (is_same token.kind Identifier) _ h))
implies-holds text (number low high) (number from to) token e h =
    let w = within low high text token h in
    let p = leb-true from low (and_left (nat_le from low) _ e) in
    let q = leb-true high to (and_right (nat_le from low) _ e) in
    both_true _ _ (and_left (is_same token.kind Number) _ h)
    (both_true _ _ (le-leb from (value_in text token) (omega (arith, w.0, p)))
    (le-leb (value_in text token) to (omega (arith, w.1, q))))
implies-holds text (character low high) (character from to) token e h =
    let w = coded low high text token h in
    let p = leb-true from low (and_left (nat_le from low) _ e) in
    let q = leb-true high to (and_right (nat_le from low) _ e) in
    both_true _ _ (and_left (is_same token.kind Character) _ h)
    (both_true _ _ (le-leb from (code_in text token) (omega (arith, w.0, p)))
    (le-leb (code_in text token) to (omega (arith, w.1, q))))
implies-holds text (kind a) (spelled word) token e h = cc
implies-holds text (kind a) (named name) token e h = cc
implies-holds text (kind a) (number low high) token e h = cc
implies-holds text (spelled word) (kind b) token e h = cc
implies-holds text (spelled word) (named name) token e h = cc
implies-holds text (spelled word) (number low high) token e h = cc
implies-holds text (named name) (kind b) token e h = cc
implies-holds text (named name) (number low high) token e h = cc
implies-holds text (number low high) (kind b) token e h = cc
implies-holds text (number low high) (spelled word) token e h = cc
implies-holds text (number low high) (named name) token e h = cc
implies-holds text (kind a) (character low high) token e h = cc
implies-holds text (spelled word) (character low high) token e h = cc
implies-holds text (named name) (character low high) token e h = cc
implies-holds text (number low high) (character from to) token e h = cc
implies-holds text (character low high) (kind b) token e h = cc
implies-holds text (character low high) (spelled word) token e h = cc
implies-holds text (character low high) (named name) token e h = cc
implies-holds text (character low high) (number from to) token e h = cc

-- lists of tests that are apart by computation, and those that imply others
module _ {P : Type 0} (production : P → Grammar Test P) (text : List ℕ) where
  pub far : (xs ys : List Test) → disjoint apart xs ys ≡ true
      → marks.Apart (language production text) xs ys
  far xs ys e = clear (language production text) apart (apart-holds text) xs ys e

  pub near : (xs ys : List Test) → covered implies xs ys ≡ true
      → Within (language production text) xs ys
  near xs ys e = cover (language production text) implies (implies-holds text) xs ys e

-- an identifier that is spelled as two names shows that they are one
pub one_name : (text name other : List ℕ) (o : Option Token)
    → meets (holds text) (named name) o ≡ true → meets (holds text) (named other) o ≡ true
    → bytes_eq name other ≡ true
one_name text name other None h k = cc
one_name text name other (Some token) h k = words_equal name other (lowered text token)
    (and_right (is_same token.kind Identifier) _ h) (and_right (is_same token.kind Identifier) _ k)
