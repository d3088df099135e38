-- Integers and characters, as they are found and refused.
use Rattle.std.proofs.Common.{zero, suc, ◌<◌, ◌≤◌, int_lt, w32}
use Rattle.std.proofs.Common.{◌≡◌, ℕ, ℤ, pos, negsuc, neg_ℤ, ◌<ℤ◌, max, true, false, List, []}
use Rattle.std.proofs.Common.{◌∷◌, refl, sym, ap, ◌∙◌, subst, arith, inl, inr, Option, Some, None}
use Rattle.std.proofs.Common.{slice_get, codes, not, ◌&&◌, bytes_eq}
use Rattle.std.proofs.lemmas.Int.{ints}
use mir.Val.{SFits}
use Rattle.est_lexer.specs.declared.kind.Token.{Token}
use Rattle.est_lexer.specs.declared.kind.TokenKind.{TokenKind}
use Rattle.est_lexer.specs.declared.kind.TokenKind.TheVariants.{Identifier, Reserved, LeftOut}
use Rattle.est_lexer.specs.declared.kind.TokenKind.TheVariants.{Number, Character, Symbol, Bad}
use Rattle.est_lexer.specs.declared.kind.Symbol.TheVariants as symbols
use Rattle.est_lexer.specs.TokenKinds.{is_same}
use Rattle.est_lexer.specs.Offsets.{text_of, tokens_of}
use Rattle.text_reader.specs.Grammar.{none, meets, token, when, nothing, leaf, both, left, right}
use Rattle.text_reader.specs.Marks.{MeetsOne, can_be_empty}
use Rattle.text_reader.specs.Shown.{node}
use Rattle.text_reader.proofs.Members.{and_left}
use Rattle.est_syntax.specs.declared.kind.Kind.{Kind, out-Kind}
use Rattle.est_syntax.specs.declared.name.Name.{Name}
use Rattle.est_values.specs.FittingValues.{KindLayer}
use Rattle.text_reader.specs.declared.reader.Reader.{Reader}
use Rattle.text_reader.specs.declared.outcome.Outcome.TheVariants.{Well}
use Rattle.text_reader.specs.Tests.{Test, kind, spelled, named, number, character, is_spelled}
use Rattle.text_reader.specs.Tests.{value, code, holds, stands, lowered}
use Rattle.text_reader.specs.Moving.{Sees, Steps, Takes, Taken, NotThere, TakesNumber, TakesCode}
use Rattle.text_reader.specs.Going.{Shape, Goes}
use Rattle.text_reader.proofs.Apart.{far}
use Rattle.text_reader.proofs.Going.{part, take}
use Rattle.text_reader.proofs.Single.{number_goes, code_goes}
use Rattle.text_reader.proofs.Steps.{onto, sees_not, sees_it}
use Rattle.text_values.specs.TraceGrammar.{Rule, symbol, is_natural, to_natural, numbers}
use Rattle.text_values.specs.TraceGrammar.{integers, coded, characters, production, marks}
use Rattle.text_values.specs.TraceGrammar.{host_by, ordinal_by, ordinal, constants, bytes_of}
use Rattle.text_values.specs.ValueReading.{plain, Reads}
use Rattle.text_values.specs.ValueShapes.{ShowsInteger, ShowsCharacter}
use Rattle.text_values.specs.ValueShapes.{ShowsConstant, ShowsOrdinalBy, ShowsOrdinal}
use Rattle.text_values.specs.inside.Scalars.{ShowsNumber}
use Rattle.text_values.proofs.Known.{known}
use Rattle.text_values.proofs.Walks.{AreApart, NotBegun, first_goes, second_goes, wrong_goes}
use Rattle.text_values.proofs.Walks.{none_wrong, then_goes, last_goes, seen_not, not_well}

-- INTEGERS

abbrev minus : Test
minus = kind (Symbol symbols.Minus)

-- what stands after "-"
abbrev pub below_zero : ℤ → ℤ → Rule
below_zero low high = when (not (is_natural low)) (symbol symbols.Minus
    (token (number (max (to_natural (neg_ℤ high)) 1) (to_natural (neg_ℤ low)))))

halves_apart : (low high : ℤ) → AreApart (numbers low high) (below_zero low high)
halves_apart (pos a) (pos b) text = far production text _ _ refl
halves_apart (pos a) (negsuc b) text = far production text _ _ refl
halves_apart (negsuc a) (pos b) text = far production text _ _ refl
halves_apart (negsuc a) (negsuc b) text = far production text _ _ refl

numbers_solid : (low high : ℤ) → can_be_empty marks (numbers low high) ≡ false
numbers_solid low (pos b) = refl
numbers_solid low (negsuc b) = refl

below_solid : (low high : ℤ) → can_be_empty marks (below_zero low high) ≡ false
below_solid (pos a) high = refl
below_solid (negsuc a) high = refl

as_integer : (z : ℤ) (t : Shape) → ShowsNumber z t → ShowsInteger z (left t)
as_integer z (leaf (value n)) s = s
as_integer z _ s = absurd s

-- a number without a sign
pub number_goes_on : (low high : ℤ) {A B : Reader} {z : ℤ} → NotBegun A (below_zero low high)
    → Reads (numbers low high) (ShowsNumber z) A B → Reads (integers low high) (ShowsInteger z) A B
number_goes_on low high {z = z} n x = record {
  shape = left x.shape;
  goes = first_goes (halves_apart low high) (numbers_solid low high) (below_solid low high) n x.goes;
  is = λ w. as_integer z x.shape (x.is w);
}

-- no "-" where no integer is negative, or where none is seen
pub natural_unsigned : (low high : ℤ) (A : Reader) → (low <ℤ pos 0 → ⊥)
    → NotBegun A (below_zero low high)
natural_unsigned (pos a) high A l w m = m
natural_unsigned (negsuc a) high A l w m = l (omega (arith, ints))

pub unseen_unsigned : (low high : ℤ) {A : Reader} → Sees A minus false
    → NotBegun A (below_zero low high)
unseen_unsigned (pos a) high s w m = m
unseen_unsigned (negsuc a) high {A} s w (inl e) =
    let f : stands A.tokens.now A.at minus ≡ false = sees_not w s in cc
unseen_unsigned (negsuc a) high s w (inr m) = m

-- a negative integer
pub negative_goes : (low high : ℤ) {A B C : Reader} {n : ℕ} → low <ℤ pos 0 → Sees A minus true
    → Takes minus A B
    → TakesNumber (max (to_natural (neg_ℤ high)) 1) (to_natural (neg_ℤ low)) B n C
    → Reads (integers low high) (ShowsInteger (neg_ℤ (pos n))) A C
negative_goes (pos a) high l s x y = absurd (omega (arith, ints, l))
negative_goes (negsuc a) high {n = n} l s x y = record {
  shape = right (leaf (value n));
  goes = second_goes (halves_apart (negsuc a) high) (numbers_solid (negsuc a) high) refl
      (number_not_begun high s) (take known x (part refl (number_goes known y)));
  is = λ w. refl;
}
  where
    number_not_begun : (high : ℤ) {A : Reader} → Sees A minus true
        → NotBegun A (numbers (negsuc a) high)
    number_not_begun (pos b) s w m = seen_not (numbers (negsuc a) (pos b)) refl s w m
    number_not_begun (negsuc b) s w m = m

-- numbers
pub numbers_goes : (low high : ℤ) {A B : Reader} {n : ℕ} → (high <ℤ pos 0 → ⊥)
    → TakesNumber (to_natural low) (to_natural high) A n B
    → Reads (numbers low high) (ShowsNumber (pos n)) A B
numbers_goes low (pos b) {n = n} l x = record {
  shape = leaf (value n);
  goes = part refl (number_goes known x);
  is = λ w. refl;
}
numbers_goes low (negsuc b) l x = absurd (l (omega (arith, ints)))

pub numbers_wrong : (low high : ℤ) {A B : Reader} {z : ℤ} → high <ℤ pos 0 → Steps false A B
    → Reads (numbers low high) (ShowsNumber z) A B
numbers_wrong low (pos b) l x = absurd (omega (arith, ints, l))
numbers_wrong low (negsuc b) l x =
    record { shape = nothing; goes = none_wrong x; is = λ w. absurd (not_well x w) }

-- CHARACTERS

-- a character constant is one, and a name is an identifier
of_character : (text : List ℕ) (low high : ℕ) (o : Option Token)
    → meets (holds text) (character low high) o ≡ true
    → meets (holds text) (kind Character) o ≡ true
of_character text low high None e = e
of_character text low high (Some t) e = and_left (is_same t.kind Character) _ e

of_name : (text name : List ℕ) (o : Option Token) → meets (holds text) (named name) o ≡ true
    → meets (holds text) (kind Identifier) o ≡ true
of_name text name None e = e
of_name text name (Some t) e = and_left (is_same t.kind Identifier) _ e

-- an identifier is spelled as it is named
identifier_spelled : (k : TokenKind) → is_same k Identifier ≡ true → is_spelled k ≡ true
identifier_spelled Identifier e = refl
identifier_spelled (Reserved word) e = cc
identifier_spelled (Symbol mark) e = cc
identifier_spelled (LeftOut word) e = cc
identifier_spelled Number e = cc
identifier_spelled Character e = cc
identifier_spelled Bad e = cc

as_named : (text name : List ℕ) (o : Option Token)
    → meets (holds text) (kind Identifier) o ≡ true
    → meets (holds text) (named name) o ≡ meets (holds text) (spelled name) o
as_named text name None e = cc
as_named text name (Some t) e =
    let same = bytes_eq name (lowered text t) in
    ap (λ b. b && same) (e ∙ sym (identifier_spelled t.kind e))

named_takes : {A B : Reader} {name : List ℕ} → Sees A (kind Identifier) true
    → Takes (spelled name) A B → Takes (named name) A B
named_takes {A} {B} {name} s x =
    let tk = A.tokens.now in
    let e = as_named (text_of tk) name (slice_get (tokens_of tk) A.at) (sees_it s) in
    record {
      takes = onto (Taken tk (spelled name) A.at) (Taken tk (named name) A.at)
          (NotThere tk (spelled name) A.at) (NotThere tk (named name) A.at) A.at B.at A.outcome
          B.outcome (λ w p. (e ∙ p.0, p.1)) (λ w z q. (e ∙ q.0, q.1, q.2)) x.takes;
      unspent = x.unspent;
      same = x.same;
    }

pub coded_goes : {low high : ℕ} {A B C D E : Reader} {n : ℕ} → Sees A (kind Identifier) true
    → Takes (spelled (codes "chr")) A B → Takes (kind (Symbol symbols.LeftParenthesis)) B C
    → TakesNumber low high C n D → Takes (kind (Symbol symbols.RightParenthesis)) D E
    → Goes plain (coded low high) A (node (both (leaf (value n)) nothing)) E
coded_goes s x y z v = take known (named_takes s x) (take known y
    (then_goes refl (part refl (number_goes known z)) (last_goes v)))

pub coded_wrong : {low high : ℕ} {A B : Reader} {t : Shape} → Sees A (kind Identifier) false
    → Steps false A B → Goes plain (coded low high) A (node t) B
coded_wrong {low} {high} {A} s x = wrong_goes x refl (λ w m. unmet w m)
  where
    unmet : A.outcome ≡ Well → MeetsOne (holds (text_of A.tokens.now))
        (slice_get (tokens_of A.tokens.now) A.at) (named (codes "chr") ∷ []) → ⊥
    unmet w (inl e) =
        let f : stands A.tokens.now A.at (kind Identifier) ≡ false = sees_not w s in
        let g : stands A.tokens.now A.at (kind Identifier) ≡ true =
        of_name (text_of A.tokens.now) (codes "chr") (slice_get (tokens_of A.tokens.now) A.at) e
        in cc
    unmet w (inr m) = m

forms_apart : (low high : ℕ) → AreApart (token (character low high)) (coded low high)
forms_apart low high text = far production text _ _ refl

pub constant_character : (low high : ℤ) {A B : Reader} {c : ℕ} → (high <ℤ pos 0 → ⊥)
    → Sees A (kind Character) true → TakesCode (to_natural low) (to_natural high) A c B
    → Reads (characters low high) (ShowsCharacter (pos c)) A B
constant_character low (pos b) {c = c} l s x = record {
  shape = left (leaf (code c));
  goes = first_goes (forms_apart (to_natural low) b) refl refl
      (seen_not (coded (to_natural low) b) refl s) (part refl (code_goes known x));
  is = λ w. refl;
}
constant_character low (negsuc b) l s x = absurd (l (omega (arith, ints)))

pub coded_character : (low high : ℤ) {A B : Reader} {c : ℕ} → (high <ℤ pos 0 → ⊥)
    → Sees A (kind Character) false
    → Reads (coded (to_natural low) (to_natural high)) (λ t. t ≡ both (leaf (value c)) nothing) A B
    → Reads (characters low high) (ShowsCharacter (pos c)) A B
coded_character low (pos b) {A} {c = c} l s x = record {
  shape = right x.shape;
  goes = second_goes (forms_apart (to_natural low) b) refl refl (λ w m. unmet w m) x.goes;
  is = λ w. subst (λ t. ShowsCharacter (pos c) (right t)) (sym (x.is w)) refl;
}
  where
    unmet : A.outcome ≡ Well → MeetsOne (holds (text_of A.tokens.now))
        (slice_get (tokens_of A.tokens.now) A.at) (character (to_natural low) b ∷ []) → ⊥
    unmet w (inl e) =
        let f : stands A.tokens.now A.at (kind Character) ≡ false = sees_not w s in
        let g : stands A.tokens.now A.at (kind Character) ≡ true = of_character
        (text_of A.tokens.now) (to_natural low) b (slice_get (tokens_of A.tokens.now) A.at) e in cc
    unmet w (inr m) = m
coded_character low (negsuc b) l s x = absurd (l (omega (arith, ints)))

pub characters_wrong : (low high : ℤ) {A B : Reader} {z : ℤ} → high <ℤ pos 0 → Steps false A B
    → Reads (characters low high) (ShowsCharacter z) A B
characters_wrong low (pos b) l x = absurd (omega (arith, ints, l))
characters_wrong low (negsuc b) l x =
    record { shape = nothing; goes = none_wrong x; is = λ w. absurd (not_well x w) }

-- AS THE FUNCTIONS SAY IT

-- whether an integer is negative
pub is_below : (x low : ℤ) → x ≡ low → int_lt x (pos 0) ≡ true → low <ℤ pos 0
is_below x low e t = subst (λ z. z <ℤ pos 0) e (omega (arith, ints, t))

pub not_below : (x low : ℤ) → x ≡ low → int_lt x (pos 0) ≡ false → low <ℤ pos 0 → ⊥
not_below x low e t h =
    let u : int_lt low (pos 0) ≡ false = subst (λ z. int_lt z (pos 0) ≡ false) e t in
    omega (arith, ints, u, h)

-- bounds of 32 bits
pub natural_small : (z : ℤ) → SFits w32 z → to_natural z < 2147483648
natural_small (pos n) f = f.sfits
natural_small (negsuc n) f = omega arith

pub unsigned_small : (z : ℤ) → SFits w32 z → to_natural (neg_ℤ z) ≤ 2147483648
unsigned_small (pos zero) f = omega arith
unsigned_small (pos (suc n)) f = omega arith
unsigned_small (negsuc n) f = let l : n < 2147483648 = f.sfits in omega (arith, l)

pub numbers_read : (low high z : ℤ) (l h n : ℕ) {A B : Reader} → (high <ℤ pos 0 → ⊥)
    → l ≡ to_natural low → h ≡ to_natural high → TakesNumber l h A n B → z ≡ pos n
    → Reads (numbers low high) (ShowsNumber z) A B
numbers_read low high z l h n {A} {B} u e f x q =
    subst (λ y. Reads (numbers low high) (ShowsNumber y) A B) (sym q)
    (numbers_goes low high u (subst (λ i. TakesNumber i (to_natural high) A n B) e
    (subst (λ i. TakesNumber l i A n B) f x)))

pub negative_read : (low high z : ℤ) (least l h n : ℕ) {A B C : Reader} → low <ℤ pos 0
    → Sees A minus true → Takes minus A B → least ≡ to_natural (neg_ℤ high) → l ≡ max least 1
    → h ≡ to_natural (neg_ℤ low) → TakesNumber l h B n C → z ≡ neg_ℤ (pos n)
    → Reads (integers low high) (ShowsInteger z) A C
negative_read low high z least l h n {A} {B} {C} u s x d e f y q =
    subst (λ i. Reads (integers low high) (ShowsInteger i) A C) (sym q)
    (negative_goes low high u s x
    (subst (λ i. TakesNumber i (to_natural (neg_ℤ low)) B n C) (e ∙ ap (λ i. max i 1) d)
    (subst (λ i. TakesNumber l i B n C) f y)))

pub constant_read : (low high z : ℤ) (l h c : ℕ) {A B : Reader} → (high <ℤ pos 0 → ⊥)
    → Sees A (kind Character) true → l ≡ to_natural low → h ≡ to_natural high
    → TakesCode l h A c B → z ≡ pos c → Reads (characters low high) (ShowsCharacter z) A B
constant_read low high z l h c {A} {B} u s e f x q =
    subst (λ y. Reads (characters low high) (ShowsCharacter y) A B) (sym q)
    (constant_character low high u s (subst (λ i. TakesCode i (to_natural high) A c B) e
    (subst (λ i. TakesCode l i A c B) f x)))

pub coded_read : (low high z : ℤ) (l h c : ℕ) {A B : Reader} → (high <ℤ pos 0 → ⊥)
    → Sees A (kind Character) false → l ≡ to_natural low → h ≡ to_natural high
    → Reads (coded l h) (λ t. t ≡ both (leaf (value c)) nothing) A B → z ≡ pos c
    → Reads (characters low high) (ShowsCharacter z) A B
coded_read low high z l h c {A} {B} u s e f x q =
    subst (λ y. Reads (characters low high) (ShowsCharacter y) A B) (sym q)
    (coded_character low high u s
    (subst (λ i. Reads (coded i (to_natural high)) (λ t. t ≡ both (leaf (value c)) nothing) A B) e
    (subst (λ i. Reads (coded l i) (λ t. t ≡ both (leaf (value c)) nothing) A B) f x)))

pub integer_read : (low high z y : ℤ) {A B : Reader} → z ≡ y → NotBegun A (below_zero low high)
    → Reads (numbers low high) (ShowsNumber y) A B → Reads (integers low high) (ShowsInteger z) A B
integer_read low high z y {A} {B} q n x =
    subst (λ i. Reads (integers low high) (ShowsInteger i) A B) (sym q)
    (number_goes_on low high n x)

-- an ordinal of a kind whose host has this form
pub by_host : (k host : Kind) (l : KindLayer) (z y : ℤ) {A B : Reader}
    → host ≡ host_by (out-Kind k) k → out-Kind host ≡ l → z ≡ y
    → Reads (ordinal_by l k) (λ t. ShowsOrdinalBy l k y t) A B
    → Reads (ordinal k) (λ t. ShowsOrdinal k z t) A B
by_host k host l z y {A} {B} e f q r =
    subst (λ i. Reads (ordinal k) (λ t. ShowsOrdinal k i t) A B) (sym q)
    (subst (λ (h : Kind). Reads (ordinal_by (out-Kind h) k)
    (λ t. ShowsOrdinalBy (out-Kind h) k y t) A B) e
    (subst (λ (m : KindLayer). Reads (ordinal_by m k) (λ t. ShowsOrdinalBy m k y t) A B) (sym f)
    r))

-- a constant of the host
pub by_constant : (k host : Kind) (l : KindLayer) (names given : List Name) (z y : ℤ)
    {A B : Reader} → host ≡ host_by (out-Kind k) k → out-Kind host ≡ l → given ≡ names
    → ordinal_by l k ≡ constants (bytes_of names) k
    → ((t : Shape) → ShowsConstant k y t → ShowsOrdinalBy l k y t) → z ≡ y
    → Reads (constants (bytes_of given) k) (λ t. ShowsConstant k y t) A B
    → Reads (ordinal k) (λ t. ShowsOrdinal k z t) A B
by_constant k host l names given z y {A} {B} e f g h s q r =
    by_host k host l z y e f q record {
      shape = r.shape;
      goes = subst (λ i. Goes plain i A (node r.shape) B) (sym h)
          (subst (λ (ns : List Name). Goes plain (constants (bytes_of ns) k) A (node r.shape) B) g
          r.goes);
      is = λ w. s r.shape (r.is w);
    }

pub no_host : (k host : Kind) (l : KindLayer) (z : ℤ) {A B : Reader}
    → host ≡ host_by (out-Kind k) k → out-Kind host ≡ l → ordinal_by l k ≡ none
    → Steps false A B → Reads (ordinal k) (λ t. ShowsOrdinal k z t) A B
no_host k host l z {A} {B} e f g x = by_host k host l z z e f refl record {
  shape = nothing;
  goes = subst (λ r. Goes plain r A (node nothing) B) (sym g) (none_wrong x);
  is = λ w. absurd (not_well x w);
}
