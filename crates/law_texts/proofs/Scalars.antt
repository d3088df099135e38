-- Ordinals, as they are written.
use Rattle.std.proofs.Common.{◌≡◌, ℕ, zero, suc, ◌+◌, ◌<◌, ◌≤◌, ◌^◌, max, min, ℤ, pos, negsuc}
use Rattle.std.proofs.Common.{neg_ℤ, ◌≤ℤ◌, ◌<ℤ◌, ◌-ℤ◌, Bool, true, false, not, ◌||◌, List, [], ◌∷◌}
use Rattle.std.proofs.Common.{◌++◌, length, take, refl, sym, ap, ap₂, subst, ◌∙◌, arith, eqb}
use Rattle.std.proofs.Common.{bytes_eq, Some, slice_get, if◌then◌else◌, le-leb}
use Rattle.std.specs.Fmt.{signed_decimal}
use Rattle.std.specs.List.{list_any}
use Rattle.std.specs.Option.{option_map_or}
use Rattle.std.specs.Prelude.{codes, nat_le}
use Rattle.std.proofs.lemmas.Bool.{and_parts, eqb-true}
use Rattle.std.proofs.lemmas.Int.{ints}
use Rattle.std.proofs.lemmas.List.{append-nil}
use Rattle.std.proofs.lemmas.Slice.Eq.{bytes_eq-Decides}
use Rattle.est_lexer.specs.declared.kind.TokenKind.TheVariants.{Character}
use Rattle.est_lexer.specs.declared.kind.Symbol.TheVariants as symbols
use Rattle.est_lexer.specs.Spellings.{is_plain_character, word_kind}
use Rattle.est_lexer.specs.Words.{words}
use Rattle.text_reader.specs.Grammar.{done, word, token, when, t_done, nothing, leaf, both, left}
use Rattle.text_reader.specs.Grammar.{right, pick, Tree}
use Rattle.est_syntax.specs.Kinds.{maxint, Holds, IsWellFormed, integers, booleans, characters}
use Rattle.est_syntax.specs.Kinds.{constants, part, sets, arrays, records}
use Rattle.est_syntax.specs.declared.name.Name.{Name}
use Rattle.est_syntax.specs.declared.kind.Kind.{Kind, out-Kind}
use Rattle.est_syntax.specs.declared.kind.Kind.TheOpen as kinds
use Rattle.est_values.specs.FittingValues.{KindLayer, first_of, last_of, IsOrdinalOf, first_ordinal}
use Rattle.est_values.specs.FittingValues.{last_ordinal}
use Rattle.est_values.specs.OrdinalTuples.{ordinals_of}
use Rattle.text_reader.specs.Tests.{named, character, value, code, language}
use Rattle.text_reader.specs.Going.{Shape}
use Rattle.text_values.specs.TraceGrammar as grammar
use Rattle.text_values.specs.TraceGrammar.{Rule, production, symbol, to_natural, boolean_names}
use Rattle.text_values.specs.TraceGrammar.{constant, numbered_constant, bytes_of, host_by}
use Rattle.text_values.specs.ValueShapes.{ShowsInteger, ShowsCharacter, ShowsConstant}
use Rattle.text_values.specs.ValueShapes.{ShowsOrdinalBy, ShowsOrdinal}
use Rattle.text_values.proofs.Numbering.{place_of, ordinal_there}
use Rattle.text_values.proofs.Places.{image_at, mapped_at}
use Rattle.text_values.specs.WrittenOrdinals as written
use Rattle.text_values.specs.WrittenOrdinals.{is_printable, quoted, code_text}
use Rattle.text_values.specs.WrittenOrdinals.{character_text, constant_text, ordinal_text}
use Rattle.law_texts.specs.PlainNames.{IsPlainName}
use Rattle.law_texts.specs.ReadableKinds.{ArePlainNames, HasPlainConstants, IsReadableOrdinal}
use Rattle.est_explanation.proofs.Words.{Written}
use Rattle.text_printer.proofs.Standing.{plain_stands, quotes_stand}
use Rattle.law_texts.proofs.Wholes.{Ends, standing_whole}
use Rattle.law_texts.proofs.Writing.{Writes, nothing_written, both_written, made_written}
use Rattle.law_texts.proofs.Writing.{first_written, second_written, token_written, picked}
use Rattle.law_texts.proofs.Marks.{left_parenthesis, right_parenthesis, minus, mark_written}
use Rattle.law_texts.proofs.Marks.{mark_ends, name_written, number_written}

-- nothing more
pub done_written : {least : ℕ} → Writes Ends least done (λ t. t ≡ nothing) []
done_written = nothing_written done (λ t. t ≡ nothing) (λ rest h. h.no_star) refl
    (λ text s d a. t_done)

-- a pair whose parts are known
pub pair_is : {t t' u u' : Shape} → t ≡ t' → u ≡ u' → both t u ≡ both t' u'
pair_is p q = ap₂ both p q

-- INTEGERS

natural_below : (low : ℤ) (n : ℕ) → low ≤ℤ pos n → to_natural low ≤ n
natural_below (pos a) n l = omega (arith, ints, l)
natural_below (negsuc a) n l = omega arith

least_below : (high : ℤ) (n : ℕ) → negsuc n ≤ℤ high → max (to_natural (neg_ℤ high)) 1 ≤ suc n
least_below (pos zero) n l = omega arith
least_below (pos (suc b)) n l = omega arith
least_below (negsuc b) n l = omega (arith, ints, l)

pub integer_written : (low high z : ℤ) → low ≤ℤ z → z ≤ℤ high → neg_ℤ (pos maxint) ≤ℤ z
    → z ≤ℤ pos maxint
    → Writes Ends 0 (grammar.integers low high) (λ t. ShowsInteger z t) (signed_decimal z)
integer_written low (pos b) (pos n) l u m w =
    first_written (λ t. ShowsInteger (pos n) t)
    (number_written n (to_natural low) b (natural_below low n l) (omega (arith, ints, u))
    (omega (arith, ints, w))) _
    (λ t i. subst (λ v. ShowsInteger (pos n) (left v)) (sym i) refl)
integer_written low (negsuc b) (pos n) l u m w = absurd (omega (arith, ints, u))
integer_written (pos a) high (negsuc n) l u m w = absurd (omega (arith, ints, l))
integer_written (negsuc a) high (negsuc n) l u m w =
    second_written (λ t. ShowsInteger (negsuc n) t)
    (mark_written symbols.Minus 45 minus
    (number_written (suc n) (max (to_natural (neg_ℤ high)) 1) (to_natural (neg_ℤ (negsuc a)))
    (least_below high n u) (omega (arith, ints, l)) (omega (arith, ints, m)))) _
    (λ t i. subst (λ v. ShowsInteger (negsuc n) (right v)) (sym i) refl)

-- CHARACTERS

-- a character constant, and what stands after it
abbrev constant_word : List ℕ → Written
constant_word bytes = record { kind = Character; bytes = bytes; gap = [] }

quotes_written : (low high : ℕ) → low ≤ 39 → 39 ≤ high
    → Writes Ends 0 (token (character low high)) (λ t. t ≡ leaf (code 39)) (codes "''''")
quotes_written low high l u =
    token_written (character low high) (code 39) (constant_word (codes "''''")) refl
    (λ text t w. rw (w.kind, w.spelled, le-leb low 39 l, le-leb 39 high u) refl)
    (λ text t w. rw (w.kind, w.spelled) refl)
    (λ rest h. standing_whole Character (codes "''''") [] rest refl (quotes_stand rest))
    (λ rest. refl) refl

printable_plain : (c : ℕ) → is_printable c ≡ true → eqb c 39 ≡ false → is_plain_character c ≡ true
printable_plain c h e =
    let p = and_parts (nat_le 32 c) (nat_le c 126) h in rw (p.0, p.1, e) refl

plain_written : (low high c : ℕ) → is_plain_character c ≡ true → low ≤ c → c ≤ high
    → Writes Ends 0 (token (character low high)) (λ t. t ≡ leaf (code c)) (39 ∷ c ∷ 39 ∷ [])
plain_written low high c p l u =
    token_written (character low high) (code c) (constant_word (39 ∷ c ∷ 39 ∷ [])) refl
    (λ text t w. rw (w.kind, w.spelled, le-leb low c l, le-leb c high u) refl)
    (λ text t w. rw (w.kind, w.spelled) refl)
    (λ rest h. standing_whole Character (39 ∷ c ∷ 39 ∷ []) [] rest refl (plain_stands c rest p))
    (λ rest. refl) refl

quoted_written : (low high c : ℕ) → is_printable c ≡ true → low ≤ c → c ≤ high
    → Writes Ends 0 (token (character low high)) (λ t. t ≡ leaf (code c)) (quoted c)
quoted_written low high c p l u = by (eqb c 39) refl
  where
    by : (b : Bool) → eqb c 39 ≡ b
        → Writes Ends 0 (token (character low high)) (λ t. t ≡ leaf (code c))
        (if b then codes "''''" else codes "'" ++ c ∷ codes "'")
    by true e =
        let q : 39 ≡ c = sym (eqb-true c 39 e) in
        subst (λ n. Writes Ends 0 (token (character low high)) (λ t. t ≡ leaf (code n))
        (codes "''''")) q (quotes_written low high (omega (arith, l, q)) (omega (arith, u, q)))
    by false e = plain_written low high c (printable_plain c p e) l u

chr_plain : IsPlainName (codes "chr")
unfolding word_kind words
chr_plain = record { identifier = refl; no_word = refl; lower = refl }

coded_written : (low high c : ℕ) → low ≤ c → c ≤ high → c < 10 ^ 18
    → Writes Ends 0 (grammar.coded low high) (λ t. t ≡ both (leaf (value c)) nothing) (code_text c)
coded_written low high c l u h =
    name_written (codes "chr") chr_plain
    (mark_written symbols.LeftParenthesis 40 left_parenthesis
    (both_written (λ t. t ≡ both (leaf (value c)) nothing) (number_written c low high l u h)
    (mark_written symbols.RightParenthesis 41 right_parenthesis done_written)
    (λ rest e. mark_ends symbols.RightParenthesis 41 right_parenthesis rest)
    (λ t v p q. pair_is p q))) (λ rest e. refl)

pub character_written : (low high : ℤ) (c : ℕ) → low ≤ℤ pos c → pos c ≤ℤ high → c < 128
    → Writes Ends 0 (grammar.characters low high) (λ t. ShowsCharacter (pos c) t)
    (character_text c)
character_written low (negsuc b) c l u h = absurd (omega (arith, ints, u))
character_written low (pos b) c l u h = by (is_printable c) refl
  where
    below : c ≤ b
    below = omega (arith, ints, u)

    by : (p : Bool) → is_printable c ≡ p
        → Writes Ends 0 (grammar.characters low (pos b)) (λ t. ShowsCharacter (pos c) t)
        (if p then quoted c else code_text c)
    by true e =
        first_written (λ t. ShowsCharacter (pos c) t)
        (quoted_written (to_natural low) b c e (natural_below low c l) below) _
        (λ t i. subst (λ v. ShowsCharacter (pos c) (left v)) (sym i) refl)
    by false e =
        second_written (λ t. ShowsCharacter (pos c) t)
        (coded_written (to_natural low) b c (natural_below low c l) below (omega (arith, h))) _
        (λ t i. subst (λ v. ShowsCharacter (pos c) (right v)) (sym i) refl)

-- CONSTANTS

-- the alternative of a constant whose name stands nowhere before it
constant_is : (names : List (List ℕ)) (n : ℕ) (name : List ℕ) → slice_get names n ≡ Some name
    → list_any (bytes_eq name) (take n names) ≡ false
    → constant names (pos n) ≡ word (named name) done
constant_is names n name e f =
    ap (numbered_constant names n) e ∙ ap (λ b. when (not b) (word (named name) done)) f

pub constant_written : (names : List (List ℕ)) (k : Kind) (n : ℕ) (name : List ℕ)
    → slice_get names n ≡ Some name → list_any (bytes_eq name) (take n names) ≡ false
    → IsPlainName name → IsOrdinalOf k (pos n)
    → Writes Ends 0 (grammar.constants names k) (λ t. ShowsConstant k (pos n) t) name
constant_written names k n name e f p o =
    let i = place_of k (pos n) in
    let there = ordinal_there k (pos n) o in
    let alone : Writes Ends 0 (word (named name) done) (λ t. t ≡ nothing) (name ++ []) =
    name_written name p done_written (λ rest h. h.no_part) in
    made_written
    (subst (λ bytes. Writes Ends 0 (word (named name) done) (λ t. t ≡ nothing) bytes)
    (append-nil name) alone)
    (λ text s d a b t j y. (
      pick i nothing,
      picked text s (constant names) (ordinals_of k) i (pos n) d a b nothing there
          (subst (λ g. Tree (language production text) s (length s) g d a b nothing)
          (sym (constant_is names n name e f))
          (subst (λ v. Tree (language production text) s (length s) (word (named name) done) d a b
          v) j y)),
      (i, there, refl),
    ))

-- a name that differs from those before it
none_before : (names : List (List ℕ)) (n : ℕ) (name : List ℕ) → slice_get names n ≡ Some name
    → ((j : ℕ) → slice_get names j ≡ Some name → j ≡ n)
    → list_any (bytes_eq name) (take n names) ≡ false
none_before names zero name e d = refl
none_before [] (suc n) name e d = refl
none_before (y ∷ ys) (suc n) name e d =
    differs (bytes_eq name y) refl
    (none_before ys n name e
    (λ j h. let q : suc j ≡ suc n = d (suc j) h in omega (arith, q)))
  where
    differs : (b : Bool) → bytes_eq name y ≡ b → list_any (bytes_eq name) (take n ys) ≡ false
        → (bytes_eq name y || list_any (bytes_eq name) (take n ys)) ≡ false
    differs true h more =
        let q : zero ≡ suc n = d zero (ap Some (sym ((bytes_eq-Decides name y).0 h))) in
        absurd (omega (arith, q))
    differs false h more = rw h more

there_is : {X : Type 0} (xs : List X) (n : ℕ) → n < length xs
    → (x : X) × (slice_get xs n ≡ Some x)
there_is [] n l = absurd (omega (arith, l))
there_is (x ∷ xs) zero l = (x, refl)
there_is (x ∷ xs) (suc n) l = there_is xs n (omega (arith, l))

-- the constant of an enumeration
named_written : (names : List Name) (k : Kind) (n : ℕ) (name : Name) → slice_get names n ≡ Some name
    → ArePlainNames names → IsOrdinalOf k (pos n)
    → Writes Ends 0 (grammar.constants (bytes_of names) k) (λ t. ShowsConstant k (pos n) t)
    (constant_text names n)
named_written names k n name e p o =
    let f : Name → List ℕ = λ m. m.bytes in
    let there = image_at f names n name e in
    subst (λ bytes. Writes Ends 0 (grammar.constants (bytes_of names) k)
    (λ t. ShowsConstant k (pos n) t) bytes) (sym (ap (λ v. option_map_or f v []) e))
    (constant_written (bytes_of names) k n name.bytes there
    (none_before (bytes_of names) n name.bytes there (λ j h. one_place j h)) (p.each n name e) o)
  where
    one_place : (j : ℕ) → slice_get (bytes_of names) j ≡ Some name.bytes → j ≡ n
    one_place j h =
        let m = mapped_at (λ (x : Name). x.bytes) names j name.bytes h in
        p.differ j n m.0 name m.1 e m.2

false_plain : IsPlainName (codes "false")
unfolding word_kind words
false_plain = record { identifier = refl; no_word = refl; lower = refl }

true_plain : IsPlainName (codes "true")
unfolding word_kind words
true_plain = record { identifier = refl; no_word = refl; lower = refl }

boolean_written : (k : Kind) (z : ℤ) → IsOrdinalOf k z → pos 0 ≤ℤ z → z ≤ℤ pos 1
    → Writes Ends 0 (grammar.constants boolean_names k) (λ t. ShowsConstant k z t)
    (written.boolean_text z)
boolean_written k (negsuc n) o l u = absurd (omega (arith, ints, l))
boolean_written k (pos zero) o l u =
    constant_written boolean_names k 0 (codes "false") refl refl false_plain o
boolean_written k (pos (suc zero)) o l u =
    constant_written boolean_names k 1 (codes "true") refl refl true_plain o
boolean_written k (pos (suc (suc n))) o l u = absurd (omega (arith, ints, u))

-- ORDINALS

-- what a kind of this form holds, where it is no part of another
abbrev pub IsHeld : KindLayer → ℤ → Type 0
IsHeld kinds.Integer z = (neg_ℤ (pos maxint) ≤ℤ z) × (z ≤ℤ pos maxint)
IsHeld kinds.Boolean z = (pos 0 ≤ℤ z) × (z ≤ℤ pos 1)
IsHeld kinds.Char z = (pos 0 ≤ℤ z) × (z ≤ℤ pos 127)
IsHeld (kinds.Enumeration place names) z = (pos 0 ≤ℤ z) × (z <ℤ pos (length names))
IsHeld _ z = ⊥

held_by : (host : Kind) (z : ℤ) (l : KindLayer) → out-Kind host ≡ l → Holds host z → IsHeld l z
held_by host z kinds.Integer e h = rw e at h
held_by host z kinds.Boolean e h = rw e at h
held_by host z kinds.Char e h = rw e at h
held_by host z (kinds.Enumeration place names) e h = rw e at h
held_by host z (kinds.Part of low high) e h = rw e at h
held_by host z (kinds.SetOf base) e h = rw e at h
held_by host z (kinds.ArrayOf index of) e h = rw e at h
held_by host z (kinds.Fields fields) e h = rw e at h

held_as : (host : Kind) (z : ℤ) → Holds host z → IsHeld (out-Kind host) z
held_as host z h = held_by host z (out-Kind host) refl h

held_between : (l : KindLayer) (low high z : ℤ) → IsHeld l low → IsHeld l high → low ≤ℤ z
    → z ≤ℤ high → IsHeld l z
held_between kinds.Integer low high z h m l u =
    (omega (arith, ints, h.0, l), omega (arith, ints, m.1, u))
held_between kinds.Boolean low high z h m l u =
    (omega (arith, ints, h.0, l), omega (arith, ints, m.1, u))
held_between kinds.Char low high z h m l u =
    (omega (arith, ints, h.0, l), omega (arith, ints, m.1, u))
held_between (kinds.Enumeration place names) low high z h m l u =
    (omega (arith, ints, h.0, l), omega (arith, ints, m.1, u))
held_between _ low high z h m l u = absurd h

below_count : (n : ℕ) (z : ℤ) → z ≤ℤ (pos (min n (maxint + 1)) -ℤ pos 1) → z <ℤ pos n
below_count n z h = omega (arith, ints, h)

module _ (k : Kind) (z : ℤ) (o : IsOrdinalOf k z) where
  bounds : {l : KindLayer} → out-Kind k ≡ l → (first_of l ≤ℤ z) × (z ≤ℤ last_of l)
  bounds e = subst (λ (l : KindLayer). (first_of l ≤ℤ z) × (z ≤ℤ last_of l)) e o

  -- where a kind is its own host
  held_alone : (l : KindLayer) → out-Kind k ≡ l → host_by l k ≡ k → IsHeld l z
      → IsHeld (out-Kind (host_by (out-Kind k) k)) z
  held_alone l e q h =
      subst (λ (m : KindLayer). IsHeld (out-Kind (host_by m k)) z) (sym e)
      (subst (λ (j : Kind). IsHeld (out-Kind j) z) (sym q)
      (subst (λ (m : KindLayer). IsHeld m z) (sym e) h))

  -- an ordinal is held by the host of its kind
  pub held_of : IsWellFormed k → IsHeld (out-Kind (host_by (out-Kind k) k)) z
  held_of (integers e) = held_alone kinds.Integer e refl (bounds e)
  held_of (booleans e) = held_alone kinds.Boolean e refl (bounds e)
  held_of (characters e) = held_alone kinds.Char e refl (bounds e)
  held_of (constants place names e some) =
      let b = bounds e in
      held_alone (kinds.Enumeration place names) e refl
      (b.0, below_count (length names) z b.1)
  held_of (part host low high e l u order) =
      let b = bounds e in
      subst (λ (m : KindLayer). IsHeld (out-Kind (host_by m k)) z) (sym e)
      (held_between (out-Kind host) low high z (held_as host low l) (held_as host high u) b.0 b.1)
  held_of (sets base e i w) = let b = bounds e in absurd (omega (arith, ints, b.0, b.1))
  held_of (arrays index of e i w v) = let b = bounds e in absurd (omega (arith, ints, b.0, b.1))
  held_of (records fields e w) = let b = bounds e in absurd (omega (arith, ints, b.0, b.1))

  by_layer : (l : KindLayer) → IsHeld l z → HasPlainConstants l
      → Writes Ends 0 (grammar.ordinal_by l k) (λ t. ShowsOrdinalBy l k z t)
      (written.ordinal_by l z)
  by_layer kinds.Integer h p =
      integer_written (first_ordinal k) (last_ordinal k) z o.0 o.1 h.0 h.1
  by_layer kinds.Boolean h p = boolean_written k z o h.0 h.1
  by_layer kinds.Char h p = in_code z o h.0 h.1
    where
      in_code : (y : ℤ) → IsOrdinalOf k y → pos 0 ≤ℤ y → y ≤ℤ pos 127
          → Writes Ends 0 (grammar.characters (first_ordinal k) (last_ordinal k))
          (λ t. ShowsCharacter y t) (character_text (written.to_natural y))
      in_code (pos c) i l u =
          character_written (first_ordinal k) (last_ordinal k) c i.0 i.1 (omega (arith, ints, u))
      in_code (negsuc c) i l u = absurd (omega (arith, ints, l))
  by_layer (kinds.Enumeration declared names) h p = in_names z o h.0 h.1
    where
      in_names : (y : ℤ) → IsOrdinalOf k y → pos 0 ≤ℤ y → y <ℤ pos (length names)
          → Writes Ends 0 (grammar.constants (bytes_of names) k) (λ t. ShowsConstant k y t)
          (constant_text names (written.to_natural y))
      in_names (pos n) i l u =
          let there = there_is names n (omega (arith, ints, u)) in
          named_written names k n there.0 there.1 p i
      in_names (negsuc n) i l u = absurd (omega (arith, ints, l))
  by_layer _ h p = absurd h

  same_host : (l : KindLayer) → written.host_by l k ≡ host_by l k
  same_host kinds.Integer = refl
  same_host kinds.Boolean = refl
  same_host kinds.Char = refl
  same_host (kinds.Enumeration declared names) = refl
  same_host (kinds.Part host low high) = refl
  same_host (kinds.SetOf base) = refl
  same_host (kinds.ArrayOf index of) = refl
  same_host (kinds.Fields fields) = refl

  -- an ordinal of a kind
  pub ordinal_written : IsReadableOrdinal k
      → Writes Ends 0 (grammar.ordinal k) (λ t. ShowsOrdinal k z t) (ordinal_text k z)
  ordinal_written r =
      subst (λ bytes. Writes Ends 0 (grammar.ordinal k) (λ t. ShowsOrdinal k z t) bytes)
      (ap (λ (j : Kind). written.ordinal_by (out-Kind j) z) (sym (same_host (out-Kind k))))
      (by_layer (out-Kind (host_by (out-Kind k) k)) (held_of r.well_formed) r.constants)
