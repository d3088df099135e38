-- What was seen of values, as it is written.
use Rattle.std.proofs.Common.{◌≡◌, ℕ, suc, ℤ, List, [], ◌∷◌, length, refl, sym, ap, subst, ◌∙◌}
use Rattle.std.proofs.Common.{IsTrue, replicate, Some, slice_get}
use Rattle.std.specs.List.{AllZip}
use Rattle.std.specs.Prelude.{codes}
use Rattle.std.proofs.lemmas.List.{length-map, length-replicate}
use Rattle.est_lexer.specs.declared.kind.Symbol.TheVariants as symbols
use Rattle.text_reader.specs.Grammar.{done, nothing, both, left, right}
use Rattle.est_syntax.specs.declared.kind.Kind.{Kind, out-Kind}
use Rattle.est_syntax.specs.declared.kind.Kind.TheOpen as kinds
use Rattle.est_syntax.specs.declared.kind.FieldKind.{FieldKind}
use Rattle.est_values.specs.declared.value.Value.{Value, out-Value}
use Rattle.est_values.specs.declared.value.Value.TheOpen as values
use Rattle.est_values.specs.FittingValues as fitting
use Rattle.est_values.specs.FittingValues.{Fits, KindLayer, IsOrdinalOf, AreMembersOf, scalar_of}
use Rattle.est_values.specs.FittingValues.{is_scalar, ordinal_count}
use Rattle.est_seen.specs.declared.seen.Seen.{Seen, out-Seen}
use Rattle.est_seen.specs.declared.seen.Seen.TheOpen as opened
use Rattle.est_seen.specs.SeenValues.{Matches, MatchEach, MayFit, any, undefined, ordinal, set}
use Rattle.est_seen.specs.SeenValues.{group, nothing_seen, one_more}
use Rattle.text_reader.specs.Going.{Shape}
use Rattle.text_values.specs.TraceGrammar as grammar
use Rattle.text_values.specs.TraceGrammar.{Rule, formed, group_of, a_seen, seen_of, field_kinds}
use Rattle.text_values.specs.SeenShapes.{ShowsSeen, ShowsSeens}
use Rattle.text_values.specs.SeenShapes as shapes
use Rattle.text_values.specs.WrittenLists.{enclosed, paired}
use Rattle.text_values.specs.WrittenOrdinals.{ordinal_text}
use Rattle.text_values.specs.WrittenSeen.{seen_text}
use Rattle.text_values.specs.WrittenValues as written
use Rattle.text_values.specs.WrittenValues.{set_text}
use Rattle.text_values.proofs.Groups.{enclosed_as}
use Rattle.text_values.proofs.Places.{mapped_at}
use Rattle.text_values.proofs.SeenGroups.{shown_seens}
use Rattle.text_values.proofs.SeenTexts.{any_text, undefined_seen, ordinal_seen, set_seen}
use Rattle.text_values.proofs.SeenTexts.{group_seen}
use Rattle.law_texts.specs.ReadableKinds.{IsReadable}
use Rattle.law_texts.proofs.Wholes.{Ends}
use Rattle.law_texts.proofs.Writing.{Writes, first_written, second_written, shown_written}
use Rattle.law_texts.proofs.Writing.{rule_written}
use Rattle.law_texts.proofs.Marks.{question_stands, left_parenthesis, right_parenthesis}
use Rattle.law_texts.proofs.Scalars.{ordinal_written}
use Rattle.law_texts.proofs.Lists.{enclosed_written, zipped, set_written}
use Rattle.law_texts.proofs.Values.{readable_set, readable_array, readable_field, readable_ordinal}
use Rattle.law_texts.proofs.Values.{by_ordinal, sign_written, undefined_written, replicated}

-- WHAT IS KNOWN OF A VALUE

undefined_fits : (k : Kind) (v : Value) → out-Value v ≡ values.Undefined → Fits k v
    → IsTrue (is_scalar k)
undefined_fits k v f (fitting.undefined e s) = s
undefined_fits k v f (fitting.ordinal z e o) = absurd cc
undefined_fits k v f (fitting.set base zs i e m) = absurd cc
undefined_fits k v f (fitting.array index of parts i e n each) = absurd cc
undefined_fits k v f (fitting.fields fs parts i e n each) = absurd cc

ordinal_fits : (k : Kind) (v : Value) (z : ℤ) → out-Value v ≡ values.Ordinal z → Fits k v
    → IsOrdinalOf k z
ordinal_fits k v z f (fitting.undefined e s) = absurd cc
ordinal_fits k v z f (fitting.ordinal y e o) =
    let q : y ≡ z = cc in subst (λ (i : ℤ). IsOrdinalOf k i) q o
ordinal_fits k v z f (fitting.set base zs i e m) = absurd cc
ordinal_fits k v z f (fitting.array index of parts i e n each) = absurd cc
ordinal_fits k v z f (fitting.fields fs parts i e n each) = absurd cc

-- the base of a set and its members
record IsSetOf (k : Kind) (zs : List ℤ) : Type 0 where
  base : Kind
  kind_is : out-Kind k ≡ kinds.SetOf base
  members : AreMembersOf base zs

set_fits : (k : Kind) (v : Value) (zs : List ℤ) → out-Value v ≡ values.Set zs → Fits k v
    → IsSetOf k zs
set_fits k v zs f (fitting.undefined e s) = absurd cc
set_fits k v zs f (fitting.ordinal y e o) = absurd cc
set_fits k v zs f (fitting.set base ys i e m) =
    let q : ys ≡ zs = cc in
    record { base = base; kind_is = i; members = subst (λ l. AreMembersOf base l) q m }
set_fits k v zs f (fitting.array index of parts i e n each) = absurd cc
set_fits k v zs f (fitting.fields fs parts i e n each) = absurd cc

-- The kinds of the parts of a group, with values of them.
record HasParts (k : Kind) (vs : List Value) : Type 0 where
  parts : List Kind
  rule_is : formed a_seen (out-Kind k) k ≡ group_of a_seen parts
  kinds_are : written.kinds_by (out-Kind k) (length vs) ≡ parts
  shows : (x : Seen) (xs : List Seen) (u : Shape) → out-Seen x ≡ opened.Group xs
      → ShowsSeens parts xs u → ShowsSeen k x (right (both u nothing))
  fit : AllZip (λ j v. IsReadable j × Fits j v) parts vs

array_parts : (k index of : Kind) (vs : List Value) → out-Kind k ≡ kinds.ArrayOf index of
    → IsReadable k → length vs ≡ ordinal_count index
    → ((i : ℕ) (v : Value) → slice_get vs i ≡ Some v → Fits of v) → HasParts k vs
array_parts k index of vs e r n each =
    let ks = replicate (ordinal_count index) of in
    record {
      parts = ks;
      rule_is = ap (λ (l : KindLayer). formed a_seen l k) e;
      kinds_are = ap (λ (l : KindLayer). written.kinds_by l (length vs)) e
          ∙ ap (λ m. replicate m of) n;
      shows = λ x xs u f h. shapes.array index of xs e f h;
      fit = zipped (λ j v. IsReadable j × Fits j v) ks vs
          (length-replicate (ordinal_count index) of ∙ sym n)
          (λ i j v p q. subst (λ (y : Kind). IsReadable y × Fits y v)
          (replicated (ordinal_count index) i of j p) (readable_array k index of e r, each i v q));
    }

fields_parts : (k : Kind) (fs : List FieldKind) (vs : List Value) → out-Kind k ≡ kinds.Fields fs
    → IsReadable k → length vs ≡ length fs
    → ((i : ℕ) (f : FieldKind) (v : Value) → slice_get fs i ≡ Some f → slice_get vs i ≡ Some v
    → Fits f.kind v) → HasParts k vs
fields_parts k fs vs e r n each = record {
  parts = field_kinds fs;
  rule_is = ap (λ (l : KindLayer). formed a_seen l k) e;
  kinds_are = ap (λ (l : KindLayer). written.kinds_by l (length vs)) e;
  shows = λ x xs u f h. shapes.fields fs xs e f h;
  fit = zipped (λ j v. IsReadable j × Fits j v) (field_kinds fs) vs
      (length-map fs (λ (x : FieldKind). x.kind) ∙ sym n)
      (λ i j v p q. let m = mapped_at (λ (x : FieldKind). x.kind) fs i j p in
      subst (λ (y : Kind). IsReadable y × Fits y v) m.2
      (readable_field k fs e r i m.0 m.1, each i m.0 v m.1 q));
}

group_fits : (k : Kind) (v : Value) (vs : List Value) → out-Value v ≡ values.Group vs
    → IsReadable k → Fits k v → HasParts k vs
group_fits k v vs f r (fitting.undefined e s) = absurd cc
group_fits k v vs f r (fitting.ordinal y e o) = absurd cc
group_fits k v vs f r (fitting.set base ys i e m) = absurd cc
group_fits k v vs f r (fitting.array index of ws i e n each) =
    let q : ws ≡ vs = cc in
    array_parts k index of vs i r (subst (λ l. length l ≡ ordinal_count index) q n)
    (subst (λ l. (j : ℕ) (w : Value) → slice_get l j ≡ Some w → Fits of w) q each)
group_fits k v vs f r (fitting.fields fs ws i e n each) =
    let q : ws ≡ vs = cc in
    fields_parts k fs vs i r (subst (λ l. length l ≡ length fs) q n)
    (subst (λ l. (j : ℕ) (g : FieldKind) (w : Value) → slice_get fs j ≡ Some g
    → slice_get l j ≡ Some w → Fits g.kind w) q each)

-- WHAT WAS SEEN

-- as many values match as were seen
pub as_many : (xs : List Seen) (vs : List Value) → MatchEach xs vs → length xs ≡ length vs
as_many _ _ nothing_seen = refl
as_many _ _ (one_more {xs = xs} {vs = vs} m rest) = ap suc (as_many xs vs rest)

-- what was seen of a value is written
abbrev pub IsWrittenSeen : Kind → Seen → Type 0
IsWrittenSeen k x = Writes Ends 0 (a_seen k) (λ t. ShowsSeen k x t) (seen_text k x)

-- a `?`
any_written : (k : Kind) (x : Seen) → out-Seen x ≡ opened.Any → IsWrittenSeen k x
any_written k x e =
    rule_written (seen_of k) (first_written (λ t. ShowsSeen k x t)
    (subst (λ b. Writes Ends 0 (grammar.symbol symbols.QuestionMark done)
    (λ t. t ≡ nothing) b) (any_text k x e)
    (sign_written symbols.QuestionMark 63 question_stands refl refl)) _
    (λ t i. subst (λ u. ShowsSeen k x (left u)) (sym i) (shapes.any e)))

-- what was seen in a form that gives this right side and this text
as_seen : (k : Kind) (x : Seen) (g : Rule) (bytes : List ℕ) → formed a_seen (out-Kind k) k ≡ g
    → bytes ≡ seen_text k x → Writes Ends 0 g (λ t. ShowsSeen k x (right t)) bytes
    → IsWrittenSeen k x
as_seen k x g bytes e f w =
    rule_written (seen_of k) (second_written (λ t. ShowsSeen k x t)
    (subst (λ h. Writes Ends 0 h (λ t. ShowsSeen k x (right t)) (seen_text k x)) (sym e)
    (subst (λ b. Writes Ends 0 g (λ t. ShowsSeen k x (right t)) b) f w)) _ (λ t i. i))

group_written : (k : Kind) (x : Seen) (xs : List Seen) (vs : List Value) (p : HasParts k vs)
    → out-Seen x ≡ opened.Group xs → length xs ≡ length vs → AllZip IsWrittenSeen p.parts xs
    → IsWrittenSeen k x
group_written k x xs vs p e n z =
    let by = λ (ks : List Kind). enclosed (codes "(") (codes ")") (paired seen_text ks xs) in
    let same : written.kinds_by (out-Kind k) (length xs) ≡ p.parts =
    ap (λ m. written.kinds_by (out-Kind k) m) n ∙ p.kinds_are in
    as_seen k x (group_of a_seen p.parts) _ p.rule_is (ap by (sym same) ∙ group_seen k x xs e)
    (shown_written (λ t. ShowsSeen k x (right t))
    (enclosed_written a_seen ShowsSeen seen_text symbols.LeftParenthesis
    symbols.RightParenthesis 40 41 left_parenthesis right_parenthesis p.parts xs z)
    (λ t h. enclosed_as ShowsSeen p.parts xs (λ t. ShowsSeen k x (right t))
    (λ u i. p.shows x xs u e (shown_seens p.parts xs u i)) t h))

mutual
  seen_written : (k : Kind) (x : Seen) (v : Value) → IsReadable k → Fits k v → Matches x v
      → IsWrittenSeen k x
  seen_written k x v r fit (any e) = any_written k x e
  seen_written k x v r fit (undefined e f) =
      let s = undefined_fits k v f fit in
      as_seen k x (formed a_seen (out-Kind k) k) (codes "_") refl (undefined_seen k x e)
      (shown_written (λ t. ShowsSeen k x (right t))
      (undefined_written a_seen (out-Kind k) k s)
      (λ t i. subst (λ u. ShowsSeen k x (right u)) (sym i) (shapes.undefined s e)))
  seen_written k x v r fit (ordinal z e f) =
      let o = ordinal_fits k v z f fit in
      as_seen k x (grammar.scalar (grammar.ordinal k)) (ordinal_text k z)
      (by_ordinal k z o a_seen (out-Kind k) refl) (ordinal_seen k x z e)
      (first_written (λ t. ShowsSeen k x (right t))
      (ordinal_written k z o (readable_ordinal k z o r)) _ (λ t h. shapes.ordinal z e h))
  seen_written k x v r fit (set zs e f) =
      let s = set_fits k v zs f fit in
      let base = s.base in
      as_seen k x (grammar.scalar (grammar.set base)) (set_text base zs)
      (ap (λ (l : KindLayer). formed a_seen l k) s.kind_is)
      (ap (λ (j : Kind). set_text j zs)
      (sym (ap (λ (l : KindLayer). written.base_by l k) s.kind_is)) ∙ set_seen k x zs e)
      (first_written (λ t. ShowsSeen k x (right t))
      (set_written base (readable_set k base s.kind_is r) zs s.members) _
      (λ t h. shapes.set base zs s.kind_is e h))
  seen_written k x v r fit (group xs vs e f each) =
      let p = group_fits k v vs f r fit in
      group_written k x xs vs p e (as_many xs vs each) (each_written p.parts xs vs p.fit each)

  each_written : (ks : List Kind) (xs : List Seen) (vs : List Value)
      → AllZip (λ j v. IsReadable j × Fits j v) ks vs → MatchEach xs vs
      → AllZip IsWrittenSeen ks xs
  each_written [] _ _ h nothing_seen = tt
  each_written (k ∷ ks) _ _ h nothing_seen = absurd h
  each_written [] _ _ h (one_more m rest) = absurd h
  each_written (k ∷ ks) _ _ h (one_more {x = x} {xs} {v} {vs} m rest) =
      (seen_written k x v h.0.0 h.0.1 m, each_written ks xs vs h.1 rest)

-- what was seen of values one for one
pub seens_written : (ks : List Kind) (xs : List Seen)
    → ((i : ℕ) (k : Kind) → slice_get ks i ≡ Some k → IsReadable k) → AllZip MayFit ks xs
    → AllZip IsWrittenSeen ks xs
seens_written [] [] r h = tt
seens_written [] (x ∷ xs) r h = absurd h
seens_written (k ∷ ks) [] r h = absurd h
seens_written (k ∷ ks) (x ∷ xs) r h = (
  seen_written k x h.0.0 (r 0 k refl) h.0.1 h.0.2,
  seens_written ks xs (λ i j e. r (suc i) j e) h.1,
)
