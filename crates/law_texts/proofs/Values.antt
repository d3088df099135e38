-- Values, as they are written.
use Rattle.std.proofs.Common.{◌≡◌, ℕ, zero, suc, ℤ, pos, negsuc, ◌≤ℤ◌, List, [], ◌∷◌, length, refl}
use Rattle.std.proofs.Common.{sym, ap, subst, ◌∙◌, arith, true, false, IsTrue, replicate, Some}
use Rattle.std.proofs.Common.{slice_get, eqb}
use Rattle.std.specs.List.{AllZip}
use Rattle.std.specs.Prelude.{codes}
use Rattle.std.proofs.lemmas.Int.{ints}
use Rattle.std.proofs.lemmas.List.{length-map, length-replicate}
use Rattle.est_lexer.specs.declared.kind.TokenKind.TheVariants.{Symbol}
use Rattle.est_lexer.specs.declared.kind.Symbol as mark
use Rattle.est_lexer.specs.declared.kind.Symbol.TheVariants as symbols
use Rattle.est_lexer.specs.TokenKinds.{is_same}
use Rattle.text_reader.specs.Grammar.{done, nothing, both, right}
use Rattle.est_syntax.specs.declared.kind.Kind.{Kind, out-Kind}
use Rattle.est_syntax.specs.declared.kind.Kind.TheOpen as kinds
use Rattle.est_syntax.specs.declared.kind.FieldKind.{FieldKind}
use Rattle.est_values.specs.declared.value.Value.{Value, out-Value}
use Rattle.est_values.specs.declared.value.Value.TheOpen as values
use Rattle.est_values.specs.FittingValues as fitting
use Rattle.est_values.specs.FittingValues.{Fits, KindLayer, IsOrdinalOf, AreMembersOf, scalar_of}
use Rattle.est_values.specs.FittingValues.{ordinal_count, first_of, last_of}
use Rattle.text_reader.specs.Tests.{kind}
use Rattle.text_reader.specs.Going.{Shape}
use Rattle.text_values.specs.TraceGrammar as grammar
use Rattle.text_values.specs.TraceGrammar.{Rule, formed, a_value, value_by, value_of, field_kinds}
use Rattle.text_values.specs.ValueShapes.{ShowsOrdinal, ShowsSet, ShowsValue, ShowsValues}
use Rattle.text_values.specs.ValueShapes as shapes
use Rattle.text_values.proofs.Groups.{enclosed_as, shown_values}
use Rattle.text_values.proofs.Places.{mapped_at, some_same}
use Rattle.text_values.specs.WrittenLists.{enclosed}
use Rattle.text_values.specs.WrittenOrdinals.{ordinal_text}
use Rattle.text_values.specs.WrittenValues as written
use Rattle.text_values.specs.WrittenValues.{value_text, value_texts, set_text, group_text}
use Rattle.text_values.proofs.ValueTexts.{undefined_text, ordinal_is, set_is, group_is}
use Rattle.law_texts.specs.ReadableKinds.{IsReadableOrdinal, IsReadable, ordinals, sets, arrays}
use Rattle.law_texts.specs.ReadableKinds.{records}
use Rattle.text_printer.proofs.Standing.{Stands}
use Rattle.law_texts.proofs.Wholes.{Ends, standing_whole}
use Rattle.law_texts.proofs.Writing.{Writes, first_written, second_written, shown_written}
use Rattle.law_texts.proofs.Writing.{rule_written, word_written}
use Rattle.law_texts.proofs.Marks.{marked, mark_meets, underscore_stands, left_parenthesis}
use Rattle.law_texts.proofs.Marks.{right_parenthesis}
use Rattle.law_texts.proofs.Scalars.{done_written, ordinal_written}
use Rattle.law_texts.proofs.Lists.{enclosed_written, zipped, set_written}

-- WHAT IS KNOWN OF A KIND

pub readable_set : (k base : Kind) → out-Kind k ≡ kinds.SetOf base → IsReadable k
    → IsReadableOrdinal base
readable_set k base e (ordinals r) =
    let no : false ≡ true = rw e at r.ordinal in absurd cc
readable_set k base e (sets other f r) =
    let q : other ≡ base = cc in subst (λ (j : Kind). IsReadableOrdinal j) q r
readable_set k base e (arrays index of f i r) = absurd cc
readable_set k base e (records fs f r) = absurd cc

pub readable_array : (k index of : Kind) → out-Kind k ≡ kinds.ArrayOf index of → IsReadable k
    → IsReadable of
readable_array k index of e (ordinals r) =
    let no : false ≡ true = rw e at r.ordinal in absurd cc
readable_array k index of e (sets base f r) = absurd cc
readable_array k index of e (arrays other part f i r) =
    let q : part ≡ of = cc in subst (λ (j : Kind). IsReadable j) q r
readable_array k index of e (records fs f r) = absurd cc

pub readable_field : (k : Kind) (fs : List FieldKind) → out-Kind k ≡ kinds.Fields fs → IsReadable k
    → (i : ℕ) (field : FieldKind) → slice_get fs i ≡ Some field → IsReadable field.kind
readable_field k fs e (ordinals r) i field g =
    let no : false ≡ true = rw e at r.ordinal in absurd cc
readable_field k fs e (sets base f r) i field g = absurd cc
readable_field k fs e (arrays index of f x r) i field g = absurd cc
readable_field k fs e (records other f r) i field g =
    let q : fs ≡ other = cc in r i field (ap (λ l. slice_get l i) (sym q) ∙ g)

module _ (k : Kind) (z : ℤ) (o : IsOrdinalOf k z) where
  no_ordinals : {A : Type 0} (l : KindLayer) → out-Kind k ≡ l → first_of l ≡ pos 0
      → last_of l ≡ negsuc 0 → A
  no_ordinals l e f g =
      let b = subst (λ (m : KindLayer). (first_of m ≤ℤ z) × (z ≤ℤ last_of m)) e o in
      let low : pos 0 ≤ℤ z = subst (λ y. y ≤ℤ z) f b.0 in
      let high : z ≤ℤ negsuc 0 = subst (λ y. z ≤ℤ y) g b.1 in
      absurd (omega (arith, ints, low, high))

  pub readable_ordinal : IsReadable k → IsReadableOrdinal k
  readable_ordinal (ordinals r) = r
  readable_ordinal (sets base e r) = no_ordinals (kinds.SetOf base) e refl refl
  readable_ordinal (arrays index of e i r) = no_ordinals (kinds.ArrayOf index of) e refl refl
  readable_ordinal (records fs e r) = no_ordinals (kinds.Fields fs) e refl refl

  pub by_ordinal : (part : Kind → Rule) (l : KindLayer) → out-Kind k ≡ l
      → formed part l k ≡ grammar.scalar (grammar.ordinal k)
  by_ordinal part kinds.Integer e = refl
  by_ordinal part kinds.Boolean e = refl
  by_ordinal part kinds.Char e = refl
  by_ordinal part (kinds.Enumeration declared names) e = refl
  by_ordinal part (kinds.Part host low high) e = refl
  by_ordinal part (kinds.SetOf base) e = no_ordinals (kinds.SetOf base) e refl refl
  by_ordinal part (kinds.ArrayOf index of) e = no_ordinals (kinds.ArrayOf index of) e refl refl
  by_ordinal part (kinds.Fields fs) e = no_ordinals (kinds.Fields fs) e refl refl

-- SCALARS

-- a symbol that stands before any text
pub sign_written : (s : mark.Symbol) (b : ℕ)
    → ((rest : List ℕ) → Stands (Symbol s) (b ∷ []) rest)
    → is_same (Symbol s) (Symbol s) ≡ true → eqb b 42 ≡ false
    → Writes Ends 0 (grammar.symbol s done) (λ t. t ≡ nothing) (b ∷ [])
sign_written s b stands same star =
    word_written (kind (Symbol s)) (marked s b []) done_written (mark_meets s b [] same)
    (λ rest h. standing_whole (Symbol s) (b ∷ []) [] rest refl (stands rest)) (λ rest. star)

undefined_scalar : (g : Rule)
    → Writes Ends 0 (grammar.scalar g) (λ t. t ≡ right nothing) (codes "_")
undefined_scalar g =
    second_written (λ t. t ≡ right nothing)
    (sign_written symbols.Underscore 95 underscore_stands refl refl) g (λ t i. ap right i)

pub undefined_written : (part : Kind → Rule) (l : KindLayer) (k : Kind) → IsTrue (scalar_of l)
    → Writes Ends 0 (formed part l k) (λ t. t ≡ right nothing) (codes "_")
undefined_written part kinds.Integer k s = undefined_scalar (grammar.ordinal k)
undefined_written part kinds.Boolean k s = undefined_scalar (grammar.ordinal k)
undefined_written part kinds.Char k s = undefined_scalar (grammar.ordinal k)
undefined_written part (kinds.Enumeration declared names) k s = undefined_scalar (grammar.ordinal k)
undefined_written part (kinds.Part host low high) k s = undefined_scalar (grammar.ordinal k)
undefined_written part (kinds.SetOf base) k s = undefined_scalar (grammar.set base)
undefined_written part (kinds.ArrayOf index of) k s = absurd cc
undefined_written part (kinds.Fields fs) k s = absurd cc

-- a value whose form gives this right side and this text
as_value : (k : Kind) (v : Value) (g : Rule) (bytes : List ℕ) → grammar.value k ≡ g
    → bytes ≡ value_text k v → Writes Ends 0 g (λ t. ShowsValue k v t) bytes
    → Writes Ends 0 (a_value k) (λ t. ShowsValue k v t) (value_text k v)
as_value k v g bytes e f w =
    rule_written (value_of k) (subst (λ h. Writes Ends 0 h (λ t. ShowsValue k v t) (value_text k v))
    (sym e) (subst (λ b. Writes Ends 0 g (λ t. ShowsValue k v t) b) f w))

-- GROUPS

-- a value that is written
abbrev pub IsWrittenValue : Kind → Value → Type 0
IsWrittenValue k v = Writes Ends 0 (a_value k) (λ t. ShowsValue k v t) (value_text k v)

group_written : (k : Kind) (v : Value) (ks : List Kind) (vs : List Value)
    → grammar.value k ≡ grammar.group ks
    → enclosed (codes "(") (codes ")") (value_texts ks vs) ≡ value_text k v
    → ((u : Shape) → ShowsValues ks vs u → ShowsValue k v (both u nothing))
    → AllZip IsWrittenValue ks vs → IsWrittenValue k v
group_written k v ks vs e f s z =
    as_value k v (grammar.group ks) _ e f
    (shown_written (λ t. ShowsValue k v t)
    (enclosed_written a_value ShowsValue value_text symbols.LeftParenthesis
    symbols.RightParenthesis 40 41 left_parenthesis right_parenthesis ks vs z)
    (λ t h. enclosed_as ShowsValue ks vs (ShowsValue k v)
    (λ u i. s u (shown_values ks vs u i)) t h))

pub replicated : (n i : ℕ) (x y : Kind) → slice_get (replicate n x) i ≡ Some y → x ≡ y
replicated zero i x y e = absurd cc
replicated (suc n) zero x y e = some_same e
replicated (suc n) (suc i) x y e = replicated n i x y e

array_text : (k index of : Kind) (parts : List Value) (v : Value)
    → out-Kind k ≡ kinds.ArrayOf index of → out-Value v ≡ values.Group parts
    → length parts ≡ ordinal_count index
    → enclosed (codes "(") (codes ")") (value_texts (replicate (ordinal_count index) of) parts)
    ≡ value_text k v
array_text k index of parts v e f n =
    let by = λ (ks : List Kind). enclosed (codes "(") (codes ")") (value_texts ks parts) in
    let p : written.kinds_by (out-Kind k) (length parts) ≡ replicate (length parts) of =
    ap (λ (l : KindLayer). written.kinds_by l (length parts)) e in
    let q : replicate (length parts) of ≡ replicate (ordinal_count index) of =
    ap (λ m. replicate m of) n in
    ap by (sym (p ∙ q)) ∙ group_is k v parts f

fields_text : (k : Kind) (fs : List FieldKind) (parts : List Value) (v : Value)
    → out-Kind k ≡ kinds.Fields fs → out-Value v ≡ values.Group parts
    → enclosed (codes "(") (codes ")") (value_texts (field_kinds fs) parts) ≡ value_text k v
fields_text k fs parts v e f =
    let by = λ (ks : List Kind). enclosed (codes "(") (codes ")") (value_texts ks parts) in
    let p : written.kinds_by (out-Kind k) (length parts) ≡ field_kinds fs =
    ap (λ (l : KindLayer). written.kinds_by l (length parts)) e in
    ap by (sym p) ∙ group_is k v parts f

-- VALUES

pub value_written : (k : Kind) (v : Value) → IsReadable k → Fits k v → IsWrittenValue k v
value_written k v r (fitting.undefined e s) =
    as_value k v (grammar.value k) (codes "_") refl (undefined_text k v e)
    (shown_written (λ t. ShowsValue k v t) (undefined_written a_value (out-Kind k) k s)
    (λ t i. subst (λ u. ShowsValue k v u) (sym i) (shapes.undefined s e)))
value_written k v r (fitting.ordinal z e o) =
    as_value k v (grammar.scalar (grammar.ordinal k)) (ordinal_text k z)
    (by_ordinal k z o a_value (out-Kind k) refl) (ordinal_is k v z e)
    (first_written (λ t. ShowsValue k v t) (ordinal_written k z o (readable_ordinal k z o r)) _
    (λ t h. shapes.ordinal z e h))
value_written k v r (fitting.set base zs e f m) =
    as_value k v (grammar.scalar (grammar.set base)) (set_text base zs)
    (ap (λ (l : KindLayer). value_by l k) e)
    (ap (λ (j : Kind). set_text j zs) (sym (ap (λ (l : KindLayer). written.base_by l k) e))
    ∙ set_is k v zs f)
    (first_written (λ t. ShowsValue k v t) (set_written base (readable_set k base e r) zs m) _
    (λ t h. shapes.set base zs e f h))
value_written k v r (fitting.array index of parts e f n fits) =
    let ks = replicate (ordinal_count index) of in
    group_written k v ks parts (ap (λ (l : KindLayer). value_by l k) e)
    (array_text k index of parts v e f n) (λ u h. shapes.array index of parts e f h)
    (zipped IsWrittenValue ks parts
    (length-replicate (ordinal_count index) of ∙ sym n)
    (λ i j part p q. subst (λ (x : Kind). IsWrittenValue x part)
    (replicated (ordinal_count index) i of j p)
    (value_written of part (readable_array k index of e r) (fits i part q))))
value_written k v r (fitting.fields fs parts e f n fits) =
    let ks = field_kinds fs in
    group_written k v ks parts (ap (λ (l : KindLayer). value_by l k) e)
    (fields_text k fs parts v e f) (λ u h. shapes.fields fs parts e f h)
    (zipped IsWrittenValue ks parts
    (length-map fs (λ (x : FieldKind). x.kind) ∙ sym n)
    (λ i j part p q. let m = mapped_at (λ (x : FieldKind). x.kind) fs i j p in
    subst (λ (x : Kind). IsWrittenValue x part) m.2
    (value_written m.0.kind part (readable_field k fs e r i m.0 m.1) (fits i m.0 part m.1 q))))

-- values one for one
pub values_written : (ks : List Kind) (vs : List Value)
    → ((i : ℕ) (k : Kind) → slice_get ks i ≡ Some k → IsReadable k) → AllZip Fits ks vs
    → AllZip IsWrittenValue ks vs
values_written [] [] r f = tt
values_written [] (v ∷ vs) r f = absurd f
values_written (k ∷ ks) [] r f = absurd f
values_written (k ∷ ks) (v ∷ vs) r f =
    (value_written k v (r 0 k refl) f.0, values_written ks vs (λ i j e. r (suc i) j e) f.1)

-- ordinals one for one
pub ordinals_written : (ks : List Kind) (zs : List ℤ)
    → ((i : ℕ) (k : Kind) → slice_get ks i ≡ Some k → IsReadableOrdinal k)
    → AllZip IsOrdinalOf ks zs
    → AllZip (λ k z. Writes Ends 0 (grammar.ordinal k) (λ t. ShowsOrdinal k z t) (ordinal_text k z))
    ks zs
ordinals_written [] [] r f = tt
ordinals_written [] (z ∷ zs) r f = absurd f
ordinals_written (k ∷ ks) [] r f = absurd f
ordinals_written (k ∷ ks) (z ∷ zs) r f =
    (ordinal_written k z f.0 (r 0 k refl), ordinals_written ks zs (λ i j e. r (suc i) j e) f.1)
