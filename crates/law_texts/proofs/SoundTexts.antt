-- The kinds that the texts of types give are sound, where the types and constants that they name
-- are.
use Rattle.std.specs.Prelude.{if◌then◌else◌, nat_lt}
use Rattle.std.proofs.Common.{◌≡◌, refl, sym, subst, ap, ◌∙◌, true≢false, ℕ, zero, suc, ◌≤◌, ℤ}
use Rattle.std.proofs.Common.{◌≤ℤ◌, int_lt, Bool, true, false, List, [], ◌∷◌, map, length}
use Rattle.std.proofs.Common.{Option, Some, None, slice_get, arith}
use Rattle.std.proofs.lemmas.Int.{ints}
use Rattle.std.proofs.lemmas.Option.{same_Some, none-some}
use Rattle.est_syntax.specs.Kinds.{maxint, is_ordinal}
use Rattle.est_syntax.specs.Names.{spelled}
use Rattle.est_syntax.specs.declared.kind.FieldKind.{FieldKind}
use Rattle.est_syntax.specs.declared.kind.Kind.{Kind}
use Rattle.est_syntax.specs.declared.kind.Kind.TheVariants as kind
use Rattle.est_syntax.specs.declared.name.Name.{Name}
use Rattle.est_syntax.specs.declared.name.Used.{Used}
use Rattle.est_syntax.specs.declared.type_text.TypeText.{TypeText, Row_of-TypeText, end_of-TypeText}
use Rattle.est_syntax.specs.declared.type_text.TypeText.{more_of-TypeText, Row_of-VarDef}
use Rattle.est_syntax.specs.declared.type_text.TypeText.{end_of-VarDef, more_of-VarDef}
use Rattle.est_syntax.specs.declared.type_text.TypeText.TheVariants as text
use Rattle.rule_scope.specs.declared.declaration.Entry.{Entry}
use Rattle.rule_scope.specs.declared.declaration.Measured.{Measured}
use Rattle.rule_scope.specs.declared.declaration.Meant.{Meant}
use Rattle.rule_scope.specs.declared.declaration.Meant.TheVariants as meant
use Rattle.rule_scope.specs.declared.declaration.Sort.{Sort}
use Rattle.rule_scope.specs.declared.declaration.Sort.TheVariants as sort
use Rattle.rule_scope.specs.declared.predeclared.PredeclaredName.{PredeclaredName}
use Rattle.rule_scope.specs.declared.predeclared.PredeclaredName.TheVariants as known
use Rattle.rule_scope.specs.Outline.{Outline, entry_at}
use Rattle.rule_scope.specs.Uses.{meaning, same_sort}
use Rattle.rule_kinds.specs.declared.value.Gathered.{Gathered}
use Rattle.rule_kinds.specs.declared.value.Valued.{Valued}
use Rattle.rule_kinds.specs.Constants.{constant_value}
use Rattle.rule_kinds.specs.TypeTexts.{scalar, count, limited, is_within, predeclared_type, type_by}
use Rattle.rule_kinds.specs.TypeTexts.{type_meant, named_type, same_host, range}
use Rattle.rule_kinds.specs.TypeTexts.{are_declared, enumeration, array, array_of, most_members}
use Rattle.rule_kinds.specs.TypeTexts.{set_of, field_kinds, with_fields, are_members}
use Rattle.rule_kinds.specs.TypeTexts.{known_fields, no_fields, fields, record_of, text_type}
use Rattle.rule_kinds.specs.TypeTexts.{row_type, row_arrays, row_fields}
use Rattle.rule_declares.specs.Differing.{HaveDifferentNames}
use Rattle.law_places.specs.Said.{Each, DifferDeclared, TextSaid, RowSaid, FieldsSaid}
use Rattle.law_sentences.specs.WrittenExpressions.{EachUse, RowUse, FieldsUse, HasConstants, RowHas}
use Rattle.law_sentences.specs.WrittenExpressions.{FieldsHave}
use Rattle.law_texts.specs.PlainNames.{IsPlainName}
use Rattle.law_texts.specs.ReadableKinds.{ArePlainNames}
use Rattle.law_texts.proofs.SoundKinds.{IsSoundOrdinal, IsSoundKind, integer_sound}
use Rattle.law_texts.proofs.SoundKinds.{boolean_sound, char_sound, enumeration_sound, part_sound}
use Rattle.law_texts.proofs.SoundKinds.{sound_kind, sound_ordinal, array_sound, set_sound}
use Rattle.law_texts.proofs.SoundKinds.{record_sound}
use Rattle.law_texts.proofs.SoundValues.{IsSoundValue, HasSoundKind, IsSoundFor, IsSoundAt}
use Rattle.law_texts.proofs.SoundValues.{one_host, value_sound}
use Rattle.law_texts.proofs.Spelt.{IsSpelt, TextSpelt, RowSpelt, FieldsSpelt}
use Rattle.law_texts.proofs.SpeltParts.{joined}

-- LISTS

-- what holds of each item holds of one
pub each_at : {A : Type 0} (P : A → Type 0) (xs : List A) (i : ℕ) (x : A) → Each P xs
    → slice_get xs i ≡ Some x → P x
each_at P [] i x h e = absurd (none-some x e)
each_at P (y ∷ ys) zero x h e = subst P (same_Some y x e) h.0
each_at P (y ∷ ys) (suc i) x h e = each_at P ys i x h.1 e

-- the names of uses
abbrev pub names_of : List Used → List Name
names_of us = map (λ (x : Used). x.name) us

named_at : (us : List Used) (i : ℕ) (n : Name) → slice_get (names_of us) i ≡ Some n
    → (u : Used) × (slice_get us i ≡ Some u) × (u.name ≡ n)
named_at [] i n e = absurd (none-some n e)
named_at (u ∷ us) zero n e = (u, refl, same_Some u.name n e)
named_at (u ∷ us) (suc i) n e = named_at us i n e

plain_names : (us : List Used) → Each IsSpelt us → HaveDifferentNames spelled us
    → ArePlainNames (names_of us)
plain_names us plain differ = record {
  each = λ i n e.
      let r = named_at us i n e in
      subst (λ (m : Name). IsPlainName m.bytes) r.2 (each_at IsSpelt us i r.0 plain r.1);
  differ = λ i j x y e f same.
      let r = named_at us i x e in
      let s = named_at us j y f in
      differ i j r.0 s.0 r.1 s.1 (ap (λ (m : Name). m.bytes) r.2 ∙ same
      ∙ sym (ap (λ (m : Name). m.bytes) s.2));
}

pub count_names : (us : List Used) → length (names_of us) ≡ length us
count_names [] = refl
count_names (u ∷ us) = ap suc (count_names us)

-- a kind that is given is one
is_kind : (j m : Measured) → ◌≡◌ {A = Option Measured} (Some j) (Some m) → IsSoundKind j.kind
    → IsSoundKind m.kind
is_kind j m e sound = subst (λ (x : Measured). IsSoundKind x.kind) (same_Some j m e) sound

limited_sound : (j m : Measured) → IsSoundKind j.kind → limited j ≡ Some m → IsSoundKind m.kind
limited_sound j m sound h = by (is_within j.scalars j.levels) h
  where
    by : (b : Bool) → (if b then Some j else None) ≡ Some m → IsSoundKind m.kind
    by true q = is_kind j m q sound
    by false q = absurd (none-some m q)

-- ARRAYS, SETS AND RECORDS

array_of_sound : (i k : Option Measured) (m : Measured)
    → ((j : Measured) → i ≡ Some j → IsSoundKind j.kind)
    → ((j : Measured) → k ≡ Some j → IsSoundKind j.kind) → array_of i k ≡ Some m
    → IsSoundKind m.kind
array_of_sound None k m index sound h = absurd (none-some m h)
array_of_sound (Some i) None m index sound h = absurd (none-some m h)
array_of_sound (Some i) (Some j) m index sound h = by (is_ordinal i.kind) refl h
  where
    by : (b : Bool) → is_ordinal i.kind ≡ b
        → (if b then limited (array i j) else None) ≡ Some m → IsSoundKind m.kind
    by true e q = limited_sound (array i j) m (array_sound i.kind j.kind
        (sound_ordinal i.kind e (index i refl)) (sound j refl)) q
    by false e q = absurd (none-some m q)

set_of_sound : (k : Option Measured) (m : Measured)
    → ((j : Measured) → k ≡ Some j → IsSoundKind j.kind) → set_of k ≡ Some m → IsSoundKind m.kind
set_of_sound None m sound h = absurd (none-some m h)
set_of_sound (Some j) m sound h =
    by (is_ordinal j.kind) (nat_lt most_members (count j.kind)) refl h
  where
    by : (b c : Bool) → is_ordinal j.kind ≡ b
        → (if b then (if c then None else Some (scalar (kind.SetOf j.kind))) else None) ≡ Some m
        → IsSoundKind m.kind
    by true true e q = absurd (none-some m q)
    by true false e q = is_kind (scalar (kind.SetOf j.kind)) m q
        (set_sound j.kind (sound_ordinal j.kind e (sound j refl)))
    by false c e q = absurd (none-some m q)

abbrev AreSound : Gathered → Type 0
AreSound g = Each (λ (f : FieldKind). IsSoundKind f.kind) g.kinds

field_kinds_sound : (us : List Used) (k : Kind) → IsSoundKind k
    → Each (λ (f : FieldKind). IsSoundKind f.kind) (field_kinds us k)
field_kinds_sound [] k sound = tt
field_kinds_sound (u ∷ us) k sound = (sound, field_kinds_sound us k sound)

with_sound : (k : Option Gathered) (us : List Used) (m : Option Measured) (h : Gathered)
    → ((g : Gathered) → k ≡ Some g → AreSound g)
    → ((j : Measured) → m ≡ Some j → IsSoundKind j.kind) → with_fields k us m ≡ Some h → AreSound h
with_sound None us m h sound kinds e = absurd (none-some h e)
with_sound (Some g) us None h sound kinds e = absurd (none-some h e)
with_sound (Some g) us (Some j) h sound kinds e =
    subst AreSound (same_Some _ h e) (joined (λ (f : FieldKind). IsSoundKind f.kind) g.kinds
    (field_kinds us j.kind) (sound g refl) (field_kinds_sound us j.kind (kinds j refl)))

known_sound : (o : Outline) (us : List Used) (k : Option Gathered) (g : Gathered)
    → ((h : Gathered) → k ≡ Some h → AreSound h) → known_fields o us k ≡ Some g → AreSound g
known_sound o us k g sound e = by (are_members o us) e
  where
    by : (b : Bool) → (if b then k else None) ≡ Some g → AreSound g
    by true q = sound g q
    by false q = absurd (none-some g q)

record_of_sound : (k : Option Gathered) (m : Measured)
    → ((g : Gathered) → k ≡ Some g → AreSound g) → record_of k ≡ Some m → IsSoundKind m.kind
record_of_sound None m sound h = absurd (none-some m h)
record_of_sound (Some g) m sound h = limited_sound (fields g) m (record_sound g.kinds
    (λ i field e. each_at (λ (f : FieldKind). IsSoundKind f.kind) g.kinds i field (sound g refl)
    e)) h

module _ (o : Outline) where
  -- RANGES AND ENUMERATIONS

  not_less : (a b : ℤ) → int_lt b a ≡ false → a ≤ℤ b
  not_less a b h = grind (arith, ints)

  range_sound : (a b : Option Valued) (m : Measured)
      → ((v : Valued) → a ≡ Some v → IsSoundValue o v)
      → ((v : Valued) → b ≡ Some v → IsSoundValue o v) → range a b ≡ Some m → IsSoundKind m.kind
  range_sound None b m low high h = absurd (none-some m h)
  range_sound (Some x) None m low high h = absurd (none-some m h)
  range_sound (Some x) (Some y) m low high h =
      by (same_host x.host y.host) (int_lt y.ordinal x.ordinal) refl refl h
    where
      by : (s l : Bool) → same_host x.host y.host ≡ s → int_lt y.ordinal x.ordinal ≡ l
          → (if (if s then (if l then false else true) else false)
          then Some (scalar (kind.Part x.host x.ordinal y.ordinal)) else None) ≡ Some m
          → IsSoundKind m.kind
      by true false e f q =
          let sound = low x refl in
          is_kind (scalar (kind.Part x.host x.ordinal y.ordinal)) m q
          (sound_kind (kind.Part x.host x.ordinal y.ordinal)
          (part_sound x.host x.ordinal y.ordinal sound.host sound.holds
          (one_host o x y sound (high y refl) e) (not_less x.ordinal y.ordinal f)))
      by true true e f q = absurd (none-some m q)
      by false l e f q = absurd (none-some m q)

  pub enumerated_sound : (us : List Used) (place : ℕ) (m : Measured) → Each IsSpelt us
      → DifferDeclared o us → length us ≤ suc maxint → enumeration o us place ≡ Some m
      → IsSoundOrdinal m.kind
  enumerated_sound [] place m plain differ few h = absurd (none-some m h)
  enumerated_sound (u ∷ us) place m plain differ few h = by (are_declared o (u ∷ us)) refl h
    where
      by : (b : Bool) → are_declared o (u ∷ us) ≡ b
          → (if b then Some (scalar (kind.Enumeration place (names_of (u ∷ us)))) else None)
          ≡ Some m → IsSoundOrdinal m.kind
      by true e q =
          let n = count_names us in
          subst (λ (x : Measured). IsSoundOrdinal x.kind)
          (same_Some (scalar (kind.Enumeration place (names_of (u ∷ us)))) m q)
          (enumeration_sound place (names_of (u ∷ us)) (omega arith) (omega (arith, n))
          (plain_names (u ∷ us) plain (differ e)))
      by false e q = absurd (none-some m q)

  -- NAMES

  predeclared_sound : (n : PredeclaredName) (m : Measured) → predeclared_type n ≡ Some m
      → IsSoundKind m.kind
  predeclared_sound known.Integer m h =
      is_kind (scalar kind.Integer) m h (sound_kind kind.Integer integer_sound)
  predeclared_sound known.Boolean m h =
      is_kind (scalar kind.Boolean) m h (sound_kind kind.Boolean boolean_sound)
  predeclared_sound known.Char m h =
      is_kind (scalar kind.Char) m h (sound_kind kind.Char char_sound)
  predeclared_sound _ m h = absurd (none-some m h)

  for_type : (s : Sort) (e : Entry) → same_sort sort.TypeName s ≡ true → IsSoundFor o s e
      → HasSoundKind o e
  for_type sort.TypeName e h sound = sound
  for_type _ e h sound = absurd (true≢false (sym h))

  entry_sound : (x : Option Entry) (m : Measured)
      → ((e : Entry) → x ≡ Some e → IsSoundFor o e.declared.sort e) → type_by x ≡ Some m
      → IsSoundKind m.kind
  entry_sound None m sound h = absurd (none-some m h)
  entry_sound (Some e) m sound h = by (same_sort sort.TypeName e.declared.sort) refl h
    where
      by : (b : Bool) → same_sort sort.TypeName e.declared.sort ≡ b
          → (if b then e.kind else None) ≡ Some m → IsSoundKind m.kind
      by true s q = for_type e.declared.sort e s (sound e refl) m q
      by false s q = absurd (none-some m q)

  meant_sound : (u : Used) (w : Meant) (m : Measured) → meaning o u ≡ w → IsSoundAt o u
      → type_meant o w ≡ Some m → IsSoundKind m.kind
  meant_sound u meant.Nothing m is sound h = absurd (none-some m h)
  meant_sound u (meant.Predeclared n) m is sound h = predeclared_sound n m h
  meant_sound u (meant.Unseen p) m is sound h = absurd (none-some m h)
  meant_sound u (meant.Seen p) m is sound h =
      entry_sound (entry_at o p) m (λ e there. sound p e is there) h

  pub named_sound : (u : Used) (m : Measured) → IsSoundAt o u → named_type o u ≡ Some m
      → IsSoundKind m.kind
  named_sound u m sound h = meant_sound u (meaning o u) m refl sound h

  -- ALL TEXTS

  mutual
    pub text_sound : (t : TypeText) (m : Measured) → EachUse (IsSoundAt o) t → TextSaid o t
        → TextSpelt t → HasConstants t → text_type o t ≡ Some m → IsSoundKind m.kind
    text_sound (text.Named u) m uses said plain c h = named_sound u m uses h
    text_sound (text.Range low high) m uses said plain c h =
        range_sound (constant_value o low) (constant_value o high) m
        (λ v e. value_sound o low v uses.0 plain.0 e)
        (λ v e. value_sound o high v uses.1 plain.1 e) h
    text_sound (text.Names names place) m uses said plain c h =
        sound_kind m.kind (enumerated_sound names place m plain said.1 c.1 h)
    text_sound (text.Array' a index b of place) m uses said plain c h =
        arrays_sound index (row_type o of) m uses.0 said.0 plain.0 c.0
        (λ j e. row_sound of j uses.1 said.1 plain.1 c.1 e) h
    text_sound (text.Fields' a defs place) m uses said plain c h =
        record_of_sound (row_fields o defs (Some no_fields)) m
        (λ g e. fields_sound defs (Some no_fields) g uses said plain c
        (λ k q. subst AreSound (same_Some no_fields k q) tt) e) h
    text_sound (text.Set' a of place) m uses said plain c h =
        set_of_sound (row_type o of) m (λ j e. row_sound of j uses said plain c e) h

    row_sound : {n : _} (row : Row_of-TypeText n) (m : Measured) → RowUse (IsSoundAt o) row
        → RowSaid o row → RowSpelt row → RowHas row → row_type o row ≡ Some m → IsSoundKind m.kind
    row_sound end_of-TypeText m uses said plain c h = absurd (none-some m h)
    row_sound (more_of-TypeText t rest) m uses said plain c h =
        text_sound t m uses.0 said.0 plain.0 c.0 h

    arrays_sound : {n : _} (row : Row_of-TypeText n) (k : Option Measured) (m : Measured)
        → RowUse (IsSoundAt o) row → RowSaid o row → RowSpelt row → RowHas row
        → ((j : Measured) → k ≡ Some j → IsSoundKind j.kind) → row_arrays o row k ≡ Some m
        → IsSoundKind m.kind
    arrays_sound end_of-TypeText k m uses said plain c sound h = sound m h
    arrays_sound (more_of-TypeText t rest) k m uses said plain c sound h =
        array_of_sound (text_type o t) (row_arrays o rest k) m
        (λ j e. text_sound t j uses.0 said.0 plain.0 c.0 e)
        (λ j e. arrays_sound rest k j uses.1 said.1 plain.1 c.1 sound e) h

    fields_sound : {n : _} (row : Row_of-VarDef n) (k : Option Gathered) (g : Gathered)
        → FieldsUse (IsSoundAt o) row → FieldsSaid o row → FieldsSpelt row → FieldsHave row
        → ((h : Gathered) → k ≡ Some h → AreSound h) → row_fields o row k ≡ Some g → AreSound g
    fields_sound end_of-VarDef k g uses said plain c sound h = sound g h
    fields_sound (more_of-VarDef names t rest) k g uses said plain c sound h =
        fields_sound rest (with_fields (known_fields o names k) names (text_type o t)) g uses.1
        said.2 plain.2 c.1
        (λ x e. with_sound (known_fields o names k) names (text_type o t) x
        (λ y q. known_sound o names k y sound q)
        (λ j q. text_sound t j uses.0 said.1 plain.1 c.0 q) e) h
