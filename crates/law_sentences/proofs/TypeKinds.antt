-- The text of a type that breaks no rule has a kind.
use Rattle.std.specs.Prelude.{if◌then◌else◌, ◌&&◌, is_none, map}
use Rattle.std.proofs.Common.{◌≡◌, refl, sym, ap, subst, ◌∙◌, ℕ, ◌<◌, Bool}
use Rattle.std.proofs.Common.{true, false, List, [], ◌∷◌, ◌++◌, Option, Some, None, length, arith}
use Rattle.est_syntax.specs.Faults.{broken}
use Rattle.est_syntax.specs.Kinds.{is_ordinal}
use Rattle.est_syntax.specs.declared.kind.Kind.TheVariants as kind
use Rattle.est_syntax.specs.declared.name.Used.{Used}
use Rattle.est_syntax.specs.declared.rule.Rule.TheVariants as rule
use Rattle.est_syntax.specs.declared.type_text.TypeText.{TypeText, Row_of-TypeText}
use Rattle.est_syntax.specs.declared.type_text.TypeText.{end_of-TypeText, more_of-TypeText}
use Rattle.est_syntax.specs.declared.type_text.TypeText.{Row_of-VarDef}
use Rattle.est_syntax.specs.declared.type_text.TypeText.{end_of-VarDef, more_of-VarDef}
use Rattle.est_syntax.specs.declared.type_text.TypeText.TheBlock.{shape-the_row-TypeText-1}
use Rattle.est_syntax.specs.declared.type_text.TypeText.TheVariants as text
use Rattle.rule_scope.specs.declared.declaration.Measured.{Measured}
use Rattle.rule_scope.specs.declared.declaration.Meant.{Meant}
use Rattle.rule_scope.specs.declared.declaration.Meant.TheVariants as meant
use Rattle.rule_scope.specs.declared.declaration.Sort.TheVariants as sort
use Rattle.rule_scope.specs.Outline.{Outline, entry_at, member_at}
use Rattle.rule_scope.specs.Uses.{meaning, twice_faults, twices_faults, again_faults, agains_faults}
use Rattle.rule_kinds.specs.declared.value.Gathered.{Gathered}
use Rattle.rule_kinds.specs.declared.value.Valued.{Valued}
use Rattle.rule_kinds.specs.Constants.{constant_value, constant_faults, constant_place}
use Rattle.rule_kinds.specs.TypeTexts.{scalar, limited, predeclared_type, type_by, type_meant}
use Rattle.rule_kinds.specs.TypeTexts.{named_type, type_used, type_faults, are_bounds, range}
use Rattle.rule_kinds.specs.TypeTexts.{range_faults, are_declared, enumeration, array, array_of}
use Rattle.rule_kinds.specs.TypeTexts.{size_faults, array_size, array_faults, set_by, set_of}
use Rattle.rule_kinds.specs.TypeTexts.{set_faults, no_fields, with_fields, are_members}
use Rattle.rule_kinds.specs.TypeTexts.{known_fields, fields, record_of, record_faults, text_place}
use Rattle.rule_kinds.specs.TypeTexts.{text_type, row_arrays, row_fields, text_faults}
use Rattle.rule_kinds.specs.TypeTexts.{row_index_faults, row_field_faults}
use Rattle.law_sentences.specs.Full.{IsThere, IsFullAt}
use Rattle.law_sentences.specs.WrittenExpressions.{EachUse, RowUse, FieldsUse, HasConstants, RowHas}
use Rattle.law_sentences.specs.WrittenExpressions.{FieldsHave}
use Rattle.law_sentences.proofs.NoFaults.{parted, unbroken, unbroken_if}
use Rattle.law_sentences.proofs.SeenUses.{right_sort, full_type, not_none, some_then}
use Rattle.law_sentences.proofs.ConstantValues.{constant_fits}

-- names of types
meant_there : (o : Outline) (u : Used) (m : Meant) → IsFullAt o u → meaning o u ≡ m
    → type_used o u m ≡ [] → IsThere (type_meant o m)
meant_there o u meant.Nothing full is h = cc
meant_there o u (meant.Predeclared n) full is h =
    not_none (predeclared_type n)
    (unbroken_if (is_none (predeclared_type n)) u.place rule.WrongSort h)
meant_there o u (meant.Unseen p) full is h = cc
meant_there o u (meant.Seen p) full is h =
    let s = right_sort o sort.TypeName u.place p h in
    let f = full_type s.0.declared.sort s.0 s.2 (full p s.0 is s.1) in
    (f.0, ap type_by s.1 ∙ ap (λ x. if x then s.0.kind else None) s.2 ∙ f.1)

pub named_there : (o : Outline) (u : Used) → IsFullAt o u → type_faults o u ≡ []
    → IsThere (named_type o u)
named_there o u full h = meant_there o u (meaning o u) full refl h

-- ranges
bounded : (x y : Valued) (place : ℕ) → range_faults (Some x) (Some y) place ≡ []
    → IsThere (range (Some x) (Some y))
bounded x y place h =
    let m = scalar (kind.Part x.host x.ordinal y.ordinal) in
    (m, ap (λ b. if b then Some m else None) (unbroken (are_bounds x y) place rule.WrongBounds h))

range_there : (k l : Option Valued) (place : ℕ) → IsThere k → IsThere l
    → range_faults k l place ≡ [] → IsThere (range k l)
range_there k l place x y h =
    let r = bounded x.0 y.0 place (sym (λ i. range_faults (x.1 i) (y.1 i) place) ∙ h) in
    (r.0, (λ i. range (x.1 i) (y.1 i)) ∙ r.1)

-- enumerations
declared_all : (o : Outline) (us : List Used) → twices_faults o us ≡ [] → are_declared o us ≡ true
declared_all o [] h = refl
declared_all o (u ∷ us) h =
    let k = parted (twice_faults o u) (twices_faults o us) h in
    let e = some_then (entry_at o u.place)
    (unbroken_if (is_none (entry_at o u.place)) u.place rule.DeclaredTwice k.0) in
    let r = declared_all o us k.1 in
    λ i. e i && r i

abbrev pub enumerated : List Used → ℕ → Measured
enumerated us place = scalar (kind.Enumeration place (map (λ (x : Used). x.name) us))

pub enumeration_is : (o : Outline) (u : Used) (us : List Used) (place : ℕ)
    → twices_faults o (u ∷ us) ≡ []
    → enumeration o (u ∷ us) place ≡ Some (enumerated (u ∷ us) place)
enumeration_is o u us place h = ap (λ b. if b then Some (enumerated (u ∷ us) place) else None)
    (declared_all o (u ∷ us) h)

names_there : (o : Outline) (us : List Used) (place : ℕ) → 0 < length us
    → twices_faults o us ≡ [] → IsThere (enumeration o us place)
names_there o [] place some h = absurd (omega (arith, some))
names_there o (u ∷ us) place some h =
    (enumerated (u ∷ us) place, enumeration_is o u us place h)

-- arrays, sets and records are not too large
sized : (k : Option Measured) (place : ℕ) → size_faults k place ≡ [] → IsThere k
sized None place h = cc
sized (Some m) place h = (m, refl)

array_there : (i m : Measured) (first place : ℕ) → array_faults (Some i) (Some m) first place ≡ []
    → IsThere (array_of (Some i) (Some m))
array_there i m first place h = by (is_ordinal i.kind) h
  where
    by : (b : Bool) → (if b then array_size i (Some m) place else broken first rule.WrongKind) ≡ []
        → IsThere (if b then limited (array i m) else None)
    by true q = sized (limited (array i m)) place q
    by false q = cc

set_there : (m : Measured) (first place : ℕ) → set_faults (Some m) first place ≡ []
    → IsThere (set_of (Some m))
set_there m first place h = by (is_ordinal m.kind) h
  where
    by : (b : Bool) → (if b then size_faults (set_by m) place else broken first rule.WrongKind) ≡ []
        → IsThere (if b then set_by m else None)
    by true q = sized (set_by m) place q
    by false q = cc

record_there : (g : Gathered) (place : ℕ) → record_faults (Some g) place ≡ []
    → IsThere (record_of (Some g))
record_there g place h = sized (limited (fields g)) place h

-- fields
members_all : (o : Outline) (us : List Used) → agains_faults o us ≡ [] → are_members o us ≡ true
members_all o [] h = refl
members_all o (u ∷ us) h =
    let k = parted (again_faults o u) (agains_faults o us) h in
    let e = some_then (member_at o u.place)
    (unbroken_if (is_none (member_at o u.place)) u.place rule.DeclaredTwice k.0) in
    let r = members_all o us k.1 in
    λ i. e i && r i

gathered : (g : Gathered) (us : List Used) (m : Measured)
    → IsThere (with_fields (Some g) us (Some m))
gathered g us m = (_, refl)

fields_there : (o : Outline) (us : List Used) (g : Gathered) (k : Option Measured)
    → agains_faults o us ≡ [] → IsThere k
    → IsThere (with_fields (known_fields o us (Some g)) us k)
fields_there o us g k h m =
    let known = ap (λ b. if b then Some g else None) (members_all o us h) in
    let r = gathered g us m.0 in
    (r.0, (λ i. with_fields (known i) us (m.1 i)) ∙ r.1)

-- all texts
mutual
  unfolding shape-the_row-TypeText-1

  pub text_there : (o : Outline) (t : TypeText) → EachUse (IsFullAt o) t → HasConstants t
      → text_faults o t ≡ [] → IsThere (text_type o t)
  text_there o (text.Named u) full c h = named_there o u full h
  text_there o (text.Range low high) full c h =
      let faults = range_faults (constant_value o low) (constant_value o high) in
      let k = parted (constant_faults o low ++ constant_faults o high) (faults (constant_place low))
      h in
      let l = parted (constant_faults o low) (constant_faults o high) k.0 in
      let x = constant_fits o low full.0 l.0 in
      let y = constant_fits o high full.1 l.1 in
      range_there (constant_value o low) (constant_value o high) (constant_place low) (x.0, x.1)
      (y.0, y.1) k.1
  text_there o (text.Names names place) full c h = names_there o names place c.0 h
  text_there o (text.Array' x index y (more_of-TypeText of end_of-TypeText) place) full c h =
      let k = parted (text_faults o of) (row_index_faults o index (text_type o of) place) h in
      let m = text_there o of full.1.0 c.1.0 k.0 in
      let r = arrays_there o index m.0 place full.0 c.0
      (subst (λ n. row_index_faults o index n place ≡ []) m.1 k.1) in
      (r.0, ap (row_arrays o index) m.1 ∙ r.1)
  text_there o (text.Fields' x defs place) full c h =
      let k = parted (row_field_faults o defs)
      (record_faults (row_fields o defs (Some no_fields)) place) h in
      let g = row_fields_there o defs no_fields full c k.0 in
      let r = record_there g.0 place (subst (λ n. record_faults n place ≡ []) g.1 k.1) in
      (r.0, ap record_of g.1 ∙ r.1)
  text_there o (text.Set' x (more_of-TypeText of end_of-TypeText) place) full c h =
      let k = parted (text_faults o of) (set_faults (text_type o of) (text_place of) place) h in
      let m = text_there o of full.0 c.0 k.0 in
      let r = set_there m.0 (text_place of) place
      (subst (λ n. set_faults n (text_place of) place ≡ []) m.1 k.1) in
      (r.0, ap set_of m.1 ∙ r.1)

  arrays_there : (o : Outline) {n : _} (row : Row_of-TypeText n) (m : Measured) (place : ℕ)
      → RowUse (IsFullAt o) row → RowHas row
      → row_index_faults o row (Some m) place ≡ [] → IsThere (row_arrays o row (Some m))
  arrays_there o end_of-TypeText m place full c h = (m, refl)
  arrays_there o (more_of-TypeText t rest) m place full c h =
      let first = text_place t in
      let later = row_arrays o rest (Some m) in
      let k = parted (row_index_faults o rest (Some m) place)
      (text_faults o t ++ array_faults (text_type o t) later first place) h in
      let l = parted (text_faults o t) (array_faults (text_type o t) later first place) k.1 in
      let i = text_there o t full.0 c.0 l.0 in
      let r = arrays_there o rest m place full.1 c.1 k.0 in
      let x = array_there i.0 r.0 first place
      (sym (λ j. array_faults (i.1 j) (r.1 j) first place) ∙ l.1) in
      (x.0, (λ j. array_of (i.1 j) (r.1 j)) ∙ x.1)

  row_fields_there : (o : Outline) {n : _} (row : Row_of-VarDef n) (g : Gathered)
      → FieldsUse (IsFullAt o) row → FieldsHave row → row_field_faults o row ≡ []
      → IsThere (row_fields o row (Some g))
  row_fields_there o end_of-VarDef g full c h = (g, refl)
  row_fields_there o (more_of-VarDef names t rest) g full c h =
      let k = parted (agains_faults o names ++ text_faults o t) (row_field_faults o rest) h in
      let l = parted (agains_faults o names) (text_faults o t) k.0 in
      let m = text_there o t full.0 c.0 l.1 in
      let f = fields_there o names g (text_type o t) l.0 m in
      let r = row_fields_there o rest f.0 full.1 c.1 k.1 in
      (r.0, ap (row_fields o rest) f.1 ∙ r.1)
