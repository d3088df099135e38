-- A text with a kind breaks no rule, and neither does a constant with a value.
use Rattle.std.specs.Prelude.{if◌then◌else◌, nat_le, is_some, is_none, ◌&&◌}
use Rattle.std.proofs.lemmas.Option.{none-some}
use Rattle.std.proofs.Common.{◌≡◌, refl, sym, true≢false, ap, ℕ, Bool, true}
use Rattle.std.proofs.Common.{false, List, [], ◌∷◌, ◌++◌, Option, Some, None}
use Rattle.est_syntax.specs.Faults.{broken, broken_if}
use Rattle.est_syntax.specs.Kinds.{maxint, is_ordinal}
use Rattle.est_syntax.specs.declared.name.Used.{Used}
use Rattle.est_syntax.specs.declared.constant.Sign.{Sign}
use Rattle.est_syntax.specs.declared.constant.Sign.TheVariants.{Plus, Minus}
use Rattle.est_syntax.specs.declared.constant.Constant.{Constant}
use Rattle.est_syntax.specs.declared.constant.Constant.TheVariants as constant
use Rattle.est_syntax.specs.declared.rule.Fault.{Fault}
use Rattle.est_syntax.specs.declared.rule.Rule.{Rule}
use Rattle.est_syntax.specs.declared.type_text.TypeText.{TypeText, Row_of-TypeText}
use Rattle.est_syntax.specs.declared.type_text.TypeText.{end_of-TypeText}
use Rattle.est_syntax.specs.declared.type_text.TypeText.{more_of-TypeText, Row_of-VarDef}
use Rattle.est_syntax.specs.declared.type_text.TypeText.{end_of-VarDef, more_of-VarDef}
use Rattle.est_syntax.specs.declared.type_text.TypeText.TheVariants as text
use Rattle.est_syntax.specs.declared.rule.Rule.TheVariants as rule
use Rattle.rule_scope.specs.declared.declaration.Entry.{Entry}
use Rattle.rule_scope.specs.declared.declaration.Member.{Member}
use Rattle.rule_scope.specs.declared.declaration.Measured.{Measured}
use Rattle.rule_scope.specs.declared.declaration.Meant.{Meant}
use Rattle.rule_scope.specs.declared.declaration.Meant.TheVariants as meant
use Rattle.rule_scope.specs.declared.declaration.Sort.TheVariants as sort
use Rattle.rule_scope.specs.Outline.{Outline, entry_at, member_at}
use Rattle.rule_scope.specs.Uses.{is_sort, meaning, twice_faults, twices_faults}
use Rattle.rule_scope.specs.Uses.{agains_faults, again_faults}
use Rattle.rule_kinds.specs.declared.value.Valued.{Valued}
use Rattle.rule_kinds.specs.declared.value.Gathered.{Gathered}
use Rattle.rule_kinds.specs.Constants.{is_integer, signed_value, value_with, value_by}
use Rattle.rule_kinds.specs.Constants.{value_meant, named_value, constant_value, constant_place}
use Rattle.rule_kinds.specs.Constants.{constant_used, sign_faults, constant_faults, number_place}
use Rattle.rule_kinds.specs.TypeTexts.{are_declared, enumeration}
use Rattle.rule_kinds.specs.TypeTexts.{type_by, type_meant, type_used, are_bounds, range}
use Rattle.rule_kinds.specs.TypeTexts.{range_faults, limited, array, array_of, array_size}
use Rattle.rule_kinds.specs.TypeTexts.{array_faults, size_faults, set_by, set_of, set_faults}
use Rattle.rule_kinds.specs.TypeTexts.{are_members, known_fields, with_fields}
use Rattle.rule_kinds.specs.TypeTexts.{record_of, record_faults, no_fields, text_type, row_type}
use Rattle.rule_kinds.specs.TypeTexts.{row_arrays, row_fields, text_faults, row_faults, row_place}
use Rattle.rule_kinds.specs.TypeTexts.{row_index_faults, row_field_faults, text_place}

abbrev pub Has : {X : Type 0} → Option X → Type 0
Has {X} k = (x : X) × (k ≡ Some x)

joined : (xs ys : List Fault) → xs ≡ [] → ys ≡ [] → xs ++ ys ≡ []
joined xs ys h k = λ i. h i ++ k i

-- a condition that a part with a kind meets
met : {X : Type 0} (b : Bool) (k : Option X) (x : X) (place : ℕ) (r : Rule)
    → (if b then k else None) ≡ Some x → (if b then [] else broken place r) ≡ []
met true k x place r h = refl
met false k x place r h = absurd (none-some x h)

-- names of types
entry_clean : (e : Option Entry) (m : Measured) (place : ℕ) → type_by e ≡ Some m
    → (if is_sort sort.TypeName e then [] else broken place rule.WrongSort) ≡ []
entry_clean None m place h = absurd (none-some m h)
entry_clean (Some e) m place h = met (is_sort sort.TypeName (Some e)) e.kind m place rule.WrongSort
    h

meant_clean : (o : Outline) (u : Used) (w : Meant) (m : Measured)
    → type_meant o w ≡ Some m → type_used o u w ≡ []
meant_clean o u meant.Nothing m h = absurd (none-some m h)
meant_clean o u (meant.Predeclared n) m h = ap (λ k. broken_if (is_none k) u.place rule.WrongSort) h
meant_clean o u (meant.Unseen p) m h = absurd (none-some m h)
meant_clean o u (meant.Seen p) m h = entry_clean (entry_at o p) m u.place h

-- constants
value_clean : (e : Option Entry) (v : Valued) (place : ℕ) → value_by e ≡ Some v
    → (if is_sort sort.Constant e then [] else broken place rule.WrongSort) ≡ []
value_clean None v place h = absurd (none-some v h)
value_clean (Some e) v place h = met (is_sort sort.Constant (Some e)) (value_with e.kind e.ordinal)
    v place rule.WrongSort h

used_clean : (o : Outline) (u : Used) (w : Meant) (v : Valued)
    → value_meant o w ≡ Some v → constant_used o u w ≡ []
used_clean o u meant.Nothing v h = absurd (none-some v h)
used_clean o u (meant.Predeclared n) v h = ap (λ k. broken_if (is_none k) u.place rule.WrongSort) h
used_clean o u (meant.Unseen p) v h = absurd (none-some v h)
used_clean o u (meant.Seen p) v h = value_clean (entry_at o p) v u.place h

sign_clean : (sign : Option Sign) (k : Option Valued) (v : Valued) (place : ℕ)
    → signed_value sign k ≡ Some v → Has k × (sign_faults sign place k ≡ [])
sign_clean sign None v place h = absurd (none-some v h)
sign_clean None (Some w) v place h = ((w, refl), refl)
sign_clean (Some Plus) (Some w) v place h =
    ((w, refl), met (is_integer w.host) _ v place rule.WrongSort h)
sign_clean (Some Minus) (Some w) v place h =
    ((w, refl), met (is_integer w.host) _ v place rule.WrongSort h)

pub constant_clean : (o : Outline) (c : Constant) (v : Valued) → constant_value o c ≡ Some v
    → constant_faults o c ≡ []
constant_clean o (constant.Number sign n place) v h = met (nat_le n maxint) _ v
    (number_place sign place) rule.NumberTooLarge h
constant_clean o (constant.Named sign name place) v h =
    let s = sign_clean sign (named_value o name) v name.place h in
    joined (constant_used o name (meaning o name)) (sign_faults sign name.place
    (named_value o name)) (used_clean o name (meaning o name) s.0.0 s.0.1) s.1
constant_clean o (constant.Character code place) v h = refl

-- ranges
range_clean : (a b : Option Valued) (m : Measured) (place : ℕ) → range a b ≡ Some m
    → Has a × Has b × (range_faults a b place ≡ [])
range_clean None b m place h = absurd (none-some m h)
range_clean (Some x) None m place h = absurd (none-some m h)
range_clean (Some x) (Some y) m place h =
    ((x, refl), (y, refl), met (are_bounds x y) _ m place rule.WrongBounds h)

-- arrays
array_clean : (i k : Option Measured) (m : Measured) (first place : ℕ) → array_of i k ≡ Some m
    → Has i × Has k × (array_faults i k first place ≡ [])
array_clean None k m first place h = absurd (none-some m h)
array_clean (Some i) None m first place h = absurd (none-some m h)
array_clean (Some i) (Some j) m first place h = ((i, refl), (j, refl), by (is_ordinal i.kind) h)
  where
    by : (b : Bool) → (if b then limited (array i j) else None) ≡ Some m
        → (if b then array_size i (Some j) place else broken first rule.WrongKind) ≡ []
    by true h = ap (λ l. size_faults l place) h
    by false h = absurd (none-some m h)

-- sets
set_clean : (k : Option Measured) (m : Measured) (first place : ℕ) → set_of k ≡ Some m
    → Has k × (set_faults k first place ≡ [])
set_clean None m first place h = absurd (none-some m h)
set_clean (Some j) m first place h = ((j, refl), by (is_ordinal j.kind) h)
  where
    by : (b : Bool) → (if b then set_by j else None) ≡ Some m
        → (if b then size_faults (set_by j) place else broken first rule.WrongKind) ≡ []
    by true h = ap (λ l. size_faults l place) h
    by false h = absurd (none-some m h)

-- records
record_clean : (g : Option Gathered) (m : Measured) (place : ℕ) → record_of g ≡ Some m
    → Has g × (record_faults g place ≡ [])
record_clean None m place h = absurd (none-some m h)
record_clean (Some g) m place h = ((g, refl), ap (λ l. size_faults l place) h)

member_clean : (k : Option Member) (place : ℕ) (b : Bool) → is_some k && b ≡ true
    → (broken_if (is_none k) place rule.DeclaredTwice ≡ []) × (b ≡ true)
member_clean None place b h = cc
member_clean (Some m) place b h = (refl, h)

members_clean : (o : Outline) (us : List Used) → are_members o us ≡ true → agains_faults o us ≡ []
members_clean o [] h = refl
members_clean o (u ∷ us) h =
    let s = member_clean (member_at o u.place) u.place (are_members o us) h in
    joined (again_faults o u) (agains_faults o us) s.0 (members_clean o us s.1)

known_clean : (b : Bool) (g : Option Gathered) (x : Gathered) → (if b then g else None) ≡ Some x
    → Has g × (b ≡ true)
known_clean true g x h = ((x, h), refl)
known_clean false g x h = absurd (none-some x h)

def_clean : (g : Option Gathered) (us : List Used) (k : Option Measured) (x : Gathered)
    → with_fields g us k ≡ Some x → Has g × Has k
def_clean None us k x h = absurd (none-some x h)
def_clean (Some g) us None x h = absurd (none-some x h)
def_clean (Some g) us (Some k) x h = ((g, refl), (k, refl))

-- the names of an enumeration that has a kind are declared once
declared_clean : (e : Option Entry) (place : ℕ) (b : Bool) → is_some e && b ≡ true
    → (broken_if (is_none e) place rule.DeclaredTwice ≡ []) × (b ≡ true)
declared_clean None place b h = absurd (true≢false (sym h))
declared_clean (Some e) place b h = (refl, h)

names_clean : (o : Outline) (us : List Used) → are_declared o us ≡ true → twices_faults o us ≡ []
names_clean o [] h = refl
names_clean o (u ∷ us) h =
    let s = declared_clean (entry_at o u.place) u.place (are_declared o us) h in
    joined (twice_faults o u) (twices_faults o us) s.0 (names_clean o us s.1)

kept_clean : (b : Bool) (x m : Measured) → (if b then Some x else None) ≡ Some m → b ≡ true
kept_clean true x m h = refl
kept_clean false x m h = absurd (none-some m h)

enumeration_clean : (o : Outline) (us : List Used) (m : Measured) (place : ℕ)
    → enumeration o us place ≡ Some m → twices_faults o us ≡ []
enumeration_clean o [] m place h = refl
enumeration_clean o (u ∷ us) m place h = names_clean o (u ∷ us)
    (kept_clean (are_declared o (u ∷ us)) _ m h)

mutual
  pub text_clean : (o : Outline) (t : TypeText) (m : Measured) → text_type o t ≡ Some m
      → text_faults o t ≡ []
  text_clean o (text.Named u) m h = meant_clean o u (meaning o u) m h
  text_clean o (text.Range low high) m h =
      let s = range_clean (constant_value o low) (constant_value o high) m (constant_place low) h in
      joined (constant_faults o low ++ constant_faults o high) _
      (joined (constant_faults o low) _ (constant_clean o low s.0.0 s.0.1)
      (constant_clean o high s.1.0 s.1.1)) s.2
  text_clean o (text.Names names place) m h = enumeration_clean o names m place h
  text_clean o (text.Array' a index b of place) m h =
      let s = arrays_clean o index (row_type o of) place m h in
      joined (row_faults o of) _ (row_clean o of s.0.0 s.0.1) s.1
  text_clean o (text.Fields' a defs place) m h =
      let s = record_clean (row_fields o defs (Some no_fields)) m place h in
      joined (row_field_faults o defs) _ (fields_clean o defs (Some no_fields) s.0.0 s.0.1).1 s.1
  text_clean o (text.Set' a of place) m h =
      let s = set_clean (row_type o of) m (row_place of) place h in
      joined (row_faults o of) _ (row_clean o of s.0.0 s.0.1) s.1

  row_clean : (o : Outline) {n : _} (row : Row_of-TypeText n) (m : Measured)
      → row_type o row ≡ Some m → row_faults o row ≡ []
  row_clean o end_of-TypeText m h = refl
  row_clean o (more_of-TypeText t rest) m h = text_clean o t m h

  arrays_clean : (o : Outline) {n : _} (row : Row_of-TypeText n) (k : Option Measured) (place : ℕ)
      (m : Measured) → row_arrays o row k ≡ Some m → Has k × (row_index_faults o row k place ≡ [])
  arrays_clean o end_of-TypeText k place m h = ((m, h), refl)
  arrays_clean o (more_of-TypeText t rest) k place m h =
      let s = array_clean (text_type o t) (row_arrays o rest k) m (text_place t) place h in
      let r = arrays_clean o rest k place s.1.0 s.1.1 in (
        r.0,
        joined (row_index_faults o rest k place) _ r.1
            (joined (text_faults o t) _ (text_clean o t s.0.0 s.0.1) s.2),
      )

  fields_clean : (o : Outline) {n : _} (row : Row_of-VarDef n) (g : Option Gathered) (x : Gathered)
      → row_fields o row g ≡ Some x → Has g × (row_field_faults o row ≡ [])
  fields_clean o end_of-VarDef g x h = ((x, h), refl)
  fields_clean o (more_of-VarDef names t rest) g x h =
      let r = fields_clean o rest (with_fields (known_fields o names g) names (text_type o t)) x h
      in
      let d = def_clean (known_fields o names g) names (text_type o t) r.0.0 r.0.1 in
      let k = known_clean (are_members o names) g d.0.0 d.0.1 in (
        k.0,
        joined (agains_faults o names ++ text_faults o t) _
            (joined (agains_faults o names) _ (members_clean o names k.1)
            (text_clean o t d.1.0 d.1.1)) r.1,
      )
