-- The kinds of the texts of types and of constants, and what such texts declare.
use Rattle.std.proofs.Common.{◌≡◌, refl, sym, ap, subst, ◌∙◌, arith, ℕ, zero, suc, ◌<◌, ◌≤◌, ℤ}
use Rattle.std.proofs.Common.{Bool}
use Rattle.std.proofs.Common.{true, false, List, [], ◌∷◌, ◌++◌, map, length, Option, Some, None}
use Rattle.std.proofs.Common.{nat_eq, nat_lt}
use Rattle.std.specs.Prelude.{slice_get, if◌then◌else◌, ◌-ℤ◌, int_lt, pos, nat_le}
use Rattle.std.specs.List.{AllByRecursion}
use Rattle.std.proofs.lemmas.Option.{same_Some, none-some}
use Rattle.est_syntax.specs.declared.constant.Sign.{Sign}
use Rattle.est_syntax.specs.declared.constant.Sign.TheVariants.{Plus, Minus}
use Rattle.est_syntax.specs.Kinds.{is_ordinal, maxint}
use Rattle.est_syntax.specs.declared.constant.Constant.{Constant}
use Rattle.est_syntax.specs.declared.constant.Constant.TheVariants as constant
use Rattle.est_syntax.specs.declared.kind.Kind.{Kind}
use Rattle.est_syntax.specs.declared.kind.Kind.TheVariants as kind
use Rattle.est_syntax.specs.declared.kind.FieldKind.{FieldKind}
use Rattle.est_syntax.specs.declared.name.Used.{Used}
use Rattle.est_syntax.specs.declared.type_text.TypeText.{TypeText, Row_of-TypeText, end_of-TypeText}
use Rattle.est_syntax.specs.declared.type_text.TypeText.{more_of-TypeText, Row_of-VarDef}
use Rattle.est_syntax.specs.declared.type_text.TypeText.{end_of-VarDef, more_of-VarDef}
use Rattle.est_syntax.specs.declared.type_text.TypeText.TheVariants as text
use Rattle.rule_scope.specs.Outline.{Outline, entry_at}
use Rattle.rule_scope.specs.Uses.{is_sort, meaning}
use Rattle.rule_scope.specs.declared.declaration.Entry.{Entry}
use Rattle.rule_scope.specs.declared.declaration.Meant.{Meant}
use Rattle.rule_scope.specs.declared.declaration.Meant.TheVariants as meant
use Rattle.rule_scope.specs.declared.declaration.Measured.{Measured}
use Rattle.rule_scope.specs.declared.declaration.Member.TheVariants as member
use Rattle.rule_scope.specs.declared.declaration.Sort.TheVariants as sort
use Rattle.rule_scope.specs.declared.declaration.Within.{Within}
use Rattle.rule_scope.specs.declared.predeclared.PredeclaredName.{PredeclaredName}
use Rattle.rule_scope.specs.declared.predeclared.PredeclaredName.TheVariants as known
use Rattle.rule_kinds.specs.Constants.{predeclared_constant, is_integer, negated}
use Rattle.rule_kinds.specs.Constants.{with_sign, signed_value, value_with, value_by}
use Rattle.rule_kinds.specs.Constants.{value_meant, named_value, constant_value, valued}
use Rattle.rule_kinds.specs.TypeTexts.{is_within, limited, predeclared_type, type_by, type_meant}
use Rattle.rule_kinds.specs.TypeTexts.{named_type, are_bounds, range, are_declared, enumeration}
use Rattle.rule_kinds.specs.TypeTexts.{array, array_of, most_members, count, set_by, set_of}
use Rattle.rule_kinds.specs.TypeTexts.{no_fields, field_kinds, with_fields, known_fields}
use Rattle.rule_kinds.specs.TypeTexts.{are_members, record_of, text_type, row_type, row_arrays}
use Rattle.rule_kinds.specs.TypeTexts.{row_fields, scalar, fields}
use Rattle.rule_kinds.specs.declared.value.Gathered.{Gathered}
use Rattle.rule_kinds.specs.declared.value.Valued.{Valued}
use Rattle.rule_declares.specs.Declares.{names_put, text_declares, row_declares, row_fields_declare}
use Rattle.rule_declares.specs.Declares.{numbers_declare, enumeration_declares}
use Rattle.rule_declares.specs.Lasts.{names_last}
use Rattle.law_places.proofs.Placed.{NamesPlaced, TextPlaced, RowPlaced, FieldsPlaced, names_on}
use Rattle.law_places.proofs.Placed.{text_on, row_on, fields_on}
use Rattle.law_places.proofs.Tables.{two_numbers, same_number}
use Rattle.rule_expressions.specs.Selections.{is_parameter}
use Rattle.law_values.specs.SameKinds.{is_unnamed}
use Rattle.law_values.proofs.KnownKinds.{Bounded, AgreeBefore, bounded_more, MeasuredKnown, Known}
use Rattle.law_values.proofs.KnownKinds.{known_more, known_later, put_known, numbers_known}
use Rattle.law_values.proofs.KnownKinds.{kinds_known, nothing_measured}
use Rattle.law_values.proofs.KnownKinds as bounded

-- CONSTANTS

module _ (n : ℕ → ℕ) (c : ℕ) where
  abbrev Hosted : Option Valued → Type 0
  Hosted x = (v : Valued) → x ≡ Some v → Bounded n c v.host

  integer_bounded : Bounded n c kind.Integer
  integer_bounded = bounded.unnamed (ap is_unnamed kind.outs-Integer)

  boolean_bounded : Bounded n c kind.Boolean
  boolean_bounded = bounded.unnamed (ap is_unnamed kind.outs-Boolean)

  char_bounded : Bounded n c kind.Char
  char_bounded = bounded.unnamed (ap is_unnamed kind.outs-Char)

  hosted_as : (host : Kind) (z : ℤ) → Bounded n c host → Hosted (Some (valued host z))
  hosted_as host z h v e =
      subst (λ (x : Valued). Bounded n c x.host) (same_Some (valued host z) v e) h

  nothing_hosted : Hosted None
  nothing_hosted v e = absurd (none-some v e)

  if_hosted : (b : Bool) (x y : Option Valued) → Hosted x → Hosted y
      → Hosted (if b then x else y)
  if_hosted true x y h g = h
  if_hosted false x y h g = g

  predeclared_hosted : (p : PredeclaredName) → Hosted (predeclared_constant p)
  predeclared_hosted known.False = hosted_as kind.Boolean (pos 0) boolean_bounded
  predeclared_hosted known.True = hosted_as kind.Boolean (pos 1) boolean_bounded
  predeclared_hosted known.Maxint = hosted_as kind.Integer (pos maxint) integer_bounded
  predeclared_hosted _ = nothing_hosted

  valued_hosted : (k : Option Measured) (z : Option ℤ) → MeasuredKnown n c k
      → Hosted (value_with k z)
  valued_hosted None z h = nothing_hosted
  valued_hosted (Some m) None h = nothing_hosted
  valued_hosted (Some m) (Some z) h = hosted_as m.kind z (h m refl)

  module _ (o : Outline) (k : Known n c o) where
    entry_hosted : (p : ℕ) (x : Option Entry) → entry_at o p ≡ x → Hosted (value_by x)
    entry_hosted p None e = nothing_hosted
    entry_hosted p (Some d) e =
        if_hosted (is_sort sort.Constant (Some d)) (value_with d.kind d.ordinal) None
        (valued_hosted d.kind d.ordinal (k.entries p d e).0) nothing_hosted

    named_hosted : (u : Used) → Hosted (named_value o u)
    named_hosted u = by (meaning o u)
      where
        by : (m : Meant) → Hosted (value_meant o m)
        by (meant.Predeclared p) = predeclared_hosted p
        by (meant.Seen p) = entry_hosted p (entry_at o p) refl
        by (meant.Unseen p) = nothing_hosted
        by meant.Nothing = nothing_hosted

    negated_hosted : (v : Valued) → Bounded n c v.host → Hosted (negated v)
    negated_hosted v h = if_hosted (int_lt (pos maxint) (pos 0 -ℤ v.ordinal)) None
        (Some (valued v.host (pos 0 -ℤ v.ordinal))) nothing_hosted
        (hosted_as v.host (pos 0 -ℤ v.ordinal) h)

    given_hosted : (v : Valued) → Bounded n c v.host → Hosted (Some v)
    given_hosted v h w e = subst (λ (x : Valued). Bounded n c x.host) (same_Some v w e) h

    with_hosted : (sign : Sign) (v : Valued) → Bounded n c v.host → Hosted (with_sign sign v)
    with_hosted Plus v h =
        if_hosted (is_integer v.host) (Some v) None (given_hosted v h) nothing_hosted
    with_hosted Minus v h =
        if_hosted (is_integer v.host) (negated v) None (negated_hosted v h) nothing_hosted

    signed_hosted : (sign : Option Sign) (x : Option Valued) → Hosted x
        → Hosted (signed_value sign x)
    signed_hosted sign None h = nothing_hosted
    signed_hosted None (Some v) h = given_hosted v (h v refl)
    signed_hosted (Some sign) (Some v) h = with_hosted sign v (h v refl)

    pub constant_hosted : (x : Constant) → Hosted (constant_value o x)
    constant_hosted (constant.Number sign m place) =
        if_hosted (nat_le m maxint) (Some (valued kind.Integer _)) None
        (hosted_as kind.Integer _ integer_bounded) nothing_hosted
    constant_hosted (constant.Named sign name place) =
        signed_hosted sign (named_value o name) (named_hosted name)
    constant_hosted (constant.Character code place) =
        hosted_as kind.Char (pos code) char_bounded

-- TEXTS

-- enumerations in a text are known by their places
abbrev NamesSized : (ℕ → ℕ) → ℕ → List Used → ℕ → Type 0
NamesSized n c [] place = Unit {0}
NamesSized n c (u ∷ us) place = (suc (length us) ≡ n place) × (place < c)

abbrev mutual
  pub TextSized : (ℕ → ℕ) → ℕ → TypeText → Type 0
  TextSized n c (text.Named u) = Unit {0}
  TextSized n c (text.Range low high) = Unit {0}
  TextSized n c (text.Names names place) = NamesSized n c names place
  TextSized n c (text.Array' a index b of place) = RowSized n c index × RowSized n c of
  TextSized n c (text.Fields' a defs place) = FieldsSized n c defs
  TextSized n c (text.Set' a of place) = RowSized n c of

  pub RowSized : (ℕ → ℕ) → ℕ → {m : _} → Row_of-TypeText m → Type 0
  RowSized n c end_of-TypeText = Unit {0}
  RowSized n c (more_of-TypeText t rest) = TextSized n c t × RowSized n c rest

  pub FieldsSized : (ℕ → ℕ) → ℕ → {m : _} → Row_of-VarDef m → Type 0
  FieldsSized n c end_of-VarDef = Unit {0}
  FieldsSized n c (more_of-VarDef names t rest) = TextSized n c t × FieldsSized n c rest

module _ (n m : ℕ → ℕ) (c d : ℕ) (l : c ≤ d) (a : AgreeBefore c n m) where
  names_sized_more : (us : List Used) (place : ℕ) → NamesSized n c us place
      → NamesSized m d us place
  names_sized_more [] place h = tt
  names_sized_more (u ∷ us) place h =
      (h.0 ∙ sym (a place h.1), let b = h.1 in omega (arith, l, b))

  mutual
    text_sized_more : (t : TypeText) → TextSized n c t → TextSized m d t
    text_sized_more (text.Named u) h = tt
    text_sized_more (text.Range low high) h = tt
    text_sized_more (text.Names names place) h = names_sized_more names place h
    text_sized_more (text.Array' x index y of place) h =
        (row_sized_more index h.0, row_sized_more of h.1)
    text_sized_more (text.Fields' x defs place) h = fields_sized_more defs h
    text_sized_more (text.Set' x of place) h = row_sized_more of h

    row_sized_more : {i : _} (row : Row_of-TypeText i) → RowSized n c row → RowSized m d row
    row_sized_more end_of-TypeText h = tt
    row_sized_more (more_of-TypeText t rest) h = (text_sized_more t h.0, row_sized_more rest h.1)

    fields_sized_more : {i : _} (row : Row_of-VarDef i) → FieldsSized n c row
        → FieldsSized m d row
    fields_sized_more end_of-VarDef h = tt
    fields_sized_more (more_of-VarDef names t rest) h =
        (text_sized_more t h.0, fields_sized_more rest h.1)

-- KINDS

module _ (n : ℕ → ℕ) (c : ℕ) (o : Outline) (k : Known n c o) where
  abbrev Kinded : Option Measured → Type 0
  Kinded x = MeasuredKnown n c x

  nothing : Kinded None
  nothing = nothing_measured n c

  if_kinded : (b : Bool) (x y : Option Measured) → Kinded x → Kinded y
      → Kinded (if b then x else y)
  if_kinded true x y h g = h
  if_kinded false x y h g = g

  measured : (m : Measured) → Bounded n c m.kind → Kinded (Some m)
  measured m h v e = subst (λ (x : Measured). Bounded n c x.kind) (same_Some m v e) h

  predeclared_kinded : (p : PredeclaredName) → Kinded (predeclared_type p)
  predeclared_kinded known.Integer = measured (scalar kind.Integer) (integer_bounded n c)
  predeclared_kinded known.Boolean = measured (scalar kind.Boolean) (boolean_bounded n c)
  predeclared_kinded known.Char = measured (scalar kind.Char) (char_bounded n c)
  predeclared_kinded _ = nothing

  pub named_kinded : (u : Used) → Kinded (named_type o u)
  named_kinded u = by (meaning o u)
    where
      entry : (p : ℕ) (x : Option Entry) → entry_at o p ≡ x → Kinded (type_by x)
      entry p None e = nothing
      entry p (Some d) e = if_kinded (is_sort sort.TypeName (Some d)) d.kind None
          (k.entries p d e).0 nothing

      by : (m : Meant) → Kinded (type_meant o m)
      by (meant.Predeclared p) = predeclared_kinded p
      by (meant.Seen p) = entry p (entry_at o p) refl
      by (meant.Unseen p) = nothing
      by meant.Nothing = nothing

  range_kinded : (x y : Option Valued) → Kinded (range x y)
  range_kinded None y = nothing
  range_kinded (Some a) None = nothing
  range_kinded (Some a) (Some b) =
      if_kinded (are_bounds a b) (Some (scalar (kind.Part a.host a.ordinal b.ordinal))) None
      (measured (scalar (kind.Part a.host a.ordinal b.ordinal))
      (bounded.unnamed (ap is_unnamed (kind.outs-Part a.host a.ordinal b.ordinal)))) nothing

  length_names : (us : List Used) → length (map (λ (x : Used). x.name) us) ≡ length us
  length_names [] = refl
  length_names (u ∷ us) = ap suc (length_names us)

  enumeration_kinded : (us : List Used) (place : ℕ) → NamesSized n c us place
      → Kinded (enumeration o us place)
  enumeration_kinded [] place h = nothing
  enumeration_kinded (u ∷ us) place h =
      if_kinded (are_declared o (u ∷ us)) _ None
      (measured (scalar (kind.Enumeration place (map (λ (x : Used). x.name) (u ∷ us))))
      (bounded.enumeration place (map (λ (x : Used). x.name) (u ∷ us))
      (kind.outs-Enumeration place (map (λ (x : Used). x.name) (u ∷ us)))
      (length_names (u ∷ us) ∙ h.0) h.1)) nothing

  limited_kinded : (m : Measured) → Bounded n c m.kind → Kinded (limited m)
  limited_kinded m h = if_kinded (is_within m.scalars m.levels) (Some m) None (measured m h) nothing

  array_kinded : (x y : Option Measured) → Kinded x → Kinded y → Kinded (array_of x y)
  array_kinded None y h g = nothing
  array_kinded (Some i) None h g = nothing
  array_kinded (Some i) (Some m) h g =
      if_kinded (is_ordinal i.kind) (limited (array i m)) None
      (limited_kinded (array i m) (bounded.array i.kind m.kind (kind.outs-ArrayOf i.kind m.kind)
      (h i refl) (g m refl))) nothing

  set_kinded : (x : Option Measured) → Kinded x → Kinded (set_of x)
  set_kinded None h = nothing
  set_kinded (Some b) h =
      if_kinded (is_ordinal b.kind) (set_by b) None
      (if_kinded (nat_lt most_members (count b.kind)) None (Some (scalar (kind.SetOf b.kind)))
      nothing (measured (scalar (kind.SetOf b.kind)) (bounded.set b.kind (kind.outs-SetOf b.kind)
      (h b refl)))) nothing

  -- fields
  abbrev FieldsKnown : List FieldKind → Type 0
  FieldsKnown fs = AllByRecursion (λ (f : FieldKind). Bounded n c f.kind) fs

  abbrev GatheredKnown : Option Gathered → Type 0
  GatheredKnown x = (g : Gathered) → x ≡ Some g → FieldsKnown g.kinds

  field_at : (fs : List FieldKind) (i : ℕ) (f : FieldKind) → FieldsKnown fs
      → slice_get fs i ≡ Some f → Bounded n c f.kind
  field_at [] i f h e = absurd (none-some f e)
  field_at (x ∷ fs) zero f h e =
      subst (λ (y : FieldKind). Bounded n c y.kind) (same_Some x f e) h.0
  field_at (x ∷ fs) (suc i) f h e = field_at fs i f h.1 e

  joined_fields : (fs gs : List FieldKind) → FieldsKnown fs → FieldsKnown gs
      → FieldsKnown (fs ++ gs)
  joined_fields [] gs h g = g
  joined_fields (f ∷ fs) gs h g = (h.0, joined_fields fs gs h.1 g)

  fields_of : (us : List Used) (j : Kind) → Bounded n c j → FieldsKnown (field_kinds us j)
  fields_of [] j h = tt
  fields_of (u ∷ us) j h = (h, fields_of us j h)

  nothing_gathered : GatheredKnown None
  nothing_gathered g e = absurd (none-some g e)

  gathered : (g : Gathered) → FieldsKnown g.kinds → GatheredKnown (Some g)
  gathered g h x e = subst (λ (y : Gathered). FieldsKnown y.kinds) (same_Some g x e) h

  more_gathered : (x : Option Gathered) (us : List Used) (y : Option Measured)
      → GatheredKnown x → Kinded y → GatheredKnown (with_fields x us y)
  more_gathered None us y h g = nothing_gathered
  more_gathered (Some x) us None h g = nothing_gathered
  more_gathered (Some x) us (Some m) h g =
      gathered _ (joined_fields x.kinds (field_kinds us m.kind) (h x refl)
      (fields_of us m.kind (g m refl)))

  known_gathered : (us : List Used) (x : Option Gathered) → GatheredKnown x
      → GatheredKnown (known_fields o us x)
  known_gathered us x h = by (are_members o us)
    where
      by : (b : Bool) → GatheredKnown (if b then x else None)
      by true = h
      by false = nothing_gathered

  record_kinded : (x : Option Gathered) → GatheredKnown x → Kinded (record_of x)
  record_kinded None h = nothing
  record_kinded (Some g) h =
      limited_kinded (fields g) (bounded.fields g.kinds (kind.outs-Fields g.kinds)
      (λ i f e. field_at g.kinds i f (h g refl) e))

  mutual
    pub text_kinded : (t : TypeText) → TextSized n c t → Kinded (text_type o t)
    text_kinded (text.Named u) h = named_kinded u
    text_kinded (text.Range low high) h =
        range_kinded (constant_value o low) (constant_value o high)
    text_kinded (text.Names names place) h = enumeration_kinded names place h
    text_kinded (text.Array' a index b of place) h =
        arrays_kinded index (row_type o of) h.0 (row_kinded of h.1)
    text_kinded (text.Fields' a defs place) h =
        record_kinded (row_fields o defs (Some no_fields))
        (fields_gathered defs (Some no_fields) h (gathered no_fields tt))
    text_kinded (text.Set' a of place) h = set_kinded (row_type o of) (row_kinded of h)

    row_kinded : {i : _} (row : Row_of-TypeText i) → RowSized n c row → Kinded (row_type o row)
    row_kinded end_of-TypeText h = nothing
    row_kinded (more_of-TypeText t rest) h = text_kinded t h.0

    arrays_kinded : {i : _} (row : Row_of-TypeText i) (x : Option Measured) → RowSized n c row
        → Kinded x → Kinded (row_arrays o row x)
    arrays_kinded end_of-TypeText x h g = g
    arrays_kinded (more_of-TypeText t rest) x h g =
        array_kinded (text_type o t) (row_arrays o rest x) (text_kinded t h.0)
        (arrays_kinded rest x h.1 g)

    fields_gathered : {i : _} (row : Row_of-VarDef i) (x : Option Gathered)
        → FieldsSized n c row → GatheredKnown x → GatheredKnown (row_fields o row x)
    fields_gathered end_of-VarDef x h g = g
    fields_gathered (more_of-VarDef names t rest) x h g =
        fields_gathered rest (with_fields (known_fields o names x) names (text_type o t)) h.1
        (more_gathered (known_fields o names x) names (text_type o t) (known_gathered names x g)
        (text_kinded t h.0))

-- DECLARED

-- what a text declares leaves an outline that is known up to a later place
pub record TextGrown (n : ℕ → ℕ) (c j : ℕ) (o : Outline) (Sized : (ℕ → ℕ) → ℕ → Type 0)
    : Type 0 where
  pub sizes : ℕ → ℕ
  pub agree : AgreeBefore c n sizes
  pub known : Known sizes j o
  pub sized : Sized sizes j

nothing_grown : (n : ℕ → ℕ) (c j : ℕ) (o : Outline) (S : (ℕ → ℕ) → ℕ → Type 0) → c ≤ j
    → S n j → Known n c o → TextGrown n c j o S
nothing_grown n c j o S l s k = record {
  sizes = n;
  agree = λ q h. refl;
  known = known_later n c j o l k;
  sized = s;
}

puts_known : (n : ℕ → ℕ) (c region : ℕ) (us : List Used) (o : Outline) → Known n c o
    → Known n c (names_put region us member.Field o)
puts_known n c region [] o k = k
puts_known n c region (u ∷ us) o k =
    puts_known n c region us _ (put_known n c region u member.Field o k)

-- the sizes with one more
abbrev with_size : ℕ → ℕ → (ℕ → ℕ) → ℕ → ℕ
with_size place many n q = if nat_eq q place then many else n q

size_here : (place many : ℕ) (n : ℕ → ℕ) → many ≡ with_size place many n place
size_here place many n = ap (λ b. if b then many else n place) (sym (same_number place))

size_apart : (place many : ℕ) (n : ℕ → ℕ) (q : ℕ) → (q ≡ place → ⊥)
    → with_size place many n q ≡ n q
size_apart place many n q h = ap (λ b. if b then many else n q) (two_numbers q place h)

names_sized : (us : List Used) (place j : ℕ) (n : ℕ → ℕ) → NamesPlaced place j us
    → NamesSized (with_size place (length us) n) j us place
names_sized [] place j n h = tt
names_sized (u ∷ us) place j n h = (
  size_here place (suc (length us)) n,
  let a = h.0 in let b = names_on (suc u.place) j us h.1 in omega (arith, a, b),
)

names_grown : (w : Within) (us : List Used) (place : ℕ) (o : Outline) (n : ℕ → ℕ) (c j : ℕ)
    → is_parameter w.section ≡ false → c ≤ place → NamesPlaced place j us → Known n c o
    → TextGrown n c j (enumeration_declares w us place o) (λ m d. NamesSized m d us place)
names_grown w us place o n c j p l h k = record {
  sizes = m;
  agree = agree;
  known = kinds_known m j us (enumeration o1 us place) o1 (enumeration_kinded m j o1 k1 us place
      (names_sized us place j n h)) k1;
  sized = names_sized us place j n h;
}
  where
    m : ℕ → ℕ
    m = with_size place (length us) n

    agree : AgreeBefore c n m
    agree q b = size_apart place (length us) n q (λ e. omega (arith, l, b, e))

    o1 : Outline
    o1 = numbers_declare w us (names_last us place) 0 o

    k1 : Known m j o1
    k1 = numbers_known m j w us (names_last us place) 0 o p (known_more n m c j o
        (let x = names_on place j us h in omega (arith, l, x)) agree k)

-- what two parts declare, one after the other
then_grown : (n : ℕ → ℕ) (c d j : ℕ) (o p : Outline) (S R : (ℕ → ℕ) → ℕ → Type 0) → c ≤ d → d ≤ j
    → ((x y : ℕ → ℕ) → AgreeBefore d x y → S x d → S y j) → TextGrown n c d o S
    → ((m : ℕ → ℕ) → Known m d o → TextGrown m d j p R)
    → TextGrown n c j p (λ m e. S m e × R m e)
then_grown n c d j o p S R l r more first next = let x = next first.sizes first.known in record {
  sizes = x.sizes;
  agree = λ q b. x.agree q (omega (arith, l, b)) ∙ first.agree q b;
  known = x.known;
  sized = (more first.sizes x.sizes x.agree first.sized, x.sized);
}

-- the same, of one part with nothing before it
from_later : (n : ℕ → ℕ) (c d j : ℕ) (o : Outline) (S : (ℕ → ℕ) → ℕ → Type 0) → c ≤ d
    → TextGrown n d j o S → TextGrown n c j o S
from_later n c d j o S l x = record {
  sizes = x.sizes;
  agree = λ q b. x.agree q (omega (arith, l, b));
  known = x.known;
  sized = x.sized;
}

mutual
  pub text_grown : (w : Within) (t : TypeText) (o : Outline) (n : ℕ → ℕ) (c j : ℕ)
      → is_parameter w.section ≡ false → TextPlaced c j t → Known n c o
      → TextGrown n c j (text_declares w t o) (λ m d. TextSized m d t)
  text_grown w (text.Named u) o n c j p h k =
      nothing_grown n c j o (λ m d. Unit {0}) (text_on c j (text.Named u) h) tt k
  text_grown w (text.Range low high) o n c j p h k =
      nothing_grown n c j o (λ m d. Unit {0}) (text_on c j (text.Range low high) h) tt k
  text_grown w (text.Names names place) o n c j p h k =
      names_grown w names place o n c j p h.0 h.1 k
  text_grown w (text.Array' a index b of place) o n c j p h k =
      let x = row_on place h.0 index h.2 in
      let y = row_on h.0 j of h.3 in
      then_grown n c h.0 j (row_declares w index o) _ (λ m d. RowSized m d index)
      (λ m d. RowSized m d of) (let z = h.1 in omega (arith, z, x)) y
      (λ m q g s. row_sized_more m q h.0 j y g index s)
      (from_later n c place h.0 _ (λ m d. RowSized m d index) h.1
      (row_grown w index o n place h.0 p h.2 (known_later n c place o h.1 k)))
      (λ m g. row_grown w of (row_declares w index o) m h.0 j p h.3 g)
  text_grown w (text.Fields' a defs place) o n c j p h k =
      from_later n c place j _ (λ m d. FieldsSized m d defs) h.0
      (fields_grown w place defs o n place j p h.1 (known_later n c place o h.0 k))
  text_grown w (text.Set' a of place) o n c j p h k =
      from_later n c place j _ (λ m d. RowSized m d of) h.0
      (row_grown w of o n place j p h.1 (known_later n c place o h.0 k))

  row_grown : (w : Within) {i : _} (row : Row_of-TypeText i) (o : Outline) (n : ℕ → ℕ) (c j : ℕ)
      → is_parameter w.section ≡ false → RowPlaced c j row → Known n c o
      → TextGrown n c j (row_declares w row o) (λ m d. RowSized m d row)
  row_grown w end_of-TypeText o n c j p h k = nothing_grown n c j o (λ m d. Unit {0}) h tt k
  row_grown w (more_of-TypeText t rest) o n c j p h k =
      let y = row_on h.0 j rest h.2 in
      then_grown n c h.0 j (text_declares w t o) _ (λ m d. TextSized m d t)
      (λ m d. RowSized m d rest) (text_on c h.0 t h.1) y
      (λ m q g s. text_sized_more m q h.0 j y g t s)
      (text_grown w t o n c h.0 p h.1 k)
      (λ m g. row_grown w rest (text_declares w t o) m h.0 j p h.2 g)

  fields_grown : (w : Within) (region : ℕ) {i : _} (row : Row_of-VarDef i) (o : Outline)
      (n : ℕ → ℕ) (c j : ℕ) → is_parameter w.section ≡ false → FieldsPlaced c j row → Known n c o
      → TextGrown n c j (row_fields_declare w region row o) (λ m d. FieldsSized m d row)
  fields_grown w region end_of-VarDef o n c j p h k =
      nothing_grown n c j o (λ m d. Unit {0}) h tt k
  fields_grown w region (more_of-VarDef names t rest) o n c j p h k =
      let o1 = names_put region names member.Field o in
      let x = names_on c h.0 names h.2 in
      let z = text_on h.0 h.1 t h.3 in
      let y = fields_on h.1 j rest h.4 in
      then_grown n c h.1 j (text_declares w t o1) _ (λ m d. TextSized m d t)
      (λ m d. FieldsSized m d rest) (omega (arith, x, z)) y
      (λ m q g s. text_sized_more m q h.1 j y g t s)
      (from_later n c h.0 h.1 _ (λ m d. TextSized m d t) x
      (text_grown w t o1 n h.0 h.1 p h.3
      (known_later n c h.0 o1 x (puts_known n c region names o k))))
      (λ m g. fields_grown w region rest (text_declares w t o1) m h.1 j p h.4 g)

-- SHORT TEXTS

-- a text is short, as those of parameters and exports are
abbrev pub IsShort : TypeText → Type 0
IsShort (text.Named u) = Unit {0}
IsShort (text.Range low high) = Unit {0}
IsShort _ = ⊥

-- it declares nothing
pub short_declares : (w : Within) (t : TypeText) (o : Outline) → IsShort t
    → text_declares w t o ≡ o
short_declares w (text.Named u) o h = refl
short_declares w (text.Range low high) o h = refl
short_declares w (text.Names names place) o h = absurd h
short_declares w (text.Array' a index b of place) o h = absurd h
short_declares w (text.Fields' a defs place) o h = absurd h
short_declares w (text.Set' a of place) o h = absurd h

pub short_sized : (n : ℕ → ℕ) (c : ℕ) (t : TypeText) → IsShort t → TextSized n c t
short_sized n c (text.Named u) h = tt
short_sized n c (text.Range low high) h = tt
short_sized n c (text.Names names place) h = absurd h
short_sized n c (text.Array' a index b of place) h = absurd h
short_sized n c (text.Fields' a defs place) h = absurd h
short_sized n c (text.Set' a of place) h = absurd h
