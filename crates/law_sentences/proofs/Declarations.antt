-- A declaration that breaks no rule, and has what the outline says of it, is full.
use Rattle.std.specs.Prelude.{if◌then◌else◌, nat_le, is_some, ◌&&◌, map}
use Rattle.std.proofs.Common.{◌≡◌, refl, sym, ap, subst, ◌∙◌, true≢false, ℕ, suc, ◌≤◌, ◌<◌, ℤ, pos}
use Rattle.std.proofs.Common.{List, [], ◌∷◌, ◌++◌, Option, Some, None, true, false, arith}
use Rattle.std.proofs.lemmas.Bool.Decides.{nat_tests}
use Rattle.std.proofs.lemmas.Option.{same_Some, none-some}
use Rattle.est_syntax.specs.Faults.{broken_if}
use Rattle.est_syntax.specs.Kinds.{maxint}
use Rattle.est_syntax.specs.declared.name.Used.{Used}
use Rattle.est_syntax.specs.declared.kind.Kind.{out-Kind}
use Rattle.est_syntax.specs.declared.constant.Constant.{Constant}
use Rattle.est_syntax.specs.declared.constant.ConstDef.{ConstDef}
use Rattle.est_syntax.specs.declared.type_text.TypeText.{TypeText}
use Rattle.est_syntax.specs.declared.type_text.TypeDef.{TypeDef}
use Rattle.est_syntax.specs.declared.type_text.VarDef.{VarDef, out-VarDef}
use Rattle.est_syntax.specs.declared.rule.Rule.TheVariants.{NotInFunction}
use Rattle.rule_scope.specs.declared.declaration.Entry.{Entry}
use Rattle.rule_scope.specs.declared.declaration.Measured.{Measured}
use Rattle.rule_scope.specs.declared.declaration.Member.{Member}
use Rattle.rule_scope.specs.declared.declaration.Member.TheVariants as member
use Rattle.rule_scope.specs.declared.declaration.Sort.{Sort}
use Rattle.rule_scope.specs.declared.declaration.Sort.TheVariants as sort
use Rattle.rule_scope.specs.Outline.{Outline}
use Rattle.rule_scope.specs.Uses.{use_faults, declaration_of, twice_faults, twices_faults}
use Rattle.rule_kinds.specs.Constants.{is_integer, value_with, constant_value, constant_faults}
use Rattle.rule_kinds.specs.Constants.{constant_last}
use Rattle.rule_kinds.specs.TypeTexts.{text_type, text_faults, type_faults, named_type}
use Rattle.rule_kinds.specs.Dims.{dims_of, dims_faults}
use Rattle.rule_declares.specs.Entries.{ordinal_of}
use Rattle.rule_declares.specs.Bodies.{body_header}
use Rattle.rule_declares.specs.Lasts.{text_last}
use Rattle.rule_declares.specs.Declares.{side_with, side_by, side_of, member_named}
use Rattle.est_types.specs.DeclarationFaults.{side_faults, role_used, attribute_faults}
use Rattle.est_types.specs.DeclarationFaults.{word_place, constdef_faults, typedef_faults}
use Rattle.text_reader.specs.Shown.{node, nodes}
use Rattle.law_places.specs.PlaceOrder.{Stands, o_none}
use Rattle.text_productions.specs.Nodes.{layer, dimensions, a_type, a_short_type}
use Rattle.law_sentences.specs.Full.{IsThere, MayBeNegated, HasAll, IsFull, IsFullAt}
use Rattle.law_sentences.specs.Full.{AreFullBefore}
use Rattle.law_sentences.specs.FullDeclarations.{HasValue, ConstantsAreFull, TextsAreFull}
use Rattle.law_sentences.specs.FullDeclarations.{ShortTypesAreFull, DimsAreFull}
use Rattle.law_sentences.specs.FullDeclarations.{ConstantDefinitionsAreFull, FunctionsAreFull}
use Rattle.law_sentences.specs.FullDeclarations.{NumberedConstantsAreFull, TypeDefinitionsAreFull}
use Rattle.law_sentences.specs.FullDeclarations.{VariableDeclarationsAreFull, ParametersAreFull}
use Rattle.law_sentences.specs.FullDeclarations.{ExportsAreFull}
use Rattle.law_sentences.specs.FullDeclarations.{PointsAreFull, ModuleVariablesAreFull}
use Rattle.law_sentences.specs.FullDeclarations.{FormalsAreFull, BodiesAreFull}
use Rattle.law_sentences.specs.FullDeclarations.{ConstantDefinitionsAreFullInTime}
use Rattle.law_sentences.specs.FullDeclarations.{TypeDefinitionsAreFullInTime}
use Rattle.law_sentences.specs.WrittenExpressions.{OfConstant, EachUse, HasConstants}
use Rattle.law_sentences.proofs.NoFaults.{parted}
use Rattle.law_sentences.proofs.Places.{ascends, in_at, in_pair, in_given, in_node, in_used}
use Rattle.law_sentences.proofs.SeenUses.{use_seen}
use Rattle.law_sentences.proofs.InForce.{narrowed}
use Rattle.law_sentences.proofs.ConstantValues.{constant_fits}
use Rattle.law_sentences.proofs.Uses.{NameBefore, UsesBefore, constant_then, text_then}
use Rattle.law_sentences.proofs.TypeKinds.{named_there, text_there, enumerated}
use Rattle.law_sentences.proofs.TypeKinds.{enumeration_is}
use Rattle.law_sentences.proofs.UsesStand.{name_stands, text_stands}
use Rattle.law_sentences.proofs.UsesStand.{name_to_last, text_to_last}
use Rattle.law_sentences.proofs.DimKinds.{short_there, dims_there}

-- what constants and texts use is full, where all is that is in force before a place after them
pub constant_at : (o : Outline) (c : Constant) (b : ℕ) → AreFullBefore o b → NameBefore b c
    → OfConstant (IsFullAt o) c
constant_at o c b full before = constant_then (λ u. u.place < b) (IsFullAt o) full c before

pub text_at : (o : Outline) (t : TypeText) (b : ℕ) → AreFullBefore o b → UsesBefore b t
    → EachUse (IsFullAt o) t
text_at o t b full before = text_then (λ u. u.place < b) (IsFullAt o) full t before

-- constants, texts and dims by their nodes
pub constant_full : ConstantsAreFull
constant_full o c a b full s h =
    constant_fits o c (constant_at o c b full (name_stands c a b s)) h

pub text_full : TextsAreFull
text_full o t a b full s c h =
    text_there o t (text_at o t b full (text_stands t a b b (omega arith) s)) c h

pub short_type_full : ShortTypesAreFull
short_type_full o t a b full s h = short_there o t a b full s h

pub dims_full : DimsAreFull
dims_full = dims_there

-- what has the same as what is there
pub same_there : {X : Type 0} (x y : Option X) → x ≡ y → IsThere y → IsThere x
same_there x y h t = (t.0, h ∙ t.1)

-- a declaration of a sort has what the sort asks for
pub of_sort : (s : Sort) (e : Entry) → e.declared.sort ≡ s → HasAll s e → IsFull e
of_sort s e h all = subst (λ x. HasAll x e) (sym h) all

-- the kind and the ordinal of a value
abbrev IsWhole : Option Measured → Option ℤ → Type 0
IsWhole k z = (m : IsThere k) × ((n : ℤ) × (z ≡ Some n) × MayBeNegated m.0.kind n)

whole : (k : Option Measured) (z : Option ℤ) → HasValue (value_with k z) → IsWhole k z
whole None z v = absurd (none-some v.0 v.1)
whole (Some m) None v = absurd (none-some v.0 v.1)
whole (Some m) (Some n) v =
    let same = same_Some (record { host = m.kind; ordinal = n }) v.0 v.1 in
    ((m, refl), (n, refl, subst (λ x. MayBeNegated x.host x.ordinal) (sym same) v.2))

pub constant_definition : (o : Outline) (d : ConstDef) (e : Entry)
    → OfConstant (IsFullAt o) d.value → constdef_faults o d ≡ [] → e.declared.sort ≡ sort.Constant
    → value_with e.kind e.ordinal ≡ constant_value o d.value → IsFull e
constant_definition o d e full h is has =
    let k = parted (twice_faults o d.name) (constant_faults o d.value) h in
    let v = constant_fits o d.value full k.1 in
    of_sort sort.Constant e is (whole e.kind e.ordinal (v.0, has ∙ v.1, v.2))

pub constant_definition_full : ConstantDefinitionsAreFull
constant_definition_full o d e a b full s h is has =
    let p = in_pair (in_node s) in
    let q = in_pair p.2 in
    constant_definition o d e (constant_at o d.value q.0 (narrowed o q.0 b (ascends q.2) full)
    (name_stands d.value p.0 q.0 q.1)) h is has

pub constant_definition_in_time : ConstantDefinitionsAreFullInTime
constant_definition_in_time o d e full h is has =
    constant_definition o d e
    (constant_at o d.value (suc (constant_last d.value)) full (name_to_last d.value)) h is has

-- an enumeration is no kind of integers
no_integer : (us : List Used) (place : ℕ) → is_integer (enumerated us place).kind ≡ false
unfolding out-Kind denote.Hole.Carrier.out
no_integer us place = refl

number_is : (i : ℕ) → i ≤ maxint → ordinal_of i ≡ Some (pos i)
number_is i h =
    let le : nat_le i maxint ≡ true = grind (arith, nat_tests) in
    ap (λ b. if b then Some (pos i) else None) le

pub numbered_full : NumberedConstantsAreFull
numbered_full o u us place i e h le is has number = of_sort sort.Constant e is (
  (enumerated (u ∷ us) place, has ∙ enumeration_is o u us place h),
  (
    pos i,
    number ∙ number_is i le,
    λ j. absurd (true≢false (sym j ∙ no_integer (u ∷ us) place)),
  ),
)

pub type_definition : (o : Outline) (d : TypeDef) (e : Entry) → EachUse (IsFullAt o) d.text
    → HasConstants d.text → typedef_faults o d ≡ []
    → e.declared.sort ≡ sort.TypeName → e.kind ≡ text_type o d.text → IsFull e
type_definition o d e full c h is has =
    let k = parted (twice_faults o d.name) (text_faults o d.text) h in
    let m = text_there o d.text full c k.1 in
    of_sort sort.TypeName e is (same_there e.kind (text_type o d.text) has m)

pub type_definition_full : TypeDefinitionsAreFull
type_definition_full o d e a b full s c h is has =
    let p = in_pair (in_node s) in
    let q = in_pair p.2 in
    type_definition o d e
    (text_at o d.text b full (text_stands d.text p.0 q.0 b (ascends q.2) q.1)) c h is has

pub type_definition_in_time : TypeDefinitionsAreFullInTime
type_definition_in_time o d e a b le full s c h is has =
    let p = in_pair (in_node s) in
    let q = in_pair p.2 in
    let k = ascends q.2 in
    type_definition o d e (text_at o d.text (suc (text_last d.text)) full
    (text_to_last d.text p.0 q.0 (omega arith) q.1)) c h is has

-- variables, parameters and exports
text_of : (v : VarDef) → (out-VarDef v).text ≡ v.text
text_of v = refl

pub variable_full : VariableDeclarationsAreFull
variable_full o v e a b full s c h is has =
    let p = in_pair (in_node s) in
    let q = in_pair p.2 in
    let k = parted (twices_faults o v.names) (text_faults o v.text) h in
    let stand = subst (λ t. Stands layer (node (a_type t)) p.0 q.0) (text_of v) q.1 in
    let m = text_full o v.text p.0 q.0 (narrowed o q.0 b (ascends q.2) full) stand c k.1 in
    of_sort sort.Variable e is (same_there e.kind (text_type o v.text) has m)

pub parameter_full : ParametersAreFull
parameter_full o v e a b full s h is has =
    let p = in_pair (in_node s) in
    let stand = subst (λ t. Stands layer (node (a_short_type t)) p.0 b) (text_of v) p.2 in
    let m = short_type_full o v.text p.0 b full stand h in
    of_sort sort.Variable e is (same_there e.kind (text_type o v.text) has m)

pub export_full : ExportsAreFull
export_full o v e a b full s h is has =
    let p = in_pair (in_node s) in
    let q = in_pair p.2 in
    let k = parted (twices_faults o v.names) (text_faults o v.text) h in
    let stand = subst (λ t. Stands layer (node (a_short_type t)) p.0 q.0) (text_of v) q.1 in
    let m = short_type_full o v.text p.0 q.0 (narrowed o q.0 b (ascends q.2) full) stand k.1 in
    of_sort sort.Variable e is (same_there e.kind (text_type o v.text) has m)

-- dims, which may be left out
dims_stand : (place : ℕ) (ts : List TypeText) (a b : ℕ) → Stands layer (dimensions place ts) a b
    → (k : ℕ) × (l : ℕ) × (l ≤ b) × Stands layer (nodes (map a_short_type ts)) k l
dims_stand place [] a b s = let le = ascends s in (a, b, omega arith, o_none le)
dims_stand place (t ∷ ts) a b s =
    let p = in_pair (in_at (in_given s)).1 in (place, p.0, ascends p.2, p.1)

given_dims : (o : Outline) (ts : List TypeText) (place a b : ℕ) → AreFullBefore o b
    → Stands layer (dimensions place ts) a b → dims_faults o ts place ≡ [] → IsThere (dims_of o ts)
given_dims o ts place a b full s h =
    let d = dims_stand place ts a b s in
    dims_there o ts d.0 d.1 place (narrowed o d.1 b d.2 full) d.3 h

-- interaction points
role_there : (channel place : ℕ) (m : Option Member) → role_used m place ≡ []
    → IsThere (side_with channel m)
role_there channel place None h = cc
role_there channel place (Some (member.Role r)) h = (record { channel = channel; role = r }, refl)
role_there channel place (Some (member.Interaction senders)) h = cc
role_there channel place (Some member.Field) h = cc

pub side_there : (o : Outline) (k : Option ℕ) (role : Used) → IsThere k → side_faults o k role ≡ []
    → IsThere (side_by o k role)
side_there o k role c h =
    let r = role_there c.0 role.place (member_named o c.0 role)
    (subst (λ x. side_faults o x role ≡ []) c.1 h) in
    (r.0, ap (λ x. side_by o x role) c.1 ∙ r.1)

pub point_full : PointsAreFull
point_full o p e a b full s h is has side =
    let p1 = in_pair (in_at (in_node s)).1 in
    let p2 = in_pair p1.2 in
    let channel = declaration_of o sort.Channel p.channel in
    let named = twices_faults o p.names in
    let dims = dims_faults o p.dims p.place in
    let used = use_faults o sort.Channel p.channel in
    let k1 = parted (named ++ dims ++ used) (side_faults o channel p.role) h in
    let k2 = parted (named ++ dims) used k1.0 in
    let k3 = parted named dims k2.0 in
    let d = given_dims o p.dims p.place p1.0 p2.0 (narrowed o p2.0 b (ascends p2.2) full) p2.1
    k3.1 in
    let r = side_there o channel p.role (use_seen o sort.Channel p.channel k2.1) k1.1 in
    of_sort sort.Point e is
    (same_there e.dims (dims_of o p.dims) has d, same_there e.side (side_of o p) side r)

-- module variables
pub module_variable_full : ModuleVariablesAreFull
module_variable_full o owner m e a b full s h is has header =
    let p1 = in_pair (in_at (in_node s)).1 in
    let p2 = in_pair p1.2 in
    let meant = declaration_of o sort.Header m.header in
    let named = twices_faults o m.names in
    let dims = dims_faults o m.dims m.place in
    let used = use_faults o sort.Header m.header in
    let k1 = parted (named ++ dims ++ used) (attribute_faults o owner meant m.header.place) h in
    let k2 = parted (named ++ dims) used k1.0 in
    let k3 = parted named dims k2.0 in
    let d = given_dims o m.dims m.place p1.0 p2.0 (narrowed o p2.0 b (ascends p2.2) full) p2.1
    k3.1 in
    of_sort sort.ModuleVariable e is (
      same_there e.dims (dims_of o m.dims) has d,
      same_there e.header meant header (use_seen o sort.Header m.header k2.1),
    )

-- routines and bodies
pub formal_full : FormalsAreFull
formal_full o result f e a b full s h is has =
    let p = in_pair (in_node s) in
    let q = in_pair p.2 in
    let k = parted (twices_faults o f.names ++ type_faults o f.kind)
    (broken_if (is_some result && f.by_place) (word_place f.names) NotInFunction) h in
    let l = parted (twices_faults o f.names) (type_faults o f.kind) k.0 in
    let m = named_there o f.kind (full f.kind (in_used f.kind q.0 b q.2)) l.1 in
    of_sort sort.Variable e is (same_there e.kind (named_type o f.kind) has m)

pub function_full : FunctionsAreFull
function_full o u e a b full s h is has =
    of_sort sort.Function e is
    (same_there e.kind (named_type o u) has
    (named_there o u (full u (in_used u a b (in_node s))) h))

pub body_full : BodiesAreFull
body_full o header e h is has =
    of_sort sort.Body e is
    (same_there e.header (body_header o header) has (use_seen o sort.Header header h))
