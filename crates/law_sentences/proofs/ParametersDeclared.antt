-- Parameters stand first in the regions of interactions, headers and routines.
use Rattle.std.specs.Map.{lookup}
use Rattle.std.proofs.Common.{◌≡◌, ℕ, suc, ◌<◌, ◌≤◌, Bool, true, false, List, [], ◌∷◌, refl, Option}
use Rattle.std.proofs.Common.{Some, None, arith, if◌then◌else◌, unwrap_or, nat_eq, sym, subst, ◌∙◌}
use Rattle.std.proofs.Common.{inl}
use Rattle.est_syntax.specs.Names.{spelled}
use Rattle.est_syntax.specs.declared.channel.ByPart.{ByPart}
use Rattle.est_syntax.specs.declared.channel.Channel.{Channel}
use Rattle.est_syntax.specs.declared.channel.InteractionDef.{InteractionDef}
use Rattle.est_syntax.specs.declared.channel.Role.TheVariants.{First}
use Rattle.est_syntax.specs.declared.header.Header.{Header}
use Rattle.est_syntax.specs.declared.header.Point.{Point}
use Rattle.est_syntax.specs.declared.name.Used.{Used}
use Rattle.est_syntax.specs.declared.routine.Formal.{Formal}
use Rattle.est_syntax.specs.declared.type_text.TypeText.{TypeText, Row_of-TypeText, end_of-TypeText}
use Rattle.est_syntax.specs.declared.type_text.TypeText.{more_of-TypeText, Row_of-VarDef}
use Rattle.est_syntax.specs.declared.type_text.TypeText.{end_of-VarDef, more_of-VarDef}
use Rattle.est_syntax.specs.declared.type_text.TypeText.TheVariants as text
use Rattle.est_syntax.specs.declared.type_text.VarDef.{VarDef}
use Rattle.rule_scope.specs.Declaring.{declared, put, amended, lying, with_kind, taken, declared_by}
use Rattle.rule_scope.specs.Declaring.{put_by}
use Rattle.rule_scope.specs.Outline.{Outline, Region, names_of, standing}
use Rattle.rule_scope.specs.declared.declaration.Entry.{Entry}
use Rattle.rule_scope.specs.declared.declaration.Measured.{Measured}
use Rattle.rule_scope.specs.declared.declaration.Member.{Member}
use Rattle.rule_scope.specs.declared.declaration.Member.TheVariants as member
use Rattle.rule_scope.specs.declared.declaration.Section.TheVariants as section
use Rattle.rule_scope.specs.declared.declaration.Senders.{Senders}
use Rattle.rule_scope.specs.declared.declaration.Sort.TheVariants as sort
use Rattle.rule_scope.specs.declared.declaration.Standing.{Standing}
use Rattle.rule_scope.specs.declared.declaration.Within.{Within}
use Rattle.rule_kinds.specs.TypeTexts.{text_type, text_place, named_type, enumeration}
use Rattle.rule_declares.specs.Declares.{names_declare, numbers_declare, kinds_given, names_put}
use Rattle.rule_declares.specs.Declares.{text_declares, row_declares, row_fields_declare}
use Rattle.rule_declares.specs.Declares.{vardef_named, vardef_declares, vars_declare, roles_put}
use Rattle.rule_declares.specs.Declares.{interaction_declares, interactions_declare, senders}
use Rattle.rule_declares.specs.Declares.{by_part_declares, by_parts_declare, channel_declares}
use Rattle.rule_declares.specs.Declares.{sections_declare, has_exports, header_named}
use Rattle.rule_declares.specs.Declares.{header_declares}
use Rattle.rule_declares.specs.Declares.{formal_section, formal_named, formal_declares}
use Rattle.rule_declares.specs.Declares.{formals_declare}
use Rattle.rule_declares.specs.Entries.{plain, numbered, header, in_region, in_section}
use Rattle.rule_declares.specs.Lasts.{names_last, text_last, channel_last, header_last}
use Rattle.law_places.proofs.Declaring.{vardef_on, vars_on, point_on, merged_on, interaction_on}
use Rattle.law_places.proofs.Declaring.{interactions_on}
use Rattle.law_places.proofs.Placed.{NamesPlaced, TextPlaced, RowPlaced, FieldsPlaced, names_on}
use Rattle.law_places.proofs.Placed.{constant_on, text_on}
use Rattle.law_places.proofs.PlacedParts.{InOrder, VarDefPlaced, InteractionPlaced, ByPartPlaced}
use Rattle.law_places.proofs.PlacedParts.{ChannelPlaced, PointPlaced, HeaderPlaced, FormalPlaced}
use Rattle.law_places.proofs.PlacedParts.{Merged, m_none, m_point, m_export}
use Rattle.law_places.proofs.Tables.{two_numbers}
use Rattle.rule_expressions.specs.Selections.{is_parameter}
use Rattle.law_sentences.proofs.Leading.{AllAre}
use Rattle.law_sentences.proofs.ParametersAdded.{Adding, IsAdded, adding_later, declared_adds}
use Rattle.law_sentences.proofs.ParametersAdded.{put_adds, amended_adds, lying_adds}
use Rattle.law_sentences.proofs.ParametersKept.{is_parameter_item, Leading, IsBefore, before_later}
use Rattle.law_sentences.proofs.ParametersKept.{apart, leading_later, other_names, declared_keeps}
use Rattle.law_sentences.proofs.ParametersKept.{put_keeps, lying_keeps}
use Rattle.law_sentences.proofs.ParametersStay.{roles_keep, sections_keep}

-- what declares parameters in the region of a place
abbrev pub Adds : ℕ → Within → Type 0
Adds p w = (w.region ≡ p) × (is_parameter w.section ≡ true)

-- each formal is a parameter
formal_is : (x : Formal) → is_parameter (formal_section x) ≡ true
formal_is x = by x.by_place
  where
    by : (b : Bool) → is_parameter (if b then section.Place else section.Value) ≡ true
    by true = refl
    by false = refl

module _ {B : ℕ → Type 0} (p : ℕ) where
  names_add : (w : Within) (us : List Used) (last : ℕ) (e : Entry) (o : Outline) (c j : ℕ)
      → NamesPlaced c j us → IsAdded p w e → Adding B p c o
      → Adding B p j (names_declare w us last e o)
  names_add w [] last e o c j h is k = adding_later p c j o h k
  names_add w (u ∷ us) last e o c j h is k =
      names_add w us last e (declared w u last e o) (suc u.place) j h.1 is
      (declared_adds p c o w u last e h.0 is k)

  numbers_add : (w : Within) (us : List Used) (last n : ℕ) (o : Outline) (c j : ℕ)
      → NamesPlaced c j us → Adds p w → Adding B p c o
      → Adding B p j (numbers_declare w us last n o)
  numbers_add w [] last n o c j h is k = adding_later p c j o h k
  numbers_add w (u ∷ us) last n o c j h is k =
      numbers_add w us last (suc n) (declared w u last (numbered w n) o) (suc u.place) j h.1 is
      (declared_adds p c o w u last (numbered w n) h.0 (is.0, is.1, tt) k)

  kinds_add : (us : List Used) (x : Option Measured) (o : Outline) (c : ℕ) → Adding B p c o
      → Adding B p c (kinds_given us x o)
  kinds_add [] x o c k = k
  kinds_add (u ∷ us) x o c k =
      kinds_add us x (amended (with_kind x) u.place o) c
      (amended_adds p c o (with_kind x) u.place (λ e. (refl, refl)) k)

  put_add : (region : ℕ) (us : List Used) (x : Member) (o : Outline) (c j : ℕ)
      → NamesPlaced c j us → p < region → region ≤ c → Adding B p c o
      → Adding B p j (names_put region us x o)
  put_add region [] x o c j h n l k = adding_later p c j o h k
  put_add region (u ∷ us) x o c j h n l k =
      let q = h.0 in
      put_add region us x (put region u x o) (suc u.place) j h.1 n (omega arith)
      (put_adds p c o region u x n (omega arith) h.0 k)

  mutual
    text_adds : (w : Within) (t : TypeText) (o : Outline) (c j : ℕ) → TextPlaced c j t → Adds p w
        → Adding B p c o → Adding B p j (text_declares w t o)
    text_adds w (text.Named u) o c j h is k =
        let q = h.0 in let r = h.1 in adding_later p c j o (omega arith) k
    text_adds w (text.Range low high) o c j h is k =
        let q = constant_on c h.0 low h.1 in
        let r = constant_on h.0 j high h.2 in adding_later p c j o (omega arith) k
    text_adds w (text.Names names place) o c j h is k =
        let last = names_last names place in
        let o1 = numbers_declare w names last 0 o in
        kinds_add names (enumeration o1 names place) o1 j
        (numbers_add w names last 0 o place j h.1 is (adding_later p c place o h.0 k))
    text_adds w (text.Array' x index y of place) o c j h is k =
        row_adds w of (row_declares w index o) h.0 j h.3 is
        (row_adds w index o place h.0 h.2 is (adding_later p c place o h.1 k))
    text_adds w (text.Fields' x defs place) o c j h is k =
        let q = h.0 in
        let n : p < c = k.before in
        fields_add w place defs o place j h.1 (omega arith) (omega arith) is
        (adding_later p c place o h.0 k)
    text_adds w (text.Set' x of place) o c j h is k =
        row_adds w of o place j h.1 is (adding_later p c place o h.0 k)

    row_adds : (w : Within) {n : _} (row : Row_of-TypeText n) (o : Outline) (c j : ℕ)
        → RowPlaced c j row → Adds p w → Adding B p c o → Adding B p j (row_declares w row o)
    row_adds w end_of-TypeText o c j h is k = adding_later p c j o h k
    row_adds w (more_of-TypeText t rest) o c j h is k =
        row_adds w rest (text_declares w t o) h.0 j h.2 is (text_adds w t o c h.0 h.1 is k)

    fields_add : (w : Within) (region : ℕ) {n : _} (row : Row_of-VarDef n) (o : Outline)
        (c j : ℕ) → FieldsPlaced c j row → p < region → region ≤ c → Adds p w → Adding B p c o
        → Adding B p j (row_fields_declare w region row o)
    fields_add w region end_of-VarDef o c j h n l is k = adding_later p c j o h k
    fields_add w region (more_of-VarDef names t rest) o c j h n l is k =
        let o1 = names_put region names member.Field o in
        let d = names_on c h.0 names h.2 in
        let e = text_on h.0 h.1 t h.3 in
        fields_add w region rest (text_declares w t o1) h.1 j h.4 n (omega arith) is
        (text_adds w t o1 h.0 h.1 h.3 is (put_add region names member.Field o c h.0 h.2 n l k))

  vardef_adds : (w : Within) (v : VarDef) (o : Outline) (c j : ℕ) → VarDefPlaced c j v → Adds p w
      → Adding B p c o → Adding B p j (vardef_declares w v o)
  vardef_adds w v o c j h is k =
      let o1 = lying w (text_place v.text) o in
      let o2 = vardef_named w v o1 in
      let o3 = text_declares w v.text o2 in
      kinds_add v.names (text_type o3 v.text) o3 j
      (text_adds w v.text o2 h.0 j h.2 is
      (names_add w v.names (text_last v.text) (plain w sort.Variable) o1 c h.0 h.1
      (is.0, is.1, tt) (lying_adds p c o w (text_place v.text) k)))

  vars_add : (w : Within) (vs : List VarDef) (o : Outline) (c j : ℕ)
      → InOrder VarDefPlaced c j vs → Adds p w → Adding B p c o → Adding B p j (vars_declare w vs o)
  vars_add w [] o c j h is k = adding_later p c j o h k
  vars_add w (v ∷ vs) o c j h is k =
      vars_add w vs (vardef_declares w v o) h.0 j h.2 is (vardef_adds w v o c h.0 h.1 is k)

  -- formals
  formal_adds : (w : Within) (x : Formal) (o : Outline) (c j : ℕ) → FormalPlaced c j x
      → w.region ≡ p → Adding B p c o → Adding B p j (formal_declares w x o)
  formal_adds w x o c j h is k =
      let v = in_section (formal_section x) w in
      let d = names_on c h.0 x.names h.1 in
      let e = h.2 in
      let f = h.3 in
      let o1 = lying w x.kind.place o in
      let o2 = formal_named v x o1 in
      kinds_add x.names (named_type o2 x.kind) o2 j
      (adding_later p h.0 j o2 (omega arith)
      (names_add v x.names x.kind.place (plain v sort.Variable) o1 c h.0 h.1
      (is, formal_is x, tt) (lying_adds p c o w x.kind.place k)))

  pub formals_add : (w : Within) (xs : List Formal) (o : Outline) (c j : ℕ)
      → InOrder FormalPlaced c j xs → w.region ≡ p → Adding B p c o
      → Adding B p j (formals_declare w xs o)
  formals_add w [] o c j h is k = adding_later p c j o h k
  formals_add w (x ∷ xs) o c j h is k =
      formals_add w xs (formal_declares w x o) h.0 j h.2 is (formal_adds w x o c h.0 h.1 is k)

-- a name opens a region of its own, which has no names yet
no_names : (o : Outline) (p : ℕ) → lookup (nat_eq p) o.regions ≡ None
    → AllAre (is_parameter_item o) (names_of o p)
no_names o p h =
    subst (λ (y : Option Region). AllAre (is_parameter_item o) (unwrap_or y [])) (sym h) tt

-- after a name that is declared
pub opened : {B : ℕ → Type 0} (i : ℕ) (o : Outline) (w : Within) (u : Used) (last : ℕ) (e : Entry)
    → i ≤ u.place
    → IsBefore B i w.region → (B u.place → ⊥) → is_parameter e.section ≡ false → Leading B i i o
    → Adding B u.place (suc u.place) (declared w u last e o)
opened {B} i o w u last e l n out is k = record {
  leading = leading_later i (suc u.place) (suc u.place) (suc u.place) (declared w u last e o)
      (omega arith) (omega arith)
      (declared_keeps i (suc u.place) o w u last e l (omega arith)
      (before_later B i (suc u.place) w.region (omega arith) n, is)
      (leading_later i i i (suc u.place) o (omega arith) (omega arith) k));
  parameters = no_names (declared w u last e o) u.place (by (taken o w (spelled u)));
  before = omega arith;
}
  where
    by : (x : Option Standing)
        → lookup (nat_eq u.place) (declared_by x w u last e o).regions ≡ None
    by (Some s) = k.fresh u.place l out
    by None =
        other_names (lookup (nat_eq w.region) o.regions) o.regions w.region u.place (spelled u)
        record { place = u.place; last = last }
        (two_numbers u.place w.region (apart B i w.region u.place n l out)) ∙ k.fresh u.place l out

-- after a name that is put
opened_put : {B : ℕ → Type 0} (i : ℕ) (o : Outline) (region : ℕ) (u : Used) (x : Member)
    → i ≤ u.place
    → region < i → (B u.place → ⊥) → Leading B i i o
    → Adding B u.place (suc u.place) (put region u x o)
opened_put {B} i o region u x l n out k = record {
  leading = leading_later i (suc u.place) (suc u.place) (suc u.place) (put region u x o)
      (omega arith) (omega arith)
      (put_keeps i (suc u.place) o region u x (omega arith) l (omega arith)
      (leading_later i i i (suc u.place) o (omega arith) (omega arith) k));
  parameters = no_names (put region u x o) u.place (by (standing o region (spelled u)));
  before = omega arith;
}
  where
    by : (s : Option Standing) → lookup (nat_eq u.place) (put_by s region u x o).regions ≡ None
    by (Some s) = k.fresh u.place l out
    by None =
        other_names (lookup (nat_eq region) o.regions) o.regions region u.place (spelled u)
        record { place = u.place; last = u.place }
        (two_numbers u.place region (λ q. omega arith)) ∙ k.fresh u.place l out

-- the names of interactions are not the places of blocks
abbrev pub InteractionsApart : (ℕ → Type 0) → List InteractionDef → Type 0
InteractionsApart B [] = Unit {0}
InteractionsApart B (x ∷ xs) = (B x.name.place → ⊥) × InteractionsApart B xs

abbrev pub ByPartsApart : (ℕ → Type 0) → List ByPart → Type 0
ByPartsApart B [] = Unit {0}
ByPartsApart B (x ∷ xs) = InteractionsApart B x.interactions × ByPartsApart B xs

-- channels
interaction_leads : {B : ℕ → Type 0} (w : Within) (region : ℕ) (s : Senders) (x : InteractionDef)
    (o : Outline)
    (i j : ℕ) → InteractionPlaced i j x → region < i → (B x.name.place → ⊥) → Leading B i i o
    → Leading B j j (interaction_declares w region s x o)
interaction_leads w region s x o i j h n out k =
    (vars_add x.name.place (in_region section.Interaction w x.name.place) x.params
    (put region x.name (member.Interaction s) o) (suc x.name.place) j h.1 (refl, refl)
    (opened_put i o region x.name (member.Interaction s) h.0 n out k)).leading

interactions_lead : {B : ℕ → Type 0} (w : Within) (region : ℕ) (s : Senders)
    (xs : List InteractionDef)
    (o : Outline) (i j : ℕ) → InOrder InteractionPlaced i j xs → region < i
    → InteractionsApart B xs → Leading B i i o
    → Leading B j j (interactions_declare w region s xs o)
interactions_lead w region s [] o i j h n out k = leading_later i i j j o h h k
interactions_lead w region s (x ∷ xs) o i j h n out k =
    let e = interaction_on i h.0 x h.1 in
    interactions_lead w region s xs (interaction_declares w region s x o) h.0 j h.2 (omega arith)
    out.1
    (interaction_leads w region s x o i h.0 h.1 n out.0 k)

by_parts_lead : {B : ℕ → Type 0} (w : Within) (region : ℕ) (xs : List ByPart) (o : Outline)
    (i j : ℕ)
    → InOrder ByPartPlaced i j xs → region < i → ByPartsApart B xs → Leading B i i o
    → Leading B j j (by_parts_declare w region xs o)
by_parts_lead w region [] o i j h n out k = leading_later i i j j o h h k
by_parts_lead w region (x ∷ xs) o i j h n out k =
    let d = names_on i h.1.0 x.roles h.1.1 in
    let e = interactions_on h.1.0 h.0 x.interactions h.1.2 in
    by_parts_lead w region xs (by_part_declares w region x o) h.0 j h.2 (omega arith) out.1
    (interactions_lead w region (senders o region x.roles) x.interactions o h.1.0 h.0 h.1.2
    (omega arith) out.0 (leading_later i i h.1.0 h.1.0 o d d k))

pub channel_leads : {B : ℕ → Type 0} (w : Within) (c : Channel) (o : Outline) (i j : ℕ)
    → ChannelPlaced i j c → IsBefore B i w.region → is_parameter w.section ≡ false
    → ByPartsApart B c.by → Leading B i i o
    → Leading B j j (channel_declares w c o)
channel_leads {B} w c o i j h n is out k =
    let place = c.name.place in
    let q = h.1 in
    let d = names_on (suc place) h.0 c.roles h.2 in
    let o1 = lying w place o in
    let e = plain w sort.Channel in
    let o2 = declared w c.name (channel_last c) e o1 in
    by_parts_lead w place c.by (roles_put place c.roles First o2) h.0 j h.3 (omega arith) out
    (leading_later i h.0 h.0 h.0 (roles_put place c.roles First o2) (omega arith) (omega arith)
    (roles_keep B i h.0 place c.roles First o2 (suc place) h.0 (omega arith) h.2 (omega arith)
    (omega arith)
    (declared_keeps i h.0 o1 w c.name (channel_last c) e q (omega arith)
    (before_later B i h.0 w.region (omega arith) n, is)
    (lying_keeps i h.0 o w place (leading_later i i i h.0 o (omega arith) (omega arith) k)))))

-- the points and the exports of a header, each by themselves
names_earlier : (i k j : ℕ) (us : List Used) → i ≤ k → NamesPlaced k j us → NamesPlaced i j us
names_earlier i k j [] l h = omega arith
names_earlier i k j (u ∷ us) l h = let q = h.0 in (omega arith, h.1)

points_earlier : (i k j : ℕ) (ps : List Point) → i ≤ k → InOrder PointPlaced k j ps
    → InOrder PointPlaced i j ps
points_earlier i k j [] l h = omega arith
points_earlier i k j (p ∷ ps) l h =
    let g = h.1 in
    let q = g.2 in (
      h.0,
      (g.0, g.1, omega arith, names_earlier i k g.0 p.names l g.3, g.4, g.5, g.6, g.7, g.8),
      h.2,
    )

exports_earlier : (i k j : ℕ) (vs : List VarDef) → i ≤ k → InOrder VarDefPlaced k j vs
    → InOrder VarDefPlaced i j vs
exports_earlier i k j [] l h = omega arith
exports_earlier i k j (v ∷ vs) l h =
    (h.0, (h.1.0, names_earlier i k h.1.0 v.names l h.1.1, h.1.2), h.2)

points_of : {i j : ℕ} {ps : List Point} {vs : List VarDef} → Merged i j ps vs
    → InOrder PointPlaced i j ps
points_of (m_none l) = l
points_of (m_point {k = k} h x) = (k, h, points_of x)
points_of {i} {j} {ps} (m_export {k = k} {v = v} h t x) =
    points_earlier i k j ps (vardef_on i k v h) (points_of x)

exports_of : {i j : ℕ} {ps : List Point} {vs : List VarDef} → Merged i j ps vs
    → InOrder VarDefPlaced i j vs
exports_of (m_none l) = l
exports_of {i} {j} {vs = vs} (m_point {k = k} {p = p} h x) =
    exports_earlier i k j vs (point_on i k p h) (exports_of x)
exports_of (m_export {k = k} h t x) = (k, h, exports_of x)

-- headers
pub header_leads : {B : ℕ → Type 0} (w : Within) (x : Header) (o : Outline) (i j : ℕ)
    → HeaderPlaced i j x → IsBefore B i w.region → is_parameter w.section ≡ false
    → (B x.name.place → ⊥) → Leading B i i o
    → Leading B j j (header_declares w x o)
header_leads {B} w x o i j h n is out k =
    let place = x.name.place in
    let q = h.1 in
    let c = vars_on (suc place) h.0 x.params h.2 in
    let d = merged_on h.3 in
    let e = header w x.system (has_exports x.exports) in
    let v = in_region section.Parameter w place in
    let u = in_region section.Header w place in
    let o1 = header_named w x o in
    let o2 = vars_declare v x.params o1 in
    let p = vars_add place v x.params o1 (suc place) h.0 h.2 (refl, refl)
    (opened i (lying w place o) w x.name (header_last x) e q n out is (lying_keeps i i o w place k))
    in
    leading_later h.0 j j j (sections_declare u x.points x.exports o2) d (omega arith)
    (sections_keep B h.0 j u x.points x.exports o2 h.0 h.0 j (points_of h.3) (exports_of h.3)
    (omega arith) (omega arith)
    (omega arith) (λ r y z. inl (omega arith), refl)
    (leading_later h.0 h.0 h.0 j o2 (omega arith) d p.leading))
