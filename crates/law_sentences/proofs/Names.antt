-- Each name that declarations without statements declare is full, and in time where it is a
-- constant or a type.
use Rattle.std.specs.Prelude.{is_some, ◌&&◌, flat_map}
use Rattle.std.proofs.Common.{◌≡◌, sym, subst, ◌∙◌, ℕ, suc, ◌+◌, ◌≤◌, ◌<◌, List, [], ◌∷◌}
use Rattle.std.proofs.Common.{◌++◌, Option, Some, length, arith}
use Rattle.std.proofs.lemmas.Option.{none-some}
use Rattle.est_syntax.specs.Faults.{broken_if}
use Rattle.est_syntax.specs.Kinds.{maxint}
use Rattle.est_syntax.specs.declared.name.Used.{Used}
use Rattle.est_syntax.specs.declared.constant.ConstDef.{ConstDef}
use Rattle.est_syntax.specs.declared.type_text.TypeText.{TypeText, Row_of-TypeText, end_of-TypeText}
use Rattle.est_syntax.specs.declared.type_text.TypeText.{more_of-TypeText, Row_of-VarDef}
use Rattle.est_syntax.specs.declared.type_text.TypeText.{end_of-VarDef, more_of-VarDef}
use Rattle.est_syntax.specs.declared.type_text.TypeText.TheBlock.{shape-the_row-TypeText-1}
use Rattle.est_syntax.specs.declared.type_text.TypeText.TheVariants as text
use Rattle.est_syntax.specs.declared.type_text.TypeDef.{TypeDef}
use Rattle.est_syntax.specs.declared.type_text.VarDef.{VarDef}
use Rattle.est_syntax.specs.declared.channel.InteractionDef.{InteractionDef}
use Rattle.est_syntax.specs.declared.channel.ByPart.{ByPart}
use Rattle.est_syntax.specs.declared.channel.Channel.{Channel}
use Rattle.est_syntax.specs.declared.header.Point.{Point}
use Rattle.est_syntax.specs.declared.header.Header.{Header}
use Rattle.est_syntax.specs.declared.header.ModvarDef.{ModvarDef}
use Rattle.est_syntax.specs.declared.routine.Formal.{Formal}
use Rattle.est_syntax.specs.declared.body.StateSet.{StateSet}
use Rattle.est_syntax.specs.declared.rule.Rule.TheVariants.{NotInFunction}
use Rattle.rule_scope.specs.declared.declaration.Entry.{Entry}
use Rattle.rule_scope.specs.declared.declaration.Measured.{Measured}
use Rattle.rule_scope.specs.declared.declaration.Sort.{Sort}
use Rattle.rule_scope.specs.declared.declaration.Sort.TheVariants as sort
use Rattle.rule_scope.specs.Outline.{Outline, entry_at}
use Rattle.rule_scope.specs.Uses.{use_faults, declaration_of, twice_faults}
use Rattle.rule_scope.specs.Uses.{twices_faults, again_faults, agains_faults}
use Rattle.rule_kinds.specs.Constants.{constant_last}
use Rattle.rule_kinds.specs.TypeTexts.{text_type, text_faults, type_faults, named_type, enumeration}
use Rattle.rule_kinds.specs.TypeTexts.{row_arrays, row_fields}
use Rattle.rule_kinds.specs.TypeTexts.{row_index_faults, row_field_faults, text_place, no_fields}
use Rattle.rule_kinds.specs.TypeTexts.{array_faults, set_faults, record_faults}
use Rattle.rule_kinds.specs.Dims.{dims_of, dims_faults}
use Rattle.rule_declares.specs.Lasts.{names_last, text_last, channel_last, header_last}
use Rattle.rule_declares.specs.Declares.{side_of}
use Rattle.est_types.specs.declared.modules.Owner.{Owner}
use Rattle.est_types.specs.DeclarationFaults.{constdef_faults, typedef_faults}
use Rattle.est_types.specs.DeclarationFaults.{vardef_faults}
use Rattle.est_types.specs.DeclarationFaults.{role_faults, interaction_faults}
use Rattle.est_types.specs.DeclarationFaults.{by_part_faults}
use Rattle.est_types.specs.DeclarationFaults.{channel_faults, side_faults, point_faults}
use Rattle.est_types.specs.DeclarationFaults.{header_faults, attribute_faults}
use Rattle.est_types.specs.DeclarationFaults.{modvar_faults, word_place}
use Rattle.est_types.specs.DeclarationFaults.{formal_faults}
use Rattle.law_sentences.specs.Full.{IsThere, IsFull, IsFullFor, IsFullAt, AreFullBefore}
use Rattle.law_places.specs.Said.{Each, IsSaid, IsOf, HasKind, IsNoEntry, ConstDefSaid}
use Rattle.law_places.specs.Said.{NumbersSaid, TextSaid, RowSaid, FieldsSaid, TypeDefSaid}
use Rattle.law_places.specs.Said.{VarDefSaid, InteractionSaid, ByPartSaid, ChannelSaid}
use Rattle.law_places.specs.Said.{PointSaid, ModvarSaid, HeaderSaid, StateSetSaid, FormalSaid}
use Rattle.law_sentences.specs.WrittenExpressions.{EachUse, HasConstants, RowHas, FieldsHave}
use Rattle.law_sentences.specs.WrittenParts.{TypeDefWritten, VarDefWritten, InteractionWritten}
use Rattle.law_sentences.specs.WrittenParts.{ByPartWritten, ChannelWritten, PointWritten}
use Rattle.law_sentences.specs.WrittenParts.{ModvarWritten, HeaderWritten}
use Rattle.law_sentences.proofs.NoFaults.{parted}
use Rattle.law_sentences.proofs.SeenUses.{full_for, use_seen}
use Rattle.law_sentences.proofs.Uses.{text_then, of_text}
use Rattle.law_sentences.proofs.UsesStand.{name_to_last}
use Rattle.law_sentences.proofs.TypeKinds.{named_there, text_there}
use Rattle.law_sentences.proofs.DimKinds as dims
use Rattle.law_sentences.proofs.Declarations.{constant_at, text_at, same_there, of_sort}
use Rattle.law_sentences.proofs.Declarations.{constant_definition, numbered_full, type_definition}
use Rattle.law_sentences.proofs.Declarations.{side_there}
use Rattle.law_sentences.proofs.Walk.{Named, IsMember, OfConstDef, OfText, OfRow, OfFields}
use Rattle.law_sentences.proofs.Walk.{OfTypeDef, OfVarDef, OfInteraction, OfByPart, OfChannel}
use Rattle.law_sentences.proofs.Walk.{OfPoint, OfModvar, OfHeader, OfStateSet, OfState, OfFormal}

-- what holds of each item holds of each otherwise
pub each_then : {A : Type 0} (P Q : A → Type 0) (f : (x : A) → P x → Q x) (xs : List A)
    → Each P xs → Each Q xs
each_then P Q f [] p = tt
each_then P Q f (x ∷ xs) p = (f x p.0, each_then P Q f xs p.1)

module _ (o : Outline) where
  -- what is declared at a place is in force after another: it is full then, where it is a constant
  -- or a type
  abbrev pub InTime : ℕ → ℕ → Type 0
  InTime place last = (e : Entry) → entry_at o place ≡ Some e → AreFullBefore o (suc last)
      → IsFullFor e.declared.sort e

  -- it is full where all constants and types are
  abbrev pub InTheEnd : ℕ → Type 0
  InTheEnd place = (e : Entry) → entry_at o place ≡ Some e → ((u : Used) → IsFullAt o u)
      → IsFull e

  abbrev pub IsSoAt : Used → ℕ → Type 0
  IsSoAt u last = InTime u.place last × InTheEnd u.place

  abbrev pub IsAMember : Used → Type 0
  IsAMember u = InTime u.place u.place

  -- a constant or a type
  soon : (Q : Entry → Type 0) (u : Used) (last : ℕ) → IsSaid o Q u
      → ((e : Entry) → Q e → AreFullBefore o (suc last) → IsFull e) → IsSoAt u last
  soon Q u last said f = (
    λ e is full. full_for e.declared.sort e (f e (said e is) full),
    λ e is all. f e (said e is) (λ v lt. all v),
  )

  -- another sort
  pub late : (s : Sort) (Q : Entry → Type 0) (u : Used) (last : ℕ) → IsSaid o Q u
      → ((e : Entry) → IsFullFor s e) → ((e : Entry) → Q e → e.declared.sort ≡ s)
      → ((e : Entry) → Q e → ((v : Used) → IsFullAt o v) → IsFull e) → IsSoAt u last
  late s Q u last said other is_sort f = (
    λ e is full. subst (λ x. IsFullFor x e) (sym (is_sort e (said e is))) (other e),
    λ e is all. f e (said e is) all,
  )

  -- no declaration
  no_entry : (u : Used) → IsNoEntry o u → IsAMember u
  no_entry u none e is full = absurd (none-some e (sym none ∙ is))

  members_full : (us : List Used) → Each (IsNoEntry o) us → Each (IsMember IsSoAt IsAMember) us
  members_full us said = each_then (IsNoEntry o) (IsMember IsSoAt IsAMember) no_entry us said

  -- constants
  pub consts_full : (cs : List ConstDef) → Each (ConstDefSaid o) cs → flat_map (constdef_faults o) cs ≡ []
      → Each (OfConstDef IsSoAt IsAMember) cs
  consts_full [] said h = tt
  consts_full (c ∷ cs) said h =
      let k = parted (constdef_faults o c) (flat_map (constdef_faults o) cs) h in
      let last = constant_last c.value in (
        soon _ c.name last said.0 (λ e q full. constant_definition o c e
            (constant_at o c.value (suc last) full (name_to_last c.value)) k.0 q.0 q.1),
        consts_full cs said.1 k.1,
      )

  -- enumerations
  numbers_full : (v : Used) (vs : List Used) (place last i : ℕ) (us : List Used)
      → twices_faults o (v ∷ vs) ≡ [] → i + length us ≤ suc maxint
      → NumbersSaid o (enumeration o (v ∷ vs) place) i us → Each (Named IsSoAt IsAMember last) us
  numbers_full v vs place last i [] h le said = tt
  numbers_full v vs place last i (u ∷ us) h le said = (
    soon _ u last said.0
        (λ e q full. numbered_full o v vs place i e h (omega arith) q.0 q.1 q.2),
    numbers_full v vs place last (suc i) us h (omega arith) said.1,
  )

  names_full : (us : List Used) (place : ℕ) → length us ≤ suc maxint → twices_faults o us ≡ []
      → NumbersSaid o (enumeration o us place) 0 us
      → Each (Named IsSoAt IsAMember (names_last us place)) us
  names_full [] place le h said = tt
  names_full (u ∷ us) place le h said =
      numbers_full u us place (names_last (u ∷ us) place) 0 (u ∷ us) h (omega arith) said

  mutual
    unfolding shape-the_row-TypeText-1

    text_full : (t : TypeText) → TextSaid o t → HasConstants t → text_faults o t ≡ []
        → OfText IsSoAt IsAMember t
    text_full (text.Named u) said c h = tt
    text_full (text.Range low high) said c h = tt
    text_full (text.Names names place) said c h = names_full names place c.1 h said.0
    text_full (text.Array' x index y (more_of-TypeText of end_of-TypeText) place) said c h =
        let k = parted (text_faults o of) (row_index_faults o index (text_type o of) place) h in (
          index_full index (text_type o of) place said.0 c.0 k.1,
          (text_full of said.1.0 c.1.0 k.0, tt),
        )
    text_full (text.Fields' x defs place) said c h =
        let k = parted (row_field_faults o defs)
        (record_faults (row_fields o defs (Some no_fields)) place) h in
        fields_full defs said c k.0
    text_full (text.Set' x (more_of-TypeText of end_of-TypeText) place) said c h =
        let k = parted (text_faults o of) (set_faults (text_type o of) (text_place of) place) h in
        (text_full of said.0 c.0 k.0, tt)

    index_full : {n : _} (row : Row_of-TypeText n) (m : Option Measured) (place : ℕ)
        → RowSaid o row → RowHas row → row_index_faults o row m place ≡ []
        → OfRow IsSoAt IsAMember row
    index_full end_of-TypeText m place said c h = tt
    index_full (more_of-TypeText t rest) m place said c h =
        let faults = array_faults (text_type o t) (row_arrays o rest m) (text_place t) place in
        let k = parted (row_index_faults o rest m place) (text_faults o t ++ faults) h in
        let l = parted (text_faults o t) faults k.1 in
        (text_full t said.0 c.0 l.0, index_full rest m place said.1 c.1 k.0)

    fields_full : {n : _} (row : Row_of-VarDef n) → FieldsSaid o row → FieldsHave row
        → row_field_faults o row ≡ [] → OfFields IsSoAt IsAMember row
    fields_full end_of-VarDef said c h = tt
    fields_full (more_of-VarDef names t rest) said c h =
        let k = parted (agains_faults o names ++ text_faults o t) (row_field_faults o rest) h in
        let l = parted (agains_faults o names) (text_faults o t) k.0 in (
          members_full names said.0,
          text_full t said.1 c.0 l.1,
          fields_full rest said.2 c.1 k.1,
        )

  -- types
  uses_before : (t : TypeText) (last : ℕ) → EachUse (λ u. u.place ≤ last) t
      → EachUse (λ u. u.place < suc last) t
  uses_before t last uses = text_then (λ u. u.place ≤ last) (λ u. u.place < suc last)
      (λ u le. omega arith) t uses

  pub types_full : (ts : List TypeDef) → Each (TypeDefSaid o) ts → Each TypeDefWritten ts
      → flat_map (typedef_faults o) ts ≡ [] → Each (OfTypeDef IsSoAt IsAMember) ts
  types_full [] said written h = tt
  types_full (t ∷ ts) said written h =
      let k = parted (typedef_faults o t) (flat_map (typedef_faults o) ts) h in
      let l = parted (twice_faults o t.name) (text_faults o t.text) k.0 in
      let last = text_last t.text in (
        (
          soon _ t.name last said.0.0 (λ e q full. type_definition o t e
              (text_at o t.text (suc last) full (uses_before t.text last written.0.0))
              written.0.1 k.0 q.0 q.1),
          text_full t.text said.0.1 written.0.1 l.1,
        ),
        types_full ts said.1 written.1 k.1,
      )

  -- a text where all constants and types are full
  pub text_kind : (t : TypeText) → HasConstants t → text_faults o t ≡ []
      → ((u : Used) → IsFullAt o u) → IsThere (text_type o t)
  text_kind t c h all = text_there o t (of_text (IsFullAt o) all t) c h

  -- variables
  pub vardef_full : (v : VarDef) → VarDefSaid o v → VarDefWritten v → text_faults o v.text ≡ []
      → OfVarDef IsSoAt IsAMember v
  vardef_full v said c h = (
    each_then (IsSaid o (HasKind sort.Variable (text_type o v.text)))
        (Named IsSoAt IsAMember (text_last v.text))
        (λ u is. late sort.Variable (HasKind sort.Variable (text_type o v.text)) u
        (text_last v.text) is (λ e. tt) (λ e q. q.0) (λ e q all. of_sort sort.Variable e q.0
        (same_there e.kind (text_type o v.text) q.1 (text_kind v.text c h all)))) v.names said.0,
    text_full v.text said.1 c h,
  )

  pub vars_full : (vs : List VarDef) → Each (VarDefSaid o) vs → Each VarDefWritten vs
      → flat_map (vardef_faults o) vs ≡ [] → Each (OfVarDef IsSoAt IsAMember) vs
  vars_full [] said written h = tt
  vars_full (v ∷ vs) said written h =
      let k = parted (vardef_faults o v) (flat_map (vardef_faults o) vs) h in
      let l = parted (twices_faults o v.names) (text_faults o v.text) k.0 in
      (vardef_full v said.0 written.0 l.1, vars_full vs said.1 written.1 k.1)

  -- a declaration of which nothing is asked for
  plain_full : (s : Sort) → ((e : Entry) → IsFullFor s e)
      → ((e : Entry) → e.declared.sort ≡ s → IsFull e) → (u : Used) (last : ℕ)
      → IsSaid o (IsOf s) u → IsSoAt u last
  plain_full s other is_full u last said =
      late s (IsOf s) u last said other (λ e q. q.0) (λ e q all. is_full e q.0)

  -- channels
  interactions_full : (is : List InteractionDef) → Each (InteractionSaid o) is
      → Each InteractionWritten is → flat_map (interaction_faults o) is ≡ []
      → Each (OfInteraction IsSoAt IsAMember) is
  interactions_full [] said written h = tt
  interactions_full (i ∷ is) said written h =
      let k = parted (interaction_faults o i) (flat_map (interaction_faults o) is) h in
      let l = parted (again_faults o i.name) (flat_map (vardef_faults o) i.params) k.0 in (
        (no_entry i.name said.0.0, vars_full i.params said.0.1 written.0 l.1),
        interactions_full is said.1 written.1 k.1,
      )

  by_parts_full : (channel : ℕ) (bs : List ByPart) → Each (ByPartSaid o) bs
      → Each ByPartWritten bs → flat_map (by_part_faults o channel) bs ≡ []
      → Each (OfByPart IsSoAt IsAMember) bs
  by_parts_full channel [] said written h = tt
  by_parts_full channel (b ∷ bs) said written h =
      let k = parted (by_part_faults o channel b) (flat_map (by_part_faults o channel) bs) h in
      let l = parted (flat_map (role_faults o channel) b.roles)
      (flat_map (interaction_faults o) b.interactions) k.0 in (
        interactions_full b.interactions said.0 written.0 l.1,
        by_parts_full channel bs said.1 written.1 k.1,
      )

  pub channel_full : (c : Channel) → ChannelSaid o c → ChannelWritten c → channel_faults o c ≡ []
      → OfChannel IsSoAt IsAMember c
  channel_full c said written h =
      let k = parted (twice_faults o c.name ++ agains_faults o c.roles)
      (flat_map (by_part_faults o c.name.place) c.by) h in (
        plain_full sort.Channel (λ e. tt) (λ e q. of_sort sort.Channel e q tt) c.name
            (channel_last c) said.0,
        members_full c.roles said.1,
        by_parts_full c.name.place c.by said.2 written k.1,
      )

  -- interaction points
  dims_kinds : (ts : List TypeText) → Each HasConstants ts → ((u : Used) → IsFullAt o u)
      → Each (dims.HasKind o) ts
  dims_kinds ts c all =
      each_then HasConstants (dims.HasKind o) (λ t has h. text_kind t has h all) ts c

  point_full : (p : Point) → PointSaid o p → PointWritten p → point_faults o p ≡ []
      → OfPoint IsSoAt IsAMember p
  point_full p said c h =
      let channel = declaration_of o sort.Channel p.channel in
      let named = twices_faults o p.names in
      let of_dims = dims_faults o p.dims p.place in
      let used = use_faults o sort.Channel p.channel in
      let k1 = parted (named ++ of_dims ++ used) (side_faults o channel p.role) h in
      let k2 = parted (named ++ of_dims) used k1.0 in
      let k3 = parted named of_dims k2.0 in
      let r = side_there o channel p.role (use_seen o sort.Channel p.channel k2.1) k1.1 in
      each_then _ (Named IsSoAt IsAMember p.role.place)
      (λ u is. late sort.Point _ u p.role.place is (λ e. tt) (λ e q. q.0)
      (λ e q all. of_sort sort.Point e q.0 (
        same_there e.dims (dims_of o p.dims) q.1
            (dims.dims_by o p.dims p.place (dims_kinds p.dims c all) k3.1),
        same_there e.side (side_of o p) q.2 r,
      ))) p.names said

  pub points_full : (ps : List Point) → Each (PointSaid o) ps → Each PointWritten ps
      → flat_map (point_faults o) ps ≡ [] → Each (OfPoint IsSoAt IsAMember) ps
  points_full [] said written h = tt
  points_full (p ∷ ps) said written h =
      let k = parted (point_faults o p) (flat_map (point_faults o) ps) h in
      (point_full p said.0 written.0 k.0, points_full ps said.1 written.1 k.1)

  -- module variables
  modvar_full : (owner : Owner) (m : ModvarDef) → ModvarSaid o m → ModvarWritten m
      → modvar_faults o owner m ≡ [] → OfModvar IsSoAt IsAMember m
  modvar_full owner m said c h =
      let meant = declaration_of o sort.Header m.header in
      let named = twices_faults o m.names in
      let of_dims = dims_faults o m.dims m.place in
      let used = use_faults o sort.Header m.header in
      let k1 = parted (named ++ of_dims ++ used)
      (attribute_faults o owner meant m.header.place) h in
      let k2 = parted (named ++ of_dims) used k1.0 in
      let k3 = parted named of_dims k2.0 in
      each_then _ (Named IsSoAt IsAMember m.header.place)
      (λ u is. late sort.ModuleVariable _ u m.header.place is (λ e. tt) (λ e q. q.0)
      (λ e q all. of_sort sort.ModuleVariable e q.0 (
        same_there e.dims (dims_of o m.dims) q.1
            (dims.dims_by o m.dims m.place (dims_kinds m.dims c all) k3.1),
        same_there e.header meant q.2 (use_seen o sort.Header m.header k2.1),
      ))) m.names said

  pub modvars_full : (owner : Owner) (ms : List ModvarDef) → Each (ModvarSaid o) ms
      → Each ModvarWritten ms → flat_map (modvar_faults o owner) ms ≡ []
      → Each (OfModvar IsSoAt IsAMember) ms
  modvars_full owner [] said written h = tt
  modvars_full owner (m ∷ ms) said written h =
      let k = parted (modvar_faults o owner m) (flat_map (modvar_faults o owner) ms) h in
      (modvar_full owner m said.0 written.0 k.0, modvars_full owner ms said.1 written.1 k.1)

  -- headers
  pub header_full : (x : Header) → HeaderSaid o x → HeaderWritten x → header_faults o x ≡ []
      → OfHeader IsSoAt IsAMember x
  header_full x said written h =
      let name = twice_faults o x.name in
      let params = flat_map (vardef_faults o) x.params in
      let points = flat_map (point_faults o) x.points in
      let k1 = parted (name ++ params ++ points) (flat_map (vardef_faults o) x.exports) h in
      let k2 = parted (name ++ params) points k1.0 in
      let k3 = parted name params k2.0 in (
        plain_full sort.Header (λ e. tt) (λ e q. of_sort sort.Header e q tt) x.name
            (header_last x) said.0,
        vars_full x.params said.1 written.0 k3.1,
        points_full x.points said.2 written.1 k2.1,
        vars_full x.exports said.3 written.2 k1.1,
      )

  -- states and state sets
  pub states_full : (us : List Used) → Each (IsSaid o (IsOf sort.State)) us
      → Each (OfState IsSoAt IsAMember) us
  states_full us said = each_then (IsSaid o (IsOf sort.State)) (OfState IsSoAt IsAMember)
      (λ u is. plain_full sort.State (λ e. tt) (λ e q. of_sort sort.State e q tt) u u.place is)
      us said

  pub statesets_full : (ss : List StateSet) → Each (StateSetSaid o) ss
      → Each (OfStateSet IsSoAt IsAMember) ss
  statesets_full ss said = each_then (StateSetSaid o) (OfStateSet IsSoAt IsAMember)
      (λ s is. plain_full sort.StateSet (λ e. tt) (λ e q. of_sort sort.StateSet e q tt) s.name
      (names_last s.states s.name.place)
      (λ e at. let q = is e at in (q.0, q.2, q.3))) ss said

  -- formals
  formal_full : (result : Option Used) (f : Formal) → FormalSaid o f
      → formal_faults o result f ≡ [] → OfFormal IsSoAt IsAMember f
  formal_full result f said h =
      let k = parted (twices_faults o f.names ++ type_faults o f.kind)
      (broken_if (is_some result && f.by_place) (word_place f.names) NotInFunction) h in
      let l = parted (twices_faults o f.names) (type_faults o f.kind) k.0 in
      each_then _ (Named IsSoAt IsAMember f.kind.place)
      (λ u is. late sort.Variable _ u f.kind.place is (λ e. tt) (λ e q. q.0)
      (λ e q all. of_sort sort.Variable e q.0
      (same_there e.kind (named_type o f.kind) q.1 (named_there o f.kind (all f.kind) l.1))))
      f.names said

  pub formals_full : (result : Option Used) (fs : List Formal) → Each (FormalSaid o) fs
      → flat_map (formal_faults o result) fs ≡ [] → Each (OfFormal IsSoAt IsAMember) fs
  formals_full result [] said h = tt
  formals_full result (f ∷ fs) said h =
      let k = parted (formal_faults o result f) (flat_map (formal_faults o result) fs) h in
      (formal_full result f said.0 k.0, formals_full result fs said.1 k.1)
