-- What holds of every outline, as it grows by its declarations.
use Rattle.std.proofs.Common.{ℕ, suc, Bool, List, [], ◌∷◌, Option, None}
use Rattle.est_syntax.specs.declared.name.Used.{Used}
use Rattle.est_syntax.specs.declared.constant.ConstDef.{ConstDef}
use Rattle.est_syntax.specs.declared.kind.Kind.{Kind}
use Rattle.est_syntax.specs.declared.type_text.TypeText.{TypeText, Row_of-TypeText}
use Rattle.est_syntax.specs.declared.type_text.TypeText.{end_of-TypeText}
use Rattle.est_syntax.specs.declared.type_text.TypeText.{more_of-TypeText, Row_of-VarDef}
use Rattle.est_syntax.specs.declared.type_text.TypeText.{end_of-VarDef, more_of-VarDef}
use Rattle.est_syntax.specs.declared.type_text.TypeText.TheVariants as text
use Rattle.est_syntax.specs.declared.type_text.VarDef.{VarDef}
use Rattle.est_syntax.specs.declared.type_text.TypeDef.{TypeDef}
use Rattle.est_syntax.specs.declared.channel.Role.{Role}
use Rattle.est_syntax.specs.declared.channel.Role.TheVariants.{First, Second}
use Rattle.est_syntax.specs.declared.channel.InteractionDef.{InteractionDef}
use Rattle.est_syntax.specs.declared.channel.ByPart.{ByPart}
use Rattle.est_syntax.specs.declared.channel.Channel.{Channel}
use Rattle.est_syntax.specs.declared.header.Point.{Point}
use Rattle.est_syntax.specs.declared.header.Queue.{Queue}
use Rattle.est_syntax.specs.declared.header.Header.{Header}
use Rattle.est_syntax.specs.declared.header.ModvarDef.{ModvarDef}
use Rattle.est_syntax.specs.declared.routine.Formal.{Formal}
use Rattle.est_syntax.specs.declared.body.StateSet.{StateSet}
use Rattle.rule_kinds.specs.rule_scope.declared.declaration.Entry.{Entry}
use Rattle.rule_kinds.specs.rule_scope.declared.declaration.Measured.{Measured}
use Rattle.rule_kinds.specs.rule_scope.declared.declaration.Member.{Member}
use Rattle.rule_kinds.specs.rule_scope.declared.declaration.Member.TheVariants as member
use Rattle.rule_kinds.specs.rule_scope.declared.declaration.Section.TheVariants as section
use Rattle.rule_kinds.specs.rule_scope.declared.declaration.Senders.{Senders}
use Rattle.rule_kinds.specs.rule_scope.declared.declaration.Side.{Side}
use Rattle.rule_kinds.specs.rule_scope.declared.declaration.Sort.{Sort}
use Rattle.rule_kinds.specs.rule_scope.declared.declaration.Sort.TheVariants as sort
use Rattle.rule_kinds.specs.rule_scope.declared.declaration.Within.{Within}
use Rattle.rule_kinds.specs.rule_scope.Outline.{Outline}
use Rattle.rule_kinds.specs.rule_scope.Declaring.{empty, declared, put, amended, lying}
use Rattle.rule_kinds.specs.rule_scope.Declaring.{with_kind, with_closed, with_header}
use Rattle.rule_kinds.specs.rule_scope.Uses.{declaration_of}
use Rattle.rule_kinds.specs.declared.value.Valued.{Valued}
use Rattle.rule_kinds.specs.Constants.{constant_value, constant_last}
use Rattle.rule_kinds.specs.TypeTexts.{text_type, text_place, named_type, enumeration}
use Rattle.rule_kinds.specs.Dims.{dims_of, dims_elements}
use Rattle.rule_declares.specs.Entries.{plain, typed, constant, numbered, point}
use Rattle.rule_declares.specs.Entries.{module_variable, state_set, header, in_region, in_section}
use Rattle.rule_declares.specs.Lasts.{names_last, text_last, channel_last, header_last}
use Rattle.rule_declares.specs.Declares.{names_declare, constdef_declares, consts_declare}
use Rattle.rule_declares.specs.Declares.{numbers_declare, kinds_given, enumeration_declares}
use Rattle.rule_declares.specs.Declares.{names_put, text_declares, row_declares, row_fields_declare}
use Rattle.rule_declares.specs.Declares.{typedef_named, typedef_declares, types_declare}
use Rattle.rule_declares.specs.Declares.{vardef_named, vardef_declares, vars_declare, roles_put}
use Rattle.rule_declares.specs.Declares.{interaction_declares, interactions_declare, senders}
use Rattle.rule_declares.specs.Declares.{by_part_declares, by_parts_declare, channel_declares}
use Rattle.rule_declares.specs.Declares.{side_of, point_declares, points_declare, modvar_declares}
use Rattle.rule_declares.specs.Declares.{modvars_declare, before, after, sections_declare}
use Rattle.rule_declares.specs.Declares.{has_exports, header_named, header_declares, states_declare}
use Rattle.rule_declares.specs.Declares.{states_named, stateset_declares, statesets_declare}
use Rattle.rule_declares.specs.Declares.{formal_section, formal_named, formal_declares}
use Rattle.rule_declares.specs.Declares.{formals_declare}

-- What a property of declarations has to bear: it holds of each as it is declared, and still where
-- more of it is known.
pub record IsOfEach (Q : Entry → Type 0) : Type 0 where
  pub of_typed : (w : Within) (s : Sort) (k : Option Measured) → Q (typed w s k)
  pub of_constant : (w : Within) (v : Option Valued) → Q (constant w v)
  pub of_numbered : (w : Within) (i : ℕ) → Q (numbered w i)
  pub of_point : (w : Within) (dims : Option (List Kind)) (side : Option Side) (q : Option Queue)
      → Q (point w dims (dims_elements dims) side q)
  pub of_variable : (w : Within) (dims : Option (List Kind)) (h : Option ℕ)
      → Q (module_variable w dims h)
  pub of_state_set : (w : Within) (places : List ℕ) → Q (state_set w places)
  pub of_header : (w : Within) (system exports : Bool) → Q (header w system exports)
  pub given_kind : (k : Option Measured) (e : Entry) → Q e → Q (with_kind k e)
  pub given_closed : (b : Bool) (e : Entry) → Q e → Q (with_closed b e)
  pub given_header : (h : Option ℕ) (e : Entry) → Q e → Q (with_header h e)

-- What a property of outlines has to bear, where the declarations have another.
pub record IsKept (Q : Entry → Type 0) (P : Outline → Type 0) : Type 0 where
  pub begins : P empty
  pub declares : (o : Outline) (w : Within) (u : Used) (last : ℕ) (e : Entry) → Q e → P o
      → P (declared w u last e o)
  pub puts : (o : Outline) (region : ℕ) (u : Used) (m : Member) → P o → P (put region u m o)
  pub amends : (o : Outline) (f : Entry → Entry) (place : ℕ) → ((e : Entry) → Q e → Q (f e)) → P o
      → P (amended f place o)
  pub lies : (o : Outline) (w : Within) (place : ℕ) → P o → P (lying w place o)

-- so it holds of what each part declares
module _ (Q : Entry → Type 0) (P : Outline → Type 0) (each : IsOfEach Q) (kept : IsKept Q P) where
  names_kept : (w : Within) (us : List Used) (last : ℕ) (e : Entry) (o : Outline) → Q e → P o
      → P (names_declare w us last e o)
  names_kept w [] last e o q p = p
  names_kept w (u ∷ us) last e o q p =
      names_kept w us last e (declared w u last e o) q (kept.declares o w u last e q p)

  -- constants
  constdef_kept : (w : Within) (c : ConstDef) (o : Outline) → P o → P (constdef_declares w c o)
  constdef_kept w c o p =
      let o1 = lying w c.name.place o in
      let v = constant_value o1 c.value in
      kept.declares o1 w c.name (constant_last c.value) (constant w v) (each.of_constant w v)
      (kept.lies o w c.name.place p)

  pub consts_kept : (w : Within) (cs : List ConstDef) (o : Outline) → P o
      → P (consts_declare w cs o)
  consts_kept w [] o p = p
  consts_kept w (c ∷ cs) o p = consts_kept w cs (constdef_declares w c o) (constdef_kept w c o p)

  -- types
  numbers_kept : (w : Within) (us : List Used) (last i : ℕ) (o : Outline) → P o
      → P (numbers_declare w us last i o)
  numbers_kept w [] last i o p = p
  numbers_kept w (u ∷ us) last i o p =
      numbers_kept w us last (suc i) (declared w u last (numbered w i) o)
      (kept.declares o w u last (numbered w i) (each.of_numbered w i) p)

  kinds_kept : (us : List Used) (k : Option Measured) (o : Outline) → P o → P (kinds_given us k o)
  kinds_kept [] k o p = p
  kinds_kept (u ∷ us) k o p =
      kinds_kept us k (amended (with_kind k) u.place o)
      (kept.amends o (with_kind k) u.place (each.given_kind k) p)

  enumeration_kept : (w : Within) (names : List Used) (place : ℕ) (o : Outline) → P o
      → P (enumeration_declares w names place o)
  enumeration_kept w names place o p =
      let o1 = numbers_declare w names (names_last names place) 0 o in
      kinds_kept names (enumeration o1 names place) o1
      (numbers_kept w names (names_last names place) 0 o p)

  put_kept : (region : ℕ) (us : List Used) (m : Member) (o : Outline) → P o
      → P (names_put region us m o)
  put_kept region [] m o p = p
  put_kept region (u ∷ us) m o p = put_kept region us m (put region u m o) (kept.puts o region u m p)

  mutual
    pub text_kept : (w : Within) (t : TypeText) (o : Outline) → P o → P (text_declares w t o)
    text_kept w (text.Named u) o p = p
    text_kept w (text.Range low high) o p = p
    text_kept w (text.Names names place) o p = enumeration_kept w names place o p
    text_kept w (text.Array' a index b of place) o p =
        row_kept w of (row_declares w index o) (row_kept w index o p)
    text_kept w (text.Fields' a defs place) o p = row_fields_kept w place defs o p
    text_kept w (text.Set' a of place) o p = row_kept w of o p

    row_kept : (w : Within) {n : _} (row : Row_of-TypeText n) (o : Outline) → P o
        → P (row_declares w row o)
    row_kept w end_of-TypeText o p = p
    row_kept w (more_of-TypeText t rest) o p =
        row_kept w rest (text_declares w t o) (text_kept w t o p)

    row_fields_kept : (w : Within) (region : ℕ) {n : _} (row : Row_of-VarDef n) (o : Outline) → P o
        → P (row_fields_declare w region row o)
    row_fields_kept w region end_of-VarDef o p = p
    row_fields_kept w region (more_of-VarDef names t rest) o p =
        let o1 = names_put region names member.Field o in
        row_fields_kept w region rest (text_declares w t o1)
        (text_kept w t o1 (put_kept region names member.Field o p))

  typedef_kept : (w : Within) (t : TypeDef) (o : Outline) → P o → P (typedef_declares w t o)
  typedef_kept w t o p =
      let o1 = lying w t.name.place o in
      let o2 = typedef_named w t o1 in
      let o3 = text_declares w t.text o2 in
      let k = text_type o3 t.text in
      kept.amends o3 (with_kind k) t.name.place (each.given_kind k)
      (text_kept w t.text o2 (kept.declares o1 w t.name (text_last t.text) (plain w sort.TypeName)
      (each.of_typed w sort.TypeName None) (kept.lies o w t.name.place p)))

  pub types_kept : (w : Within) (ts : List TypeDef) (o : Outline) → P o → P (types_declare w ts o)
  types_kept w [] o p = p
  types_kept w (t ∷ ts) o p = types_kept w ts (typedef_declares w t o) (typedef_kept w t o p)

  -- variables
  vardef_kept : (w : Within) (v : VarDef) (o : Outline) → P o → P (vardef_declares w v o)
  vardef_kept w v o p =
      let o1 = lying w (text_place v.text) o in
      let o2 = vardef_named w v o1 in
      let o3 = text_declares w v.text o2 in
      kinds_kept v.names (text_type o3 v.text) o3
      (text_kept w v.text o2 (names_kept w v.names (text_last v.text) (plain w sort.Variable) o1
      (each.of_typed w sort.Variable None) (kept.lies o w (text_place v.text) p)))

  pub vars_kept : (w : Within) (vs : List VarDef) (o : Outline) → P o → P (vars_declare w vs o)
  vars_kept w [] o p = p
  vars_kept w (v ∷ vs) o p = vars_kept w vs (vardef_declares w v o) (vardef_kept w v o p)

  -- channels
  roles_kept : (region : ℕ) (us : List Used) (r : Role) (o : Outline) → P o
      → P (roles_put region us r o)
  roles_kept region [] r o p = p
  roles_kept region (u ∷ us) r o p =
      roles_kept region us Second (put region u (member.Role r) o)
      (kept.puts o region u (member.Role r) p)

  interaction_kept : (w : Within) (region : ℕ) (s : Senders) (i : InteractionDef) (o : Outline)
      → P o → P (interaction_declares w region s i o)
  interaction_kept w region s i o p =
      vars_kept (in_region section.Interaction w i.name.place) i.params
      (put region i.name (member.Interaction s) o)
      (kept.puts o region i.name (member.Interaction s) p)

  interactions_kept : (w : Within) (region : ℕ) (s : Senders) (is : List InteractionDef)
      (o : Outline) → P o → P (interactions_declare w region s is o)
  interactions_kept w region s [] o p = p
  interactions_kept w region s (i ∷ is) o p =
      interactions_kept w region s is (interaction_declares w region s i o)
      (interaction_kept w region s i o p)

  by_parts_kept : (w : Within) (region : ℕ) (bs : List ByPart) (o : Outline) → P o
      → P (by_parts_declare w region bs o)
  by_parts_kept w region [] o p = p
  by_parts_kept w region (b ∷ bs) o p =
      by_parts_kept w region bs (by_part_declares w region b o)
      (interactions_kept w region (senders o region b.roles) b.interactions o p)

  pub channel_kept : (w : Within) (c : Channel) (o : Outline) → P o → P (channel_declares w c o)
  channel_kept w c o p =
      let place = c.name.place in
      let o1 = lying w place o in
      let o2 = declared w c.name (channel_last c) (plain w sort.Channel) o1 in
      by_parts_kept w place c.by (roles_put place c.roles First o2)
      (roles_kept place c.roles First o2
      (kept.declares o1 w c.name (channel_last c) (plain w sort.Channel)
      (each.of_typed w sort.Channel None) (kept.lies o w place p)))

  -- interaction points and module variables
  point_kept : (w : Within) (q : Point) (o : Outline) → P o → P (point_declares w q o)
  point_kept w q o p =
      let o1 = lying w q.place o in
      let dims = dims_of o1 q.dims in
      let side = side_of o1 q in
      names_kept w q.names q.role.place (point w dims (dims_elements dims) side q.queue) o1
      (each.of_point w dims side q.queue) (kept.lies o w q.place p)

  pub points_kept : (w : Within) (qs : List Point) (o : Outline) → P o → P (points_declare w qs o)
  points_kept w [] o p = p
  points_kept w (q ∷ qs) o p = points_kept w qs (point_declares w q o) (point_kept w q o p)

  modvar_kept : (w : Within) (v : ModvarDef) (o : Outline) → P o → P (modvar_declares w v o)
  modvar_kept w v o p =
      let o1 = lying w v.place o in
      let dims = dims_of o1 v.dims in
      let h = declaration_of o1 sort.Header v.header in
      names_kept w v.names v.header.place (module_variable w dims h) o1 (each.of_variable w dims h)
      (kept.lies o w v.place p)

  pub modvars_kept : (w : Within) (vs : List ModvarDef) (o : Outline) → P o
      → P (modvars_declare w vs o)
  modvars_kept w [] o p = p
  modvars_kept w (v ∷ vs) o p = modvars_kept w vs (modvar_declares w v o) (modvar_kept w v o p)

  -- headers
  sections_kept : (w : Within) (qs : List Point) (vs : List VarDef) (o : Outline) → P o
      → P (sections_declare w qs vs o)
  sections_kept w [] vs o p = vars_kept w vs o p
  sections_kept w (q ∷ qs) vs o p =
      let o1 = vars_declare w (before vs q.place) o in
      sections_kept w qs (after vs q.place) (point_declares w q o1)
      (point_kept w q o1 (vars_kept w (before vs q.place) o p))

  pub header_kept : (w : Within) (h : Header) (o : Outline) → P o → P (header_declares w h o)
  header_kept w h o p =
      let place = h.name.place in
      let e = header w h.system (has_exports h.exports) in
      let o1 = header_named w h o in
      let v = in_region section.Parameter w place in
      sections_kept (in_region section.Header w place) h.points h.exports
      (vars_declare v h.params o1) (vars_kept v h.params o1
      (kept.declares (lying w place o) w h.name (header_last h) e
      (each.of_header w h.system (has_exports h.exports)) (kept.lies o w place p)))

  -- states, state sets and formals
  pub states_kept : (w : Within) (us : List Used) (o : Outline) → P o → P (states_declare w us o)
  states_kept w [] o p = p
  states_kept w (u ∷ us) o p =
      states_kept w us (declared w u u.place (plain w sort.State) o)
      (kept.declares o w u u.place (plain w sort.State) (each.of_typed w sort.State None) p)

  stateset_kept : (w : Within) (s : StateSet) (o : Outline) → P o → P (stateset_declares w s o)
  stateset_kept w s o p =
      let o1 = lying w s.name.place o in
      let places = states_named o1 s.states in
      kept.declares o1 w s.name (names_last s.states s.name.place) (state_set w places)
      (each.of_state_set w places) (kept.lies o w s.name.place p)

  pub statesets_kept : (w : Within) (ss : List StateSet) (o : Outline) → P o
      → P (statesets_declare w ss o)
  statesets_kept w [] o p = p
  statesets_kept w (s ∷ ss) o p = statesets_kept w ss (stateset_declares w s o)
      (stateset_kept w s o p)

  formal_kept : (w : Within) (f : Formal) (o : Outline) → P o → P (formal_declares w f o)
  formal_kept w f o p =
      let v = in_section (formal_section f) w in
      let o1 = lying w f.kind.place o in
      let o2 = formal_named v f o1 in
      kinds_kept f.names (named_type o2 f.kind) o2
      (names_kept v f.names f.kind.place (plain v sort.Variable) o1
      (each.of_typed v sort.Variable None) (kept.lies o w f.kind.place p))

  pub formals_kept : (w : Within) (fs : List Formal) (o : Outline) → P o
      → P (formals_declare w fs o)
  formals_kept w [] o p = p
  formals_kept w (f ∷ fs) o p = formals_kept w fs (formal_declares w f o) (formal_kept w f o p)
