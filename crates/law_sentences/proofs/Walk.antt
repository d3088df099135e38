-- What holds of an outline by the names that its tree declares.
use Rattle.std.specs.Prelude.{if◌then◌else◌}
use Rattle.std.proofs.Common.{ℕ, suc, Bool, true, false, List, [], ◌∷◌, Option, Some, None}
use Rattle.est_syntax.specs.declared.name.Used.{Used}
use Rattle.est_syntax.specs.declared.constant.Constant.{Constant}
use Rattle.est_syntax.specs.declared.constant.ConstDef.{ConstDef}
use Rattle.est_syntax.specs.declared.type_text.TypeText.{TypeText, Row_of-TypeText, end_of-TypeText}
use Rattle.est_syntax.specs.declared.type_text.TypeText.{more_of-TypeText, Row_of-VarDef}
use Rattle.est_syntax.specs.declared.type_text.TypeText.{end_of-VarDef, more_of-VarDef}
use Rattle.est_syntax.specs.declared.type_text.TypeText.TheVariants as text
use Rattle.est_syntax.specs.declared.type_text.TypeDef.{TypeDef}
use Rattle.est_syntax.specs.declared.type_text.VarDef.{VarDef}
use Rattle.est_syntax.specs.declared.channel.Role.{Role}
use Rattle.est_syntax.specs.declared.channel.Role.TheVariants.{First, Second}
use Rattle.est_syntax.specs.declared.channel.InteractionDef.{InteractionDef}
use Rattle.est_syntax.specs.declared.channel.ByPart.{ByPart}
use Rattle.est_syntax.specs.declared.channel.Channel.{Channel}
use Rattle.est_syntax.specs.declared.header.Point.{Point}
use Rattle.est_syntax.specs.declared.header.Header.{Header}
use Rattle.est_syntax.specs.declared.header.ModvarDef.{ModvarDef}
use Rattle.est_syntax.specs.declared.routine.Formal.{Formal}
use Rattle.est_syntax.specs.declared.statement.Statement.{Statement, Row_of-Statement}
use Rattle.est_syntax.specs.declared.statement.Statement.{end_of-Statement, more_of-Statement}
use Rattle.est_syntax.specs.declared.statement.Statement.{Row_of-Arm, end_of-Arm, more_of-Arm}
use Rattle.est_syntax.specs.declared.statement.Statement.{Held-Statement-If-2}
use Rattle.est_syntax.specs.declared.statement.Statement.TheBlock as held
use Rattle.est_syntax.specs.declared.statement.Statement.TheVariants as statement
use Rattle.est_syntax.specs.declared.transition.Clause.{Clause}
use Rattle.est_syntax.specs.declared.transition.Clause.TheVariants as clauses
use Rattle.est_syntax.specs.declared.body.StateSet.{StateSet}
use Rattle.est_syntax.specs.declared.body.Part.{Part, out-Part, Row_of-Part, end_of-Part}
use Rattle.est_syntax.specs.declared.body.Part.{more_of-Part}
use Rattle.est_syntax.specs.declared.body.Part.TheBlock as first
use Rattle.est_syntax.specs.declared.body.Part.TheVariants as part
use Rattle.est_syntax.specs.declared.body.Body.{Body', Row_of-Group, end_of-Group}
use Rattle.est_syntax.specs.declared.body.Body.{more_of-Group, Held-Body-first}
use Rattle.est_syntax.specs.declared.transition.Group.{Group', Row_of-Transition}
use Rattle.est_syntax.specs.declared.transition.Group.{end_of-Transition, more_of-Transition}
use Rattle.est_syntax.specs.declared.specification.Spec.{Spec}
use Rattle.rule_scope.specs.declared.declaration.Entry.{Entry}
use Rattle.rule_scope.specs.declared.declaration.Measured.{Measured}
use Rattle.rule_scope.specs.declared.declaration.Member.{Member}
use Rattle.rule_scope.specs.declared.declaration.Member.TheVariants as member
use Rattle.rule_scope.specs.declared.declaration.Section.TheVariants as section
use Rattle.rule_scope.specs.declared.declaration.Senders.{Senders}
use Rattle.rule_scope.specs.declared.declaration.Sort.TheVariants as sort
use Rattle.rule_scope.specs.declared.declaration.Within.{Within}
use Rattle.rule_scope.specs.Outline.{Outline}
use Rattle.rule_scope.specs.Declaring.{empty, declared, put, amended, with_kind, with_closed}
use Rattle.rule_scope.specs.Declaring.{with_header, lying}
use Rattle.rule_scope.specs.Uses.{declaration_of}
use Rattle.rule_kinds.specs.Constants.{constant_value, constant_place, constant_last}
use Rattle.rule_kinds.specs.TypeTexts.{text_type, text_place, named_type, enumeration}
use Rattle.rule_kinds.specs.Dims.{dims_of, dims_elements}
use Rattle.rule_declares.specs.declared.context.ClauseKind.TheVariants as kind
use Rattle.rule_declares.specs.declared.context.Given.{Given}
use Rattle.rule_declares.specs.Contexts.{dropped, given, under}
use Rattle.rule_declares.specs.Entries.{plain, constant, numbered, point, module_variable, header}
use Rattle.rule_declares.specs.Entries.{state_set, outermost, inner, in_region, in_section}
use Rattle.rule_declares.specs.Lasts.{names_last, text_last, channel_last, header_last}
use Rattle.rule_declares.specs.Declares.{names_declare, constdef_declares, consts_declare}
use Rattle.rule_declares.specs.Declares.{numbers_declare, kinds_given, enumeration_declares}
use Rattle.rule_declares.specs.Declares.{names_put, text_declares, row_declares, row_fields_declare}
use Rattle.rule_declares.specs.Declares.{typedef_named, typedef_declares, types_declare}
use Rattle.rule_declares.specs.Declares.{vardef_named, vardef_declares, vars_declare, roles_put}
use Rattle.rule_declares.specs.Declares.{interaction_declares, interactions_declare, senders}
use Rattle.rule_declares.specs.Declares.{by_part_declares, by_parts_declare, channel_declares}
use Rattle.rule_declares.specs.Declares.{side_of, point_declares, points_declare, modvar_declares}
use Rattle.rule_declares.specs.Declares.{modvars_declare, stands_before, before, after}
use Rattle.rule_declares.specs.Declares.{sections_declare, has_exports, header_named}
use Rattle.rule_declares.specs.Declares.{header_declares, states_declare, states_named}
use Rattle.rule_declares.specs.Declares.{stateset_declares}
use Rattle.rule_declares.specs.Declares.{statesets_declare, formal_section, formal_named}
use Rattle.rule_declares.specs.Declares.{formal_declares, formals_declare}
use Rattle.rule_declares.specs.Bodies.{Clausal, statement_place, expr_place, all_by, over_header}
use Rattle.rule_declares.specs.Bodies.{all_named, arm_lying, within_declares, row_statements}
use Rattle.rule_declares.specs.Bodies.{held_declares, row_arms, statement_declares}
use Rattle.rule_declares.specs.Bodies.{statements_declare, clause_declares, clauses_declare}
use Rattle.rule_declares.specs.Bodies.{body_named, body_header, header_given, inside, routine_sort}
use Rattle.rule_declares.specs.Bodies.{routine_named, result_given, head_declares, to_lying}
use Rattle.rule_declares.specs.Bodies.{closed_by, part_declares, row_parts, first_declares}
use Rattle.rule_declares.specs.Bodies.{row_groups, row_transitions, parts_declare, outline_of}
use Rattle.law_places.specs.Said.{Each}

-- What holds of each name that a tree declares, with the last place where it is not yet in force,
-- and of each name of its channels and records.
module _ (D : Used → ℕ → Type 0) (M : Used → Type 0) where
  abbrev pub Named : ℕ → Used → Type 0
  Named last u = D u last

  abbrev pub IsMember : Used → Type 0
  IsMember u = M u

  abbrev pub OfConstDef : ConstDef → Type 0
  OfConstDef c = Named (constant_last c.value) c.name

  abbrev mutual
    pub OfText : TypeText → Type 0
    OfText (text.Named u) = Unit {0}
    OfText (text.Range low high) = Unit {0}
    OfText (text.Names names place) = Each (Named (names_last names place)) names
    OfText (text.Array' a index b of place) = OfRow index × OfRow of
    OfText (text.Fields' a defs place) = OfFields defs
    OfText (text.Set' a of place) = OfRow of

    pub OfRow : {n : _} → Row_of-TypeText n → Type 0
    OfRow end_of-TypeText = Unit {0}
    OfRow (more_of-TypeText t rest) = OfText t × OfRow rest

    pub OfFields : {n : _} → Row_of-VarDef n → Type 0
    OfFields end_of-VarDef = Unit {0}
    OfFields (more_of-VarDef names t rest) = Each IsMember names × OfText t × OfFields rest

  abbrev pub OfTypeDef : TypeDef → Type 0
  OfTypeDef t = Named (text_last t.text) t.name × OfText t.text

  abbrev pub OfVarDef : VarDef → Type 0
  OfVarDef v = Each (Named (text_last v.text)) v.names × OfText v.text

  abbrev pub OfInteraction : InteractionDef → Type 0
  OfInteraction i = IsMember i.name × Each OfVarDef i.params

  abbrev pub OfByPart : ByPart → Type 0
  OfByPart b = Each OfInteraction b.interactions

  abbrev pub OfChannel : Channel → Type 0
  OfChannel c = Named (channel_last c) c.name × Each IsMember c.roles × Each OfByPart c.by

  abbrev pub OfPoint : Point → Type 0
  OfPoint p = Each (Named p.role.place) p.names

  abbrev pub OfModvar : ModvarDef → Type 0
  OfModvar m = Each (Named m.header.place) m.names

  abbrev pub OfHeader : Header → Type 0
  OfHeader h = Named (header_last h) h.name × Each OfVarDef h.params × Each OfPoint h.points
      × Each OfVarDef h.exports

  abbrev pub OfStateSet : StateSet → Type 0
  OfStateSet s = Named (names_last s.states s.name.place) s.name

  abbrev pub OfState : Used → Type 0
  OfState u = Named u.place u

  abbrev pub OfFormal : Formal → Type 0
  OfFormal f = Each (Named f.kind.place) f.names

  abbrev mutual
    pub OfStatement : Statement → Type 0
    OfStatement (statement.Compound' a turn place) = OfStatements turn
    OfStatement (statement.If' condition a one second place) = OfStatements one × OfSecond second
    OfStatement (statement.Case' value a arms place) = OfArms arms
    OfStatement (statement.While' condition a turn place) = OfStatements turn
    OfStatement (statement.Repeat' a turn until place) = OfStatements turn
    OfStatement (statement.For' name from down to a turn place) = OfStatements turn
    OfStatement (statement.All' name over a turn place) =
        Named (text_last over) name × OfStatements turn
    OfStatement _ = Unit {0}

    pub OfStatements : {n : _} → Row_of-Statement n → Type 0
    OfStatements end_of-Statement = Unit {0}
    OfStatements (more_of-Statement s rest) = OfStatement s × OfStatements rest

    pub OfSecond : Held-Statement-If-2 → Type 0
    OfSecond held.None' = Unit {0}
    OfSecond (held.Some' a second) = OfStatements second

    pub OfArms : {n : _} → Row_of-Arm n → Type 0
    OfArms end_of-Arm = Unit {0}
    OfArms (more_of-Arm constants s rest) = OfStatement s × OfArms rest

  abbrev pub OfClause : Clause → Type 0
  OfClause (clauses.Any names place) = Each OfVarDef names
  OfClause _ = Unit {0}

  abbrev mutual
    pub OfPart : Part → Type 0
    OfPart (part.Consts cs) = Each OfConstDef cs
    OfPart (part.Types ts) = Each OfTypeDef ts
    OfPart (part.Channel c) = OfChannel c
    OfPart (part.Header h) = OfHeader h
    OfPart (part.Body (Body' name header a parts f b groups)) =
        Named name.place name × OfParts parts × OfFirst f × OfGroups groups
    OfPart (part.Modvars ms) = Each OfModvar ms
    OfPart (part.Points ps) = Each OfPoint ps
    OfPart (part.Vars vs) = Each OfVarDef vs
    OfPart (part.States us) = Each OfState us
    OfPart (part.StateSets ss) = Each OfStateSet ss
    OfPart (part.Routine' name formals result a parts statements place) =
        Named name.place name × Each OfFormal formals × OfParts parts
        × Each OfStatement statements

    pub OfParts : {n : _} → Row_of-Part n → Type 0
    OfParts end_of-Part = Unit {0}
    OfParts (more_of-Part p rest) = OfPart p × OfParts rest

    pub OfFirst : Held-Body-first → Type 0
    OfFirst first.None' = Unit {0}
    OfFirst (first.Some' to a parts statements place) =
        OfParts parts × Each OfStatement statements

    pub OfGroups : {n : _} → Row_of-Group n → Type 0
    OfGroups end_of-Group = Unit {0}
    OfGroups (more_of-Group (Group' a transitions) rest) =
        OfTransitions transitions × OfGroups rest

    pub OfTransitions : {n : _} → Row_of-Transition n → Type 0
    OfTransitions end_of-Transition = Unit {0}
    OfTransitions (more_of-Transition cs name a parts statements place rest) =
        Each OfClause cs × OfParts parts × Each OfStatement statements × OfTransitions rest

-- What a property of outlines has to bear: it is kept by each declaration of which that holds.
pub record IsKeptBy (D : Used → ℕ → Type 0) (M : Used → Type 0) (P : Outline → Type 0)
    : Type 0 where
  pub begins : P empty
  pub declares : (o : Outline) (w : Within) (u : Used) (last : ℕ) (e : Entry) → D u last
      → P o → P (declared w u last e o)
  pub puts : (o : Outline) (region : ℕ) (u : Used) (m : Member) → M u → P o
      → P (put region u m o)
  pub amends : (o : Outline) (f : Entry → Entry) (place : ℕ) → P o → P (amended f place o)
  pub lies : (o : Outline) (w : Within) (place : ℕ) → P o → P (lying w place o)

-- so it holds of what each part declares
module _ (D : Used → ℕ → Type 0) (M : Used → Type 0) (P : Outline → Type 0)
    (kept : IsKeptBy D M P) where
  names_kept : (w : Within) (us : List Used) (last : ℕ) (e : Entry) (o : Outline)
      → Each (Named D M last) us → P o → P (names_declare w us last e o)
  names_kept w [] last e o q p = p
  names_kept w (u ∷ us) last e o q p =
      names_kept w us last e (declared w u last e o) q.1 (kept.declares o w u last e q.0 p)

  -- constants
  consts_kept : (w : Within) (cs : List ConstDef) (o : Outline) → Each (OfConstDef D M) cs → P o
      → P (consts_declare w cs o)
  consts_kept w [] o q p = p
  consts_kept w (c ∷ cs) o q p =
      let o1 = lying w c.name.place o in
      let e = constant w (constant_value o1 c.value) in
      consts_kept w cs (constdef_declares w c o) q.1
      (kept.declares o1 w c.name (constant_last c.value) e q.0 (kept.lies o w c.name.place p))

  -- types
  numbers_kept : (w : Within) (us : List Used) (last i : ℕ) (o : Outline)
      → Each (Named D M last) us → P o → P (numbers_declare w us last i o)
  numbers_kept w [] last i o q p = p
  numbers_kept w (u ∷ us) last i o q p =
      numbers_kept w us last (suc i) (declared w u last (numbered w i) o) q.1
      (kept.declares o w u last (numbered w i) q.0 p)

  kinds_kept : (us : List Used) (k : Option Measured) (o : Outline) → P o → P (kinds_given us k o)
  kinds_kept [] k o p = p
  kinds_kept (u ∷ us) k o p =
      kinds_kept us k (amended (with_kind k) u.place o) (kept.amends o (with_kind k) u.place p)

  enumeration_kept : (w : Within) (us : List Used) (place : ℕ) (o : Outline)
      → Each (Named D M (names_last us place)) us → P o → P (enumeration_declares w us place o)
  enumeration_kept w us place o q p =
      let o1 = numbers_declare w us (names_last us place) 0 o in
      kinds_kept us (enumeration o1 us place) o1
      (numbers_kept w us (names_last us place) 0 o q p)

  put_kept : (region : ℕ) (us : List Used) (m : Member) (o : Outline) → Each (IsMember D M) us
      → P o → P (names_put region us m o)
  put_kept region [] m o q p = p
  put_kept region (u ∷ us) m o q p =
      put_kept region us m (put region u m o) q.1 (kept.puts o region u m q.0 p)

  mutual
    text_kept : (w : Within) (t : TypeText) (o : Outline) → OfText D M t → P o
        → P (text_declares w t o)
    text_kept w (text.Named u) o q p = p
    text_kept w (text.Range low high) o q p = p
    text_kept w (text.Names names place) o q p = enumeration_kept w names place o q p
    text_kept w (text.Array' a index b of place) o q p =
        row_kept w of (row_declares w index o) q.1 (row_kept w index o q.0 p)
    text_kept w (text.Fields' a defs place) o q p = row_fields_kept w place defs o q p
    text_kept w (text.Set' a of place) o q p = row_kept w of o q p

    row_kept : (w : Within) {n : _} (row : Row_of-TypeText n) (o : Outline) → OfRow D M row → P o
        → P (row_declares w row o)
    row_kept w end_of-TypeText o q p = p
    row_kept w (more_of-TypeText t rest) o q p =
        row_kept w rest (text_declares w t o) q.1 (text_kept w t o q.0 p)

    row_fields_kept : (w : Within) (region : ℕ) {n : _} (row : Row_of-VarDef n) (o : Outline)
        → OfFields D M row → P o → P (row_fields_declare w region row o)
    row_fields_kept w region end_of-VarDef o q p = p
    row_fields_kept w region (more_of-VarDef names t rest) o q p =
        let o1 = names_put region names member.Field o in
        row_fields_kept w region rest (text_declares w t o1) q.2
        (text_kept w t o1 q.1 (put_kept region names member.Field o q.0 p))

  types_kept : (w : Within) (ts : List TypeDef) (o : Outline) → Each (OfTypeDef D M) ts → P o
      → P (types_declare w ts o)
  types_kept w [] o q p = p
  types_kept w (t ∷ ts) o q p =
      let o1 = lying w t.name.place o in
      let o2 = typedef_named w t o1 in
      let o3 = text_declares w t.text o2 in
      types_kept w ts (typedef_declares w t o) q.1
      (kept.amends o3 (with_kind (text_type o3 t.text)) t.name.place
      (text_kept w t.text o2 q.0.1
      (kept.declares o1 w t.name (text_last t.text) (plain w sort.TypeName) q.0.0
      (kept.lies o w t.name.place p))))

  -- variables
  vars_kept : (w : Within) (vs : List VarDef) (o : Outline) → Each (OfVarDef D M) vs → P o
      → P (vars_declare w vs o)
  vars_kept w [] o q p = p
  vars_kept w (v ∷ vs) o q p =
      let o1 = lying w (text_place v.text) o in
      let o2 = vardef_named w v o1 in
      let o3 = text_declares w v.text o2 in
      vars_kept w vs (vardef_declares w v o) q.1
      (kinds_kept v.names (text_type o3 v.text) o3
      (text_kept w v.text o2 q.0.1
      (names_kept w v.names (text_last v.text) (plain w sort.Variable) o1 q.0.0
      (kept.lies o w (text_place v.text) p))))

  -- channels
  roles_kept : (region : ℕ) (us : List Used) (r : Role) (o : Outline) → Each (IsMember D M) us
      → P o → P (roles_put region us r o)
  roles_kept region [] r o q p = p
  roles_kept region (u ∷ us) r o q p =
      roles_kept region us Second (put region u (member.Role r) o) q.1
      (kept.puts o region u (member.Role r) q.0 p)

  interactions_kept : (w : Within) (region : ℕ) (s : Senders) (is : List InteractionDef)
      (o : Outline) → Each (OfInteraction D M) is → P o
      → P (interactions_declare w region s is o)
  interactions_kept w region s [] o q p = p
  interactions_kept w region s (i ∷ is) o q p =
      interactions_kept w region s is (interaction_declares w region s i o) q.1
      (vars_kept (in_region section.Interaction w i.name.place) i.params
      (put region i.name (member.Interaction s) o) q.0.1
      (kept.puts o region i.name (member.Interaction s) q.0.0 p))

  by_parts_kept : (w : Within) (region : ℕ) (bs : List ByPart) (o : Outline)
      → Each (OfByPart D M) bs → P o → P (by_parts_declare w region bs o)
  by_parts_kept w region [] o q p = p
  by_parts_kept w region (b ∷ bs) o q p =
      by_parts_kept w region bs (by_part_declares w region b o) q.1
      (interactions_kept w region (senders o region b.roles) b.interactions o q.0 p)

  channel_kept : (w : Within) (c : Channel) (o : Outline) → OfChannel D M c → P o
      → P (channel_declares w c o)
  channel_kept w c o q p =
      let place = c.name.place in
      let o1 = lying w place o in
      let o2 = declared w c.name (channel_last c) (plain w sort.Channel) o1 in
      by_parts_kept w place c.by (roles_put place c.roles First o2) q.2
      (roles_kept place c.roles First o2 q.1
      (kept.declares o1 w c.name (channel_last c) (plain w sort.Channel) q.0
      (kept.lies o w place p)))

  -- interaction points and module variables
  point_kept : (w : Within) (x : Point) (o : Outline) → OfPoint D M x → P o
      → P (point_declares w x o)
  point_kept w x o q p =
      let o1 = lying w x.place o in
      let dims = dims_of o1 x.dims in
      names_kept w x.names x.role.place (point w dims (dims_elements dims) (side_of o1 x) x.queue)
      o1 q (kept.lies o w x.place p)

  points_kept : (w : Within) (ps : List Point) (o : Outline) → Each (OfPoint D M) ps → P o
      → P (points_declare w ps o)
  points_kept w [] o q p = p
  points_kept w (x ∷ xs) o q p =
      points_kept w xs (point_declares w x o) q.1 (point_kept w x o q.0 p)

  modvars_kept : (w : Within) (ms : List ModvarDef) (o : Outline) → Each (OfModvar D M) ms → P o
      → P (modvars_declare w ms o)
  modvars_kept w [] o q p = p
  modvars_kept w (m ∷ ms) o q p =
      let o1 = lying w m.place o in
      let h = declaration_of o1 sort.Header m.header in
      modvars_kept w ms (modvar_declares w m o) q.1
      (names_kept w m.names m.header.place (module_variable w (dims_of o1 m.dims) h) o1 q.0
      (kept.lies o w m.place p))

  -- headers, whose exports stand before a point or after it
  before_kept : (vs : List VarDef) (place : ℕ) → Each (OfVarDef D M) vs
      → Each (OfVarDef D M) (before vs place)
  before_kept [] place q = tt
  before_kept (v ∷ vs) place q = by (stands_before v place) (before_kept vs place q.1)
    where
      by : (b : Bool) → Each (OfVarDef D M) (before vs place)
          → Each (OfVarDef D M) (if b then v ∷ before vs place else [])
      by true rest = (q.0, rest)
      by false rest = tt

  after_kept : (vs : List VarDef) (place : ℕ) → Each (OfVarDef D M) vs
      → Each (OfVarDef D M) (after vs place)
  after_kept [] place q = tt
  after_kept (v ∷ vs) place q = by (stands_before v place) (after_kept vs place q.1)
    where
      by : (b : Bool) → Each (OfVarDef D M) (after vs place)
          → Each (OfVarDef D M) (if b then after vs place else v ∷ vs)
      by true rest = rest
      by false rest = q

  sections_kept : (w : Within) (ps : List Point) (vs : List VarDef) (o : Outline)
      → Each (OfPoint D M) ps → Each (OfVarDef D M) vs → P o → P (sections_declare w ps vs o)
  sections_kept w [] vs o q r p = vars_kept w vs o r p
  sections_kept w (x ∷ xs) vs o q r p =
      let o1 = vars_declare w (before vs x.place) o in
      sections_kept w xs (after vs x.place) (point_declares w x o1) q.1 (after_kept vs x.place r)
      (point_kept w x o1 q.0
      (vars_kept w (before vs x.place) o (before_kept vs x.place r) p))

  header_kept : (w : Within) (h : Header) (o : Outline) → OfHeader D M h → P o
      → P (header_declares w h o)
  header_kept w h o q p =
      let o1 = lying w h.name.place o in
      let o2 = header_named w h o in
      sections_kept (in_region section.Header w h.name.place) h.points h.exports
      (vars_declare (in_region section.Parameter w h.name.place) h.params o2) q.2 q.3
      (vars_kept (in_region section.Parameter w h.name.place) h.params o2 q.1
      (kept.declares o1 w h.name (header_last h) (header w h.system (has_exports h.exports)) q.0
      (kept.lies o w h.name.place p)))

  -- states and state sets
  states_kept : (w : Within) (us : List Used) (o : Outline) → Each (OfState D M) us → P o
      → P (states_declare w us o)
  states_kept w [] o q p = p
  states_kept w (u ∷ us) o q p =
      let e = plain w sort.State in
      states_kept w us (declared w u u.place e o) q.1 (kept.declares o w u u.place e q.0 p)

  statesets_kept : (w : Within) (ss : List StateSet) (o : Outline) → Each (OfStateSet D M) ss
      → P o → P (statesets_declare w ss o)
  statesets_kept w [] o q p = p
  statesets_kept w (s ∷ ss) o q p =
      let o1 = lying w s.name.place o in
      statesets_kept w ss (stateset_declares w s o) q.1
      (kept.declares o1 w s.name (names_last s.states s.name.place)
      (state_set w (states_named o1 s.states)) q.0 (kept.lies o w s.name.place p))

  -- formals
  formals_kept : (w : Within) (fs : List Formal) (o : Outline) → Each (OfFormal D M) fs → P o
      → P (formals_declare w fs o)
  formals_kept w [] o q p = p
  formals_kept w (f ∷ fs) o q p =
      let v = in_section (formal_section f) w in
      let o1 = lying w f.kind.place o in
      let o2 = formal_named v f o1 in
      formals_kept w fs (formal_declares w f o) q.1
      (kinds_kept f.names (named_type o2 f.kind) o2
      (names_kept v f.names f.kind.place (plain v sort.Variable) o1 q.0
      (kept.lies o w f.kind.place p)))

  -- statements
  arm_kept : (w : Within) (cs : List Constant) (o : Outline) → P o → P (arm_lying w cs o)
  arm_kept w [] o p = p
  arm_kept w (c ∷ cs) o p = kept.lies o w (constant_place c) p

  mutual
    within_kept : (w : Within) (s : Statement) (o : Outline) → OfStatement D M s → P o
        → P (within_declares w s o)
    within_kept w (statement.Compound' a turn place) o q p = statements_row w turn o q p
    within_kept w (statement.If' condition a one second place) o q p =
        held_kept w second (row_statements w one o) q.1 (statements_row w one o q.0 p)
    within_kept w (statement.Case' value a arms place) o q p = arms_row w arms o q p
    within_kept w (statement.While' condition a turn place) o q p = statements_row w turn o q p
    within_kept w (statement.Repeat' a turn until place) o q p =
        kept.lies (row_statements w turn o) w (expr_place until) (statements_row w turn o q p)
    within_kept w (statement.For' name from down to a turn place) o q p =
        statements_row w turn o q p
    within_kept w (statement.All' name over a turn place) o q p =
        let v = inner w place in
        let x = in_section section.All v in
        let e = all_by x o over (over_header o over) in
        statements_row v turn (all_named v name over o) q.1
        (kept.declares o v name (text_last over) e q.0 p)
    within_kept w _ o q p = p

    statements_row : (w : Within) {n : _} (row : Row_of-Statement n) (o : Outline)
        → OfStatements D M row → P o → P (row_statements w row o)
    statements_row w end_of-Statement o q p = p
    statements_row w (more_of-Statement s rest) o q p =
        let o1 = lying w (statement_place s) o in
        statements_row w rest (within_declares w s o1) q.1
        (within_kept w s o1 q.0 (kept.lies o w (statement_place s) p))

    held_kept : (w : Within) (s : Held-Statement-If-2) (o : Outline) → OfSecond D M s → P o
        → P (held_declares w s o)
    held_kept w held.None' o q p = p
    held_kept w (held.Some' a second) o q p = statements_row w second o q p

    arms_row : (w : Within) {n : _} (row : Row_of-Arm n) (o : Outline) → OfArms D M row → P o
        → P (row_arms w row o)
    arms_row w end_of-Arm o q p = p
    arms_row w (more_of-Arm constants s rest) o q p =
        let o1 = arm_lying w constants o in
        let o2 = lying w (statement_place s) o1 in
        arms_row w rest (within_declares w s o2) q.1
        (within_kept w s o2 q.0 (kept.lies o1 w (statement_place s) (arm_kept w constants o p)))

  statements_kept : (w : Within) (ss : List Statement) (o : Outline) → Each (OfStatement D M) ss
      → P o → P (statements_declare w ss o)
  statements_kept w [] o q p = p
  statements_kept w (s ∷ ss) o q p =
      statements_kept w ss (statement_declares w s o) q.1
      (within_kept w s (lying w (statement_place s) o) q.0 (kept.lies o w (statement_place s) p))

  -- clauses
  clause_kept : (w : Within) (c : Clause) (gs : List Given) (o : Outline) → OfClause D M c → P o
      → P (clause_declares w c (gs, o)).1
  clause_kept w (clauses.From states place) gs o q p =
      kept.lies o (under w (dropped kind.From gs)) place p
  clause_kept w (clauses.To state place) gs o q p =
      kept.lies o (under w (dropped kind.To gs)) place p
  clause_kept w (clauses.When at signal place) gs o q p =
      kept.lies o (under w (dropped kind.When gs)) place p
  clause_kept w (clauses.Provided condition place) gs o q p =
      kept.lies o (under w (dropped kind.Provided gs)) place p
  clause_kept w (clauses.Otherwise place) gs o q p =
      kept.lies o (under w (dropped kind.Provided gs)) place p
  clause_kept w (clauses.Any names place) gs o q p =
      let v = under w (given kind.Any (Some place) (dropped kind.Any gs)) in
      vars_kept (in_region section.Any v place) names (lying v place o) q (kept.lies o v place p)
  clause_kept w (clauses.Priority value place) gs o q p =
      kept.lies o (under w (dropped kind.Priority gs)) place p
  clause_kept w (clauses.Delay least most place) gs o q p =
      kept.lies o (under w (dropped kind.Delay gs)) place p

  clauses_kept : (w : Within) (cs : List Clause) (s : Clausal) → Each (OfClause D M) cs → P s.1
      → P (clauses_declare w cs s).1
  clauses_kept w [] s q p = p
  clauses_kept w (c ∷ cs) s q p =
      clauses_kept w cs (clause_declares w c s) q.1 (clause_kept w c s.0 s.1 q.0 p)

  -- bodies and routines
  body_kept : (w : Within) (name head : Used) (o : Outline) → Named D M name.place name → P o
      → P (header_given name head (body_named w name o))
  body_kept w name head o q p =
      let o1 = lying w name.place o in
      let o2 = body_named w name o in
      kept.amends o2 (with_header (body_header o2 head)) name.place
      (kept.declares o1 w name name.place (plain w sort.Body) q (kept.lies o w name.place p))

  result_kept : (w : Within) (name : Used) (result : Option Used) (o : Outline) → P o
      → P (result_given w name result o)
  result_kept w name None o p = p
  result_kept w name (Some u) o p =
      let o1 = lying w u.place o in
      kept.amends o1 (with_kind (named_type o1 u)) name.place (kept.lies o w u.place p)

  head_kept : (v w : Within) (name : Used) (formals : List Formal) (result : Option Used)
      (o : Outline) → Named D M name.place name → Each (OfFormal D M) formals → P o
      → P (head_declares v name formals result (routine_named w name result o))
  head_kept v w name formals result o q r p =
      let o1 = routine_named w name result o in
      let e = plain w (routine_sort result) in
      result_kept v name result (formals_declare v formals o1)
      (formals_kept v formals o1 r
      (kept.declares (lying w name.place o) w name name.place e q (kept.lies o w name.place p)))

  to_kept : (w : Within) (to : Option Used) (o : Outline) → P o → P (to_lying w to o)
  to_kept w None o p = p
  to_kept w (Some u) o p = kept.lies o w u.place p

  closed_kept : (x : Part) (o : Outline) → P o → P (closed_by x o)
  unfolding out-Part denote.Hole.Carrier.out
  closed_kept (part.Routine' name formals result a parts statements place) o p =
      kept.amends o (with_closed _) name.place p
  closed_kept _ o p = p

  mutual
    part_kept : (w : Within) (x : Part) (o : Outline) → OfPart D M x → P o
        → P (part_declares w x o)
    part_kept w (part.Consts cs) o q p = consts_kept w cs o q p
    part_kept w (part.Types ts) o q p = types_kept w ts o q p
    part_kept w (part.Channel c) o q p = channel_kept w c o q p
    part_kept w (part.Header h) o q p = header_kept w h o q p
    part_kept w (part.Body (Body' name head a parts f b groups)) o q p =
        let o1 = body_named w name o in
        let v = inside w name head o1 in
        let o2 = header_given name head o1 in
        let o3 = row_parts v parts o2 in
        groups_row v groups (first_declares v f o3) q.3
        (first_kept v f o3 q.2 (parts_row v parts o2 q.1 (body_kept w name head o q.0 p)))
    part_kept w (part.Modvars ms) o q p = modvars_kept w ms o q p
    part_kept w (part.Points ps) o q p = points_kept w ps o q p
    part_kept w (part.Vars vs) o q p = vars_kept w vs o q p
    part_kept w (part.States us) o q p = states_kept w us o q p
    part_kept w (part.StateSets ss) o q p = statesets_kept w ss o q p
    part_kept w (part.Routine' name formals result a parts statements place) o q p =
        let v = inner w name.place in
        let o1 = head_declares v name formals result (routine_named w name result o) in
        statements_kept v statements (row_parts v parts o1) q.3
        (parts_row v parts o1 q.2 (head_kept v w name formals result o q.0 q.1 p))

    parts_row : (w : Within) {n : _} (row : Row_of-Part n) (o : Outline) → OfParts D M row → P o
        → P (row_parts w row o)
    parts_row w end_of-Part o q p = p
    parts_row w (more_of-Part x rest) o q p =
        let o1 = part_declares w x o in
        parts_row w rest (closed_by x o1) q.1 (closed_kept x o1 (part_kept w x o q.0 p))

    first_kept : (w : Within) (f : Held-Body-first) (o : Outline) → OfFirst D M f → P o
        → P (first_declares w f o)
    first_kept w first.None' o q p = p
    first_kept w (first.Some' to a parts statements place) o q p =
        let v = inner w place in
        let o1 = to_lying w to o in
        statements_kept v statements (row_parts v parts o1) q.1
        (parts_row v parts o1 q.0 (to_kept w to o p))

    groups_row : (w : Within) {n : _} (row : Row_of-Group n) (o : Outline) → OfGroups D M row
        → P o → P (row_groups w row o)
    groups_row w end_of-Group o q p = p
    groups_row w (more_of-Group (Group' a transitions) rest) o q p =
        groups_row w rest (row_transitions w transitions ([], o)).1 q.1
        (transitions_row w transitions ([], o) q.0 p)

    transitions_row : (w : Within) {n : _} (row : Row_of-Transition n) (s : Clausal)
        → OfTransitions D M row → P s.1 → P (row_transitions w row s).1
    transitions_row w end_of-Transition s q p = p
    transitions_row w (more_of-Transition cs name a parts statements place rest) s q p =
        let s1 = clauses_declare w cs s in
        let v = inner (under w s1.0) place in
        let o1 = row_parts v parts s1.1 in
        transitions_row w rest (s1.0, statements_declare v statements o1) q.3
        (statements_kept v statements o1 q.2
        (parts_row v parts s1.1 q.1 (clauses_kept w cs s q.0 p)))

  parts_kept : (w : Within) (xs : List Part) (o : Outline) → Each (OfPart D M) xs → P o
      → P (parts_declare w xs o)
  parts_kept w [] o q p = p
  parts_kept w (x ∷ xs) o q p =
      let o1 = part_declares w x o in
      parts_kept w xs (closed_by x o1) q.1 (closed_kept x o1 (part_kept w x o q.0 p))

  -- and of the outline of the whole tree
  pub walked : (s : Spec) → Each (OfPart D M) s.parts → P (outline_of s)
  walked s q =
      kept.lies (parts_declare outermost s.parts empty) outermost (statement_place s.first)
      (parts_kept outermost s.parts empty q kept.begins)
