-- What the parts of a specification declare keeps enumerations known by their places.
use Rattle.std.proofs.Common.{◌≡◌, refl, sym, subst, arith, ℕ, suc, ◌≤◌, Bool, true, false}
use Rattle.std.proofs.Common.{List, [], ◌∷◌, Option, Some, None}
use Rattle.std.proofs.Common.{◌∙◌, if◌then◌else◌}
use Rattle.std.proofs.lemmas.Option.{none-some, same_Some}
use Rattle.est_syntax.specs.declared.body.Body.{Body', Row_of-Group, end_of-Group, more_of-Group}
use Rattle.est_syntax.specs.declared.body.Body.{Held-Body-first}
use Rattle.est_syntax.specs.declared.body.Part.{Part, out-Part, Row_of-Part, end_of-Part}
use Rattle.est_syntax.specs.declared.body.Part.{more_of-Part}
use Rattle.est_syntax.specs.declared.body.Part.TheBlock as first
use Rattle.est_syntax.specs.declared.body.Part.TheVariants as part
use Rattle.est_syntax.specs.declared.body.StateSet.{StateSet}
use Rattle.est_syntax.specs.declared.channel.ByPart.{ByPart}
use Rattle.est_syntax.specs.declared.channel.Channel.{Channel}
use Rattle.est_syntax.specs.declared.channel.InteractionDef.{InteractionDef}
use Rattle.est_syntax.specs.declared.channel.Role.{Role}
use Rattle.est_syntax.specs.declared.channel.Role.TheVariants.{First, Second}
use Rattle.est_syntax.specs.declared.constant.ConstDef.{ConstDef}
use Rattle.est_syntax.specs.declared.constant.Constant.{Constant}
use Rattle.est_syntax.specs.declared.header.Header.{Header}
use Rattle.est_syntax.specs.declared.header.ModvarDef.{ModvarDef}
use Rattle.est_syntax.specs.declared.header.Point.{Point}
use Rattle.est_syntax.specs.declared.name.Used.{Used}
use Rattle.est_syntax.specs.declared.routine.Formal.{Formal}
use Rattle.est_syntax.specs.declared.specification.Spec.{Spec}
use Rattle.est_syntax.specs.declared.statement.Statement.{Statement, Row_of-Statement}
use Rattle.est_syntax.specs.declared.statement.Statement.{end_of-Statement, more_of-Statement}
use Rattle.est_syntax.specs.declared.statement.Statement.{Row_of-Arm, end_of-Arm, more_of-Arm}
use Rattle.est_syntax.specs.declared.statement.Statement.{Held-Statement-If-2}
use Rattle.est_syntax.specs.declared.statement.Statement.TheBlock as held
use Rattle.est_syntax.specs.declared.statement.Statement.TheVariants as statement
use Rattle.est_syntax.specs.declared.transition.Clause.{Clause}
use Rattle.est_syntax.specs.declared.transition.Clause.TheVariants as clauses
use Rattle.est_syntax.specs.declared.transition.Group.{Group', Row_of-Transition}
use Rattle.est_syntax.specs.declared.transition.Group.{end_of-Transition, more_of-Transition}
use Rattle.est_syntax.specs.declared.type_text.TypeDef.{TypeDef}
use Rattle.est_syntax.specs.declared.type_text.TypeText.{TypeText}
use Rattle.est_syntax.specs.declared.type_text.VarDef.{VarDef}
use Rattle.rule_scope.specs.Declaring.{empty, amended, with_kind, with_closed, with_header}
use Rattle.rule_scope.specs.Declaring.{declared}
use Rattle.rule_scope.specs.Declaring.{lying, put}
use Rattle.rule_scope.specs.Outline.{Outline}
use Rattle.rule_scope.specs.Uses.{declaration_of}
use Rattle.rule_scope.specs.declared.declaration.Entry.{Entry}
use Rattle.rule_scope.specs.declared.declaration.Measured.{Measured}
use Rattle.rule_scope.specs.declared.declaration.Member.{Member}
use Rattle.rule_scope.specs.declared.declaration.Member.TheVariants as member
use Rattle.rule_scope.specs.declared.declaration.Section.TheVariants as section
use Rattle.rule_scope.specs.declared.declaration.Senders.{Senders}
use Rattle.rule_scope.specs.declared.declaration.Sort.TheVariants as sort
use Rattle.rule_scope.specs.declared.declaration.Within.{Within}
use Rattle.rule_kinds.specs.Constants.{constant_value, constant_place, constant_last}
use Rattle.rule_kinds.specs.Dims.{dims_of, dims_elements}
use Rattle.rule_kinds.specs.TypeTexts.{text_type, text_place, named_type, scalar}
use Rattle.rule_kinds.specs.declared.value.Valued.{Valued}
use Rattle.rule_declares.specs.Bodies.{Clausal, statement_place, all_by, over_header, all_named}
use Rattle.rule_declares.specs.Bodies.{expr_place, arm_lying, within_declares, row_statements}
use Rattle.rule_declares.specs.Bodies.{held_declares, row_arms, statement_declares}
use Rattle.rule_declares.specs.Bodies.{statements_declare}
use Rattle.rule_declares.specs.Bodies.{clause_declares, clauses_declare, body_named, body_header}
use Rattle.rule_declares.specs.Bodies.{header_given, inside, routine_sort, routine_named}
use Rattle.rule_declares.specs.Bodies.{result_given}
use Rattle.rule_declares.specs.Bodies.{to_lying, closed_by, part_declares, row_parts}
use Rattle.rule_declares.specs.Bodies.{first_declares, row_groups, row_transitions, parts_declare}
use Rattle.rule_declares.specs.Bodies.{outline_of}
use Rattle.rule_declares.specs.Contexts.{under, dropped, given}
use Rattle.rule_declares.specs.Declares.{names_declare, kinds_given, constdef_declares}
use Rattle.rule_declares.specs.Declares.{consts_declare}
use Rattle.rule_declares.specs.Declares.{text_declares, typedef_declares, types_declare}
use Rattle.rule_declares.specs.Declares.{vardef_named}
use Rattle.rule_declares.specs.Declares.{vardef_declares, vars_declare, roles_put, typedef_named}
use Rattle.rule_declares.specs.Declares.{interaction_declares, interactions_declare, senders}
use Rattle.rule_declares.specs.Declares.{by_part_declares, by_parts_declare, channel_declares}
use Rattle.rule_declares.specs.Declares.{side_of}
use Rattle.rule_declares.specs.Declares.{point_declares, points_declare, modvar_declares}
use Rattle.rule_declares.specs.Declares.{modvars_declare, before, after, stands_before}
use Rattle.rule_declares.specs.Declares.{sections_declare, has_exports, header_named}
use Rattle.rule_declares.specs.Declares.{header_declares}
use Rattle.rule_declares.specs.Declares.{states_declare, states_named, stateset_declares}
use Rattle.rule_declares.specs.Declares.{statesets_declare, formal_section, formal_named}
use Rattle.rule_declares.specs.Declares.{formal_declares, formals_declare}
use Rattle.rule_declares.specs.Entries.{plain, constant, point, module_variable, state_set, header}
use Rattle.rule_declares.specs.Entries.{outermost, inner, in_region, in_section}
use Rattle.rule_declares.specs.Lasts.{names_last, text_last, channel_last, header_last}
use Rattle.rule_declares.specs.declared.context.ClauseKind.TheVariants as kind
use Rattle.rule_declares.specs.declared.context.Given.{Given}
use Rattle.law_places.specs.Said.{Each}
use Rattle.law_places.proofs.BodiesGoOn.{name_on, turn_on, clause_on, part_on}
use Rattle.law_places.proofs.Placed.{names_on}
use Rattle.law_places.proofs.Declaring.{order_on, formal_on}
use Rattle.law_places.proofs.PlacedBodies.{NamePlaced, StatementPlaced, StatementsPlaced}
use Rattle.law_places.proofs.PlacedBodies.{SecondPlaced, ArmsPlaced, ClausePlaced, PartPlaced}
use Rattle.law_places.proofs.PlacedBodies.{PartsPlaced, FirstPlaced, GroupsPlaced}
use Rattle.law_places.proofs.PlacedBodies.{TransitionsPlaced, AreOfBlock}
use Rattle.law_places.proofs.PlacedParts.{InOrder, TypeDefPlaced, VarDefPlaced}
use Rattle.law_places.proofs.PlacedParts.{FormalPlaced}
use Rattle.rule_expressions.specs.Selections.{is_parameter}
use Rattle.law_values.proofs.KnownKinds.{EntryKnown, Known, known_later, Bounded}
use Rattle.law_values.proofs.KnownKinds.{nothing_measured, other_known, declared_known}
use Rattle.law_values.proofs.KnownKinds.{amended_known, put_known, lying_known, names_known}
use Rattle.law_values.proofs.KnownKinds.{kinds_known}
use Rattle.law_values.proofs.KnownTexts.{constant_hosted, named_kinded, text_kinded}
use Rattle.law_values.proofs.KnownTexts.{text_grown, IsShort, short_declares, short_sized}
use Rattle.law_values.proofs.ShortParts.{IsShortDef, InteractionShort, ByPartShort, ChannelShort}
use Rattle.law_values.proofs.ShortParts.{HeaderShort, PartShort, RowShort, placed_short}

-- enumerations that stand before a place are known
abbrev pub Grown : ℕ → Outline → Type 0
Grown c o = (n : ℕ → ℕ) × Known n c o

later : (c d : ℕ) (o : Outline) → c ≤ d → Grown c o → Grown d o
later c d o l k = (k.0, known_later k.0 c d o l k.1)

-- what declares no parameters
abbrev IsOther : Within → Type 0
IsOther w = is_parameter w.section ≡ false

-- PRIMITIVES

module _ (c : ℕ) where
  lies : (w : Within) (place : ℕ) (o : Outline) → Grown c o → Grown c (lying w place o)
  lies w place o k = (k.0, lying_known k.0 c w place o k.1)

  puts : (region : ℕ) (u : Used) (m : Member) (o : Outline) → Grown c o
      → Grown c (put region u m o)
  puts region u m o k = (k.0, put_known k.0 c region u m o k.1)

  -- a declaration without a kind
  plain_known : (n : ℕ → ℕ) (e : Entry) → e.kind ≡ None → is_parameter e.section ≡ false
      → EntryKnown n c e
  plain_known n e h p = other_known n c e (λ m i. absurd (none-some m (sym h ∙ i))) p

  declares : (w : Within) (u : Used) (last : ℕ) (e : Entry) (o : Outline) → e.kind ≡ None
      → is_parameter e.section ≡ false → Grown c o → Grown c (declared w u last e o)
  declares w u last e o h p k =
      (k.0, declared_known k.0 c w u last e o (plain_known k.0 e h p) k.1)

  names_declared : (w : Within) (us : List Used) (last : ℕ) (e : Entry) (o : Outline)
      → e.kind ≡ None → is_parameter e.section ≡ false → Grown c o
      → Grown c (names_declare w us last e o)
  names_declared w us last e o h p k =
      (k.0, names_known k.0 c w us last e o (plain_known k.0 e h p) k.1)

  -- variables, of which each may be a parameter
  variables_named : (w : Within) (us : List Used) (last : ℕ) (o : Outline) → Grown c o
      → Grown c (names_declare w us last (plain w sort.Variable) o)
  variables_named w us last o k = (
    k.0,
    names_known k.0 c w us last (plain w sort.Variable) o
        (nothing_measured k.0 c, λ t. refl) k.1,
  )

  -- SHORT TEXTS

  short_def : (w : Within) (v : VarDef) (o : Outline) → IsShortDef v → Grown c o
      → Grown c (vardef_declares w v o)
  short_def w v o h k =
      let o1 = vardef_named w v (lying w (text_place v.text) o) in
      let g = variables_named w v.names (text_last v.text) (lying w (text_place v.text) o)
      (lies w (text_place v.text) o k) in
      subst (λ p. Grown c (kinds_given v.names (text_type p v.text) p))
      (sym (short_declares w v.text o1 h)) (
        g.0,
        kinds_known g.0 c v.names (text_type o1 v.text) o1
            (text_kinded g.0 c o1 g.1 v.text (short_sized g.0 c v.text h)) g.1,
      )

  short_defs : (w : Within) (vs : List VarDef) (o : Outline) → Each IsShortDef vs → Grown c o
      → Grown c (vars_declare w vs o)
  short_defs w [] o h k = k
  short_defs w (v ∷ vs) o h k =
      short_defs w vs (vardef_declares w v o) h.1 (short_def w v o h.0 k)

  -- CHANNELS

  roles_grown : (region : ℕ) (us : List Used) (r : Role) (o : Outline) → Grown c o
      → Grown c (roles_put region us r o)
  roles_grown region [] r o k = k
  roles_grown region (u ∷ us) r o k =
      roles_grown region us Second (put region u (member.Role r) o)
      (puts region u (member.Role r) o k)

  interactions_grown : (w : Within) (region : ℕ) (s : Senders) (is : List InteractionDef)
      (o : Outline) → Each InteractionShort is → Grown c o
      → Grown c (interactions_declare w region s is o)
  interactions_grown w region s [] o h k = k
  interactions_grown w region s (i ∷ is) o h k =
      interactions_grown w region s is (interaction_declares w region s i o) h.1
      (short_defs (in_region section.Interaction w i.name.place) i.params
      (put region i.name (member.Interaction s) o) h.0
      (puts region i.name (member.Interaction s) o k))

  by_parts_grown : (w : Within) (region : ℕ) (bs : List ByPart) (o : Outline)
      → Each ByPartShort bs → Grown c o → Grown c (by_parts_declare w region bs o)
  by_parts_grown w region [] o h k = k
  by_parts_grown w region (b ∷ bs) o h k =
      by_parts_grown w region bs (by_part_declares w region b o) h.1
      (interactions_grown w region (senders o region b.roles) b.interactions o h.0 k)

  channel_grown : (w : Within) (x : Channel) (o : Outline) → IsOther w → ChannelShort x
      → Grown c o → Grown c (channel_declares w x o)
  channel_grown w x o p h k =
      let o1 = lying w x.name.place o in
      let o2 = declared w x.name (channel_last x) (plain w sort.Channel) o1 in
      by_parts_grown w x.name.place x.by (roles_put x.name.place x.roles First o2) h
      (roles_grown x.name.place x.roles First o2
      (declares w x.name (channel_last x) (plain w sort.Channel) o1 refl p
      (lies w x.name.place o k)))

  -- POINTS, MODULE VARIABLES AND HEADERS

  point_grown : (w : Within) (x : Point) (o : Outline) → IsOther w → Grown c o
      → Grown c (point_declares w x o)
  point_grown w x o p k =
      let o1 = lying w x.place o in
      names_declared w x.names x.role.place
      (point w (dims_of o1 x.dims) (dims_elements (dims_of o1 x.dims)) (side_of o1 x) x.queue) o1
      refl p (lies w x.place o k)

  points_grown : (w : Within) (xs : List Point) (o : Outline) → IsOther w → Grown c o
      → Grown c (points_declare w xs o)
  points_grown w [] o p k = k
  points_grown w (x ∷ xs) o p k =
      points_grown w xs (point_declares w x o) p (point_grown w x o p k)

  modvars_grown : (w : Within) (xs : List ModvarDef) (o : Outline) → IsOther w → Grown c o
      → Grown c (modvars_declare w xs o)
  modvars_grown w [] o p k = k
  modvars_grown w (x ∷ xs) o p k =
      let o1 = lying w x.place o in
      modvars_grown w xs (modvar_declares w x o) p
      (names_declared w x.names x.header.place
      (module_variable w (dims_of o1 x.dims) (declaration_of o1 sort.Header x.header)) o1 refl p
      (lies w x.place o k))

  before_short : (vs : List VarDef) (place : ℕ) → Each IsShortDef vs
      → Each IsShortDef (before vs place)
  before_short [] place h = tt
  before_short (v ∷ vs) place h = by (stands_before v place) (before_short vs place h.1)
    where
      by : (b : Bool) → Each IsShortDef (before vs place)
          → Each IsShortDef (if b then v ∷ before vs place else [])
      by true g = (h.0, g)
      by false g = tt

  after_short : (vs : List VarDef) (place : ℕ) → Each IsShortDef vs
      → Each IsShortDef (after vs place)
  after_short [] place h = tt
  after_short (v ∷ vs) place h = by (stands_before v place) (after_short vs place h.1)
    where
      by : (b : Bool) → Each IsShortDef (after vs place)
          → Each IsShortDef (if b then after vs place else v ∷ vs)
      by true g = g
      by false g = h

  sections_grown : (w : Within) (ps : List Point) (vs : List VarDef) (o : Outline) → IsOther w
      → Each IsShortDef vs → Grown c o → Grown c (sections_declare w ps vs o)
  sections_grown w [] vs o p h k = short_defs w vs o h k
  sections_grown w (x ∷ ps) vs o p h k =
      let o1 = vars_declare w (before vs x.place) o in
      sections_grown w ps (after vs x.place) (point_declares w x o1) p
      (after_short vs x.place h)
      (point_grown w x o1 p (short_defs w (before vs x.place) o (before_short vs x.place h) k))

  header_grown : (w : Within) (x : Header) (o : Outline) → IsOther w → HeaderShort x → Grown c o
      → Grown c (header_declares w x o)
  header_grown w x o p h k =
      let o1 = lying w x.name.place o in
      let o2 = header_named w x o in
      let v = in_region section.Parameter w x.name.place in
      sections_grown (in_region section.Header w x.name.place) x.points x.exports
      (vars_declare v x.params o2) refl h.1
      (short_defs v x.params o2 h.0
      (declares w x.name (header_last x) (header w x.system (has_exports x.exports)) o1 refl p
      (lies w x.name.place o k)))

  -- STATES, STATE SETS AND FORMALS

  states_grown : (w : Within) (us : List Used) (o : Outline) → IsOther w → Grown c o
      → Grown c (states_declare w us o)
  states_grown w [] o p k = k
  states_grown w (u ∷ us) o p k =
      states_grown w us (declared w u u.place (plain w sort.State) o) p
      (declares w u u.place (plain w sort.State) o refl p k)

  statesets_grown : (w : Within) (ss : List StateSet) (o : Outline) → IsOther w → Grown c o
      → Grown c (statesets_declare w ss o)
  statesets_grown w [] o p k = k
  statesets_grown w (s ∷ ss) o p k =
      let o1 = lying w s.name.place o in
      statesets_grown w ss (stateset_declares w s o) p
      (declares w s.name (names_last s.states s.name.place) (state_set w (states_named o1 s.states))
      o1 refl p (lies w s.name.place o k))

  formals_grown : (w : Within) (fs : List Formal) (o : Outline) → Grown c o
      → Grown c (formals_declare w fs o)
  formals_grown w [] o k = k
  formals_grown w (f ∷ fs) o k =
      let o1 = lying w f.kind.place o in
      let v = in_section (formal_section f) w in
      let o2 = formal_named v f o1 in
      let g = variables_named v f.names f.kind.place o1 (lies w f.kind.place o k) in
      formals_grown w fs (formal_declares w f o) (
        g.0,
        kinds_known g.0 c f.names (named_type o2 f.kind) o2
            (named_kinded g.0 c o2 g.1 f.kind) g.1,
      )

  -- STATEMENTS

  all_grown : (w : Within) (u : Used) (over : TypeText) (o : Outline) → IsShort over → Grown c o
      → Grown c (all_named w u over o)
  all_grown w u over o h k = by (over_header o over)
    where
      v : Within
      v = in_section section.All w

      by : (x : Option ℕ) → Grown c (declared w u (text_last over) (all_by v o over x) o)
      by (Some place) = declares w u (text_last over) (all_by v o over (Some place)) o refl refl k
      by None = (
        k.0,
        declared_known k.0 c w u (text_last over) (all_by v o over None) o
            (other_known k.0 c (all_by v o over None)
            (text_kinded k.0 c o k.1 over (short_sized k.0 c over h)) refl) k.1,
      )

  arm_lies : (w : Within) (cs : List Constant) (o : Outline) → Grown c o
      → Grown c (arm_lying w cs o)
  arm_lies w [] o k = k
  arm_lies w (x ∷ cs) o k = lies w (constant_place x) o k

  mutual
    within_grown : (w : Within) (s : Statement) (o : Outline) (i j : ℕ) → StatementPlaced i j s
        → Grown c o → Grown c (within_declares w s o)
    within_grown w (statement.Compound' x turn place) o i j h k = rows_grown w turn o place j h.1 k
    within_grown w (statement.If' condition x one second place) o i j h k =
        second_grown w second (row_statements w one o) h.1 j h.5
        (rows_grown w one o h.0 h.1 h.4 k)
    within_grown w (statement.Case' value x arms place) o i j h k = arms_grown w arms o h.0 j h.3 k
    within_grown w (statement.While' condition x turn place) o i j h k =
        rows_grown w turn o h.0 j h.3 k
    within_grown w (statement.Repeat' x turn until place) o i j h k =
        lies w (expr_place until) (row_statements w turn o) (rows_grown w turn o place h.0 h.2 k)
    within_grown w (statement.For' name from down to x turn place) o i j h k =
        rows_grown w turn o h.0 j h.3 k
    within_grown w (statement.All' name over x turn place) o i j h k =
        rows_grown (inner w place) turn (all_named (inner w place) name over o) h.0 j h.4
        (all_grown (inner w place) name over o (placed_short (suc name.place) h.0 over h.3) k)
    within_grown w _ o i j h k = k

    rows_grown : (w : Within) {n : _} (row : Row_of-Statement n) (o : Outline) (i j : ℕ)
        → StatementsPlaced i j row → Grown c o → Grown c (row_statements w row o)
    rows_grown w end_of-Statement o i j h k = k
    rows_grown w (more_of-Statement s rest) o i j h k =
        let o1 = lying w (statement_place s) o in
        rows_grown w rest (within_declares w s o1) h.0 j h.2
        (within_grown w s o1 i h.0 h.1 (lies w (statement_place s) o k))

    second_grown : (w : Within) (s : Held-Statement-If-2) (o : Outline) (i j : ℕ)
        → SecondPlaced i j s → Grown c o → Grown c (held_declares w s o)
    second_grown w held.None' o i j h k = k
    second_grown w (held.Some' x second) o i j h k = rows_grown w second o i j h k

    arms_grown : (w : Within) {n : _} (row : Row_of-Arm n) (o : Outline) (i j : ℕ)
        → ArmsPlaced i j row → Grown c o → Grown c (row_arms w row o)
    arms_grown w end_of-Arm o i j h k = k
    arms_grown w (more_of-Arm constants s rest) o i j h k =
        let o1 = arm_lying w constants o in
        let o2 = lying w (statement_place s) o1 in
        arms_grown w rest (within_declares w s o2) h.1 j h.4
        (within_grown w s o2 h.0 h.1 h.3 (lies w (statement_place s) o1
        (arm_lies w constants o k)))

  statements_grown : (w : Within) (ss : List Statement) (o : Outline) (i j : ℕ)
      → InOrder StatementPlaced i j ss → Grown c o → Grown c (statements_declare w ss o)
  statements_grown w [] o i j h k = k
  statements_grown w (s ∷ ss) o i j h k =
      statements_grown w ss (statement_declares w s o) h.0 j h.2
      (within_grown w s (lying w (statement_place s) o) i h.0 h.1
      (lies w (statement_place s) o k))

-- CONSTANTS, TYPES AND VARIABLES

constdef_grown : (w : Within) (x : ConstDef) (o : Outline) (c : ℕ) → IsOther w → Grown c o
    → Grown c (constdef_declares w x o)
constdef_grown w x o c p k = by (constant_value o1 x.value) (constant_hosted g.0 c o1 g.1 x.value)
  where
    o1 : Outline
    o1 = lying w x.name.place o

    g : Grown c o1
    g = lies c w x.name.place o k

    by : (v : Option Valued) → ((y : Valued) → v ≡ Some y → Bounded g.0 c y.host)
        → Grown c (declared w x.name (constant_last x.value) (constant w v) o1)
    by None h = declares c w x.name (constant_last x.value) (constant w None) o1 refl p g
    by (Some v) h = (
      g.0,
      declared_known g.0 c w x.name (constant_last x.value) (constant w (Some v)) o1
          (other_known g.0 c (constant w (Some v))
          (λ m e. subst (λ (z : Measured). Bounded g.0 c z.kind) (same_Some (scalar v.host) m e)
          (h v refl)) p) g.1,
    )

consts_grown : (w : Within) (xs : List ConstDef) (o : Outline) (c : ℕ) → IsOther w → Grown c o
    → Grown c (consts_declare w xs o)
consts_grown w [] o c p k = k
consts_grown w (x ∷ xs) o c p k =
    consts_grown w xs (constdef_declares w x o) c p (constdef_grown w x o c p k)

typedef_grown : (w : Within) (x : TypeDef) (o : Outline) (i j : ℕ) → IsOther w
    → TypeDefPlaced i j x → Grown i o → Grown j (typedef_declares w x o)
typedef_grown w x o i j p h k =
    let c = suc x.name.place in
    let o1 = lying w x.name.place o in
    let o2 = typedef_named w x o1 in
    let g = declares c w x.name (text_last x.text) (plain w sort.TypeName) o1 refl p
    (lies c w x.name.place o (later i c o (let l = h.0 in omega (arith, l)) k)) in
    let y = text_grown w x.text o2 g.0 c j p h.1 g.1 in
    let o3 = text_declares w x.text o2 in (
      y.sizes,
      amended_known y.sizes j (with_kind (text_type o3 x.text)) x.name.place o3
          (λ e q. (text_kinded y.sizes j o3 y.known x.text y.sized, q.1)) y.known,
    )

types_grown : (w : Within) (xs : List TypeDef) (o : Outline) (i j : ℕ) → IsOther w
    → InOrder TypeDefPlaced i j xs → Grown i o → Grown j (types_declare w xs o)
types_grown w [] o i j p h k = later i j o h k
types_grown w (x ∷ xs) o i j p h k =
    types_grown w xs (typedef_declares w x o) h.0 j p h.2 (typedef_grown w x o i h.0 p h.1 k)

vardef_grown : (w : Within) (v : VarDef) (o : Outline) (i j : ℕ) → IsOther w
    → VarDefPlaced i j v → Grown i o → Grown j (vardef_declares w v o)
vardef_grown w v o i j p h k =
    let o1 = lying w (text_place v.text) o in
    let o2 = vardef_named w v o1 in
    let g = variables_named h.0 w v.names (text_last v.text) o1
    (lies h.0 w (text_place v.text) o (later i h.0 o (names_on i h.0 v.names h.1) k)) in
    let y = text_grown w v.text o2 g.0 h.0 j p h.2 g.1 in
    let o3 = text_declares w v.text o2 in (
      y.sizes,
      kinds_known y.sizes j v.names (text_type o3 v.text) o3
          (text_kinded y.sizes j o3 y.known v.text y.sized) y.known,
    )

vars_grown : (w : Within) (vs : List VarDef) (o : Outline) (i j : ℕ) → IsOther w
    → InOrder VarDefPlaced i j vs → Grown i o → Grown j (vars_declare w vs o)
vars_grown w [] o i j p h k = later i j o h k
vars_grown w (v ∷ vs) o i j p h k =
    vars_grown w vs (vardef_declares w v o) h.0 j p h.2 (vardef_grown w v o i h.0 p h.1 k)

-- CLAUSES

clause_grown : (w : Within) (x : Clause) (gs : List Given) (o : Outline) (i j : ℕ)
    → ClausePlaced i j x → Grown i o → Grown j (clause_declares w x (gs, o)).1
clause_grown w (clauses.From states place) gs o i j h k =
    lies j (under w (dropped kind.From gs)) place o
    (later i j o (clause_on i j (clauses.From states place) h) k)
clause_grown w (clauses.To state place) gs o i j h k =
    lies j (under w (dropped kind.To gs)) place o
    (later i j o (clause_on i j (clauses.To state place) h) k)
clause_grown w (clauses.When at signal place) gs o i j h k =
    lies j (under w (dropped kind.When gs)) place o
    (later i j o (clause_on i j (clauses.When at signal place) h) k)
clause_grown w (clauses.Provided condition place) gs o i j h k =
    lies j (under w (dropped kind.Provided gs)) place o
    (later i j o (clause_on i j (clauses.Provided condition place) h) k)
clause_grown w (clauses.Otherwise place) gs o i j h k =
    lies j (under w (dropped kind.Provided gs)) place o
    (later i j o (clause_on i j (clauses.Otherwise place) h) k)
clause_grown w (clauses.Any names place) gs o i j h k =
    let v = under w (given kind.Any (Some place) (dropped kind.Any gs)) in
    vars_grown (in_region section.Any v place) names (lying v place o) place j refl h.1
    (lies place v place o (later i place o h.0 k))
clause_grown w (clauses.Priority value place) gs o i j h k =
    lies j (under w (dropped kind.Priority gs)) place o
    (later i j o (clause_on i j (clauses.Priority value place) h) k)
clause_grown w (clauses.Delay least most place) gs o i j h k =
    lies j (under w (dropped kind.Delay gs)) place o
    (later i j o (clause_on i j (clauses.Delay least most place) h) k)

clauses_grown : (w : Within) (xs : List Clause) (s : Clausal) (i j : ℕ)
    → InOrder ClausePlaced i j xs → Grown i s.1 → Grown j (clauses_declare w xs s).1
clauses_grown w [] s i j h k = later i j s.1 h k
clauses_grown w (x ∷ xs) s i j h k =
    clauses_grown w xs (clause_declares w x s) h.0 j h.2 (clause_grown w x s.0 s.1 i h.0 h.1 k)

-- BODIES AND ROUTINES

amends : (c : ℕ) (f : Entry → Entry) (place : ℕ) (o : Outline)
    → ((n : ℕ → ℕ) (e : Entry) → EntryKnown n c e → EntryKnown n c (f e)) → Grown c o
    → Grown c (amended f place o)
amends c f place o h k = (k.0, amended_known k.0 c f place o (h k.0) k.1)

result_grown : (w : Within) (name : Used) (result : Option Used) (o : Outline) (i j : ℕ)
    → NamePlaced i j result → Grown i o → Grown j (result_given w name result o)
result_grown w name None o i j h k = later i j o h k
result_grown w name (Some u) o i j h k =
    let o1 = lying w u.place o in
    let g = lies j w u.place o (later i j o (name_on i j (Some u) h) k) in (
      g.0,
      amended_known g.0 j (with_kind (named_type o1 u)) name.place o1
          (λ e q. (named_kinded g.0 j o1 g.1 u, q.1)) g.1,
    )

to_grown : (w : Within) (to : Option Used) (o : Outline) (i j : ℕ) → NamePlaced i j to
    → Grown i o → Grown j (to_lying w to o)
to_grown w None o i j h k = later i j o h k
to_grown w (Some u) o i j h k =
    lies j w u.place o (later i j o (name_on i j (Some u) h) k)

closed_grown : (x : Part) (o : Outline) (j : ℕ) → Grown j o → Grown j (closed_by x o)
unfolding out-Part denote.Hole.Carrier.out
closed_grown (part.Routine' name formals result x parts statements place) o j k =
    amends j (with_closed _) name.place o (λ n e h. h) k
closed_grown _ o j k = k

routine_plain : (w : Within) (result : Option Used) (c : ℕ) (name : Used) (o : Outline)
    → IsOther w → Grown c o
    → Grown c (declared w name name.place (plain w (routine_sort result)) o)
routine_plain w result c name o p k =
    declares c w name name.place (plain w (routine_sort result)) o refl p k

block_short : {n : _} (row : Row_of-Part n) → AreOfBlock row → RowShort row
block_short end_of-Part h = tt
block_short (more_of-Part (part.Consts xs) rest) h = (tt, block_short rest h.1)
block_short (more_of-Part (part.Types xs) rest) h = (tt, block_short rest h.1)
block_short (more_of-Part (part.Vars vs) rest) h = (tt, block_short rest h.1)
block_short (more_of-Part (part.Channel x) rest) h = absurd h.0
block_short (more_of-Part (part.Header x) rest) h = absurd h.0
block_short (more_of-Part (part.Body x) rest) h = absurd h.0
block_short (more_of-Part (part.Modvars xs) rest) h = absurd h.0
block_short (more_of-Part (part.Points xs) rest) h = absurd h.0
block_short (more_of-Part (part.States us) rest) h = absurd h.0
block_short (more_of-Part (part.StateSets ss) rest) h = absurd h.0
block_short (more_of-Part (part.Routine' name formals result x parts statements place) rest) h =
    absurd h.0

mutual
  part_grown : (w : Within) (x : Part) (o : Outline) (i j : ℕ) → IsOther w → PartPlaced i j x
      → PartShort x → Grown i o → Grown j (part_declares w x o)
  part_grown w (part.Consts xs) o i j p h s k =
      later i j _ (part_on i j (part.Consts xs) h) (consts_grown w xs o i p k)
  part_grown w (part.Types xs) o i j p h s k = types_grown w xs o i j p h k
  part_grown w (part.Channel x) o i j p h s k =
      later i j _ (part_on i j (part.Channel x) h) (channel_grown i w x o p s k)
  part_grown w (part.Header x) o i j p h s k =
      later i j _ (part_on i j (part.Header x) h) (header_grown i w x o p s k)
  part_grown w (part.Body (Body' name header x parts f y groups)) o i j p h s k =
      let c = suc header.place in
      let o0 = lying w name.place o in
      let o1 = body_named w name o in
      let v = inside w name header o1 in
      let o2 = header_given name header o1 in
      let o3 = row_parts v parts o2 in
      let a = h.2 in
      let b = h.3 in
      groups_grown v groups (first_declares v f o3) h.1 j refl h.6
      (first_grown v f o3 h.0 h.1 refl h.5
      (parts_grown v parts o2 c h.0 refl h.4 s
      (amends c (with_header (body_header o1 header)) name.place o1 (λ n e q. q)
      (declares c w name name.place (plain w sort.Body) o0 refl p
      (lies c w name.place o (later i c o (omega (arith, a, b)) k))))))
  part_grown w (part.Modvars xs) o i j p h s k =
      later i j _ (part_on i j (part.Modvars xs) h) (modvars_grown i w xs o p k)
  part_grown w (part.Points xs) o i j p h s k =
      later i j _ (part_on i j (part.Points xs) h) (points_grown i w xs o p k)
  part_grown w (part.Vars vs) o i j p h s k = vars_grown w vs o i j p h k
  part_grown w (part.States us) o i j p h s k =
      later i j _ (part_on i j (part.States us) h) (states_grown i w us o p k)
  part_grown w (part.StateSets ss) o i j p h s k =
      later i j _ (part_on i j (part.StateSets ss) h) (statesets_grown i w ss o p k)
  part_grown w (part.Routine' name formals result x parts statements place) o i j p h s k =
      let c = suc name.place in
      let b = h.3 in
      let v = inner w name.place in
      let o0 = lying w name.place o in
      let o1 = routine_named w name result o in
      let o2 = formals_declare v formals o1 in
      let o3 = result_given v name result o2 in
      let k1 = formals_grown c v formals o1 (routine_plain w result c name o0 p
      (lies c w name.place o (later i c o (omega (arith, b)) k))) in
      let k2 = result_grown v name result o2 h.0 h.1 h.5
      (later c h.0 o2 (order_on FormalPlaced formal_on c h.0 formals h.4) k1) in
      let k3 = parts_grown v parts o3 h.1 h.2 refl h.6 (block_short parts h.9) k2 in
      let l = h.7 in
      let e = turn_on place j statements h.8 in
      statements_grown j v statements (row_parts v parts o3) place j h.8
      (later h.2 j (row_parts v parts o3) (omega (arith, l, e)) k3)

  parts_grown : (w : Within) {n : _} (row : Row_of-Part n) (o : Outline) (i j : ℕ) → IsOther w
      → PartsPlaced i j row → RowShort row → Grown i o → Grown j (row_parts w row o)
  parts_grown w end_of-Part o i j p h s k = later i j o h k
  parts_grown w (more_of-Part x rest) o i j p h s k =
      let o1 = part_declares w x o in
      parts_grown w rest (closed_by x o1) h.0 j p h.2 s.1
      (closed_grown x o1 h.0 (part_grown w x o i h.0 p h.1 s.0 k))

  first_grown : (w : Within) (f : Held-Body-first) (o : Outline) (i j : ℕ) → IsOther w
      → FirstPlaced i j f → Grown i o → Grown j (first_declares w f o)
  first_grown w first.None' o i j p h k = later i j o h k
  first_grown w (first.Some' to x parts statements place) o i j p h k =
      let v = inner w place in
      let o1 = to_lying w to o in
      let o2 = row_parts v parts o1 in
      let l = h.4 in
      let e = turn_on place j statements h.5 in
      statements_grown j v statements o2 place j h.5
      (later h.1 j o2 (omega (arith, l, e))
      (parts_grown v parts o1 h.0 h.1 refl h.3 (block_short parts h.6)
      (to_grown w to o i h.0 h.2 k)))

  groups_grown : (w : Within) {n : _} (row : Row_of-Group n) (o : Outline) (i j : ℕ) → IsOther w
      → GroupsPlaced i j row → Grown i o → Grown j (row_groups w row o)
  groups_grown w end_of-Group o i j p h k = later i j o h k
  groups_grown w (more_of-Group (Group' x transitions) rest) o i j p h k =
      groups_grown w rest (row_transitions w transitions ([], o)).1 h.0 j p h.2
      (transitions_grown w transitions ([], o) i h.0 h.1 k)

  transitions_grown : (w : Within) {n : _} (row : Row_of-Transition n) (s : Clausal) (i j : ℕ)
      → TransitionsPlaced i j row → Grown i s.1 → Grown j (row_transitions w row s).1
  transitions_grown w end_of-Transition s i j h k = later i j s.1 h k
  transitions_grown w (more_of-Transition cs name x parts statements place rest) s i j h k =
      let s1 = clauses_declare w cs s in
      let v = inner (under w s1.0) place in
      let o1 = row_parts v parts s1.1 in
      let l = h.7 in
      let e = turn_on place h.3 statements h.8 in
      transitions_grown w rest (s1.0, statements_declare v statements o1) h.3 j h.9
      (statements_grown h.3 v statements o1 place h.3 h.8
      (later h.2 h.3 o1 (omega (arith, l, e))
      (parts_grown v parts s1.1 h.1 h.2 refl h.6 (block_short parts h.10)
      (later h.0 h.1 s1.1 h.5 (clauses_grown w cs s i h.0 h.4 k)))))

listed_grown : (w : Within) (xs : List Part) (o : Outline) (i j : ℕ) → IsOther w
    → InOrder PartPlaced i j xs → Each PartShort xs → Grown i o → Grown j (parts_declare w xs o)
listed_grown w [] o i j p h s k = later i j o h k
listed_grown w (x ∷ xs) o i j p h s k =
    let o1 = part_declares w x o in
    listed_grown w xs (closed_by x o1) h.0 j p h.2 s.1
    (closed_grown x o1 h.0 (part_grown w x o i h.0 p h.1 s.0 k))

nothing_grown : (c : ℕ) → Grown c empty
nothing_grown c = ((λ p. 0), record { entries = λ p e h. absurd (none-some e h) })

-- of what a specification declares
pub outline_grown : (s : Spec) (i j : ℕ) → InOrder PartPlaced i j s.parts → Each PartShort s.parts
    → Grown j (outline_of s)
outline_grown s i j h short =
    lies j outermost (statement_place s.first) (parts_declare outermost s.parts empty)
    (listed_grown outermost s.parts empty i j refl h short (nothing_grown i))
