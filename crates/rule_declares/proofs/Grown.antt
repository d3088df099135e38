-- What holds of the outline of every tree.
use Rattle.std.proofs.Common.{ℕ, List, [], ◌∷◌, Option, Some, None}
use Rattle.est_syntax.specs.declared.name.Used.{Used}
use Rattle.est_syntax.specs.declared.constant.Constant.{Constant}
use Rattle.est_syntax.specs.declared.type_text.TypeText.{TypeText}
use Rattle.est_syntax.specs.declared.statement.Statement.{Statement, Row_of-Statement}
use Rattle.est_syntax.specs.declared.statement.Statement.{end_of-Statement}
use Rattle.est_syntax.specs.declared.statement.Statement.{more_of-Statement}
use Rattle.est_syntax.specs.declared.statement.Statement.{Row_of-Arm, end_of-Arm}
use Rattle.est_syntax.specs.declared.statement.Statement.{more_of-Arm}
use Rattle.est_syntax.specs.declared.statement.Statement.{Held-Statement-If-2}
use Rattle.est_syntax.specs.declared.statement.Statement.TheVariants as statement
use Rattle.est_syntax.specs.declared.statement.Statement.TheBlock as held
use Rattle.est_syntax.specs.declared.transition.Clause.{Clause}
use Rattle.est_syntax.specs.declared.transition.Clause.TheVariants as clauses
use Rattle.est_syntax.specs.declared.body.Part.{Part, out-Part, Row_of-Part}
use Rattle.est_syntax.specs.declared.body.Part.{end_of-Part, more_of-Part}
use Rattle.est_syntax.specs.declared.body.Part.TheVariants as part
use Rattle.est_syntax.specs.declared.body.Body.{Body', Row_of-Group, end_of-Group}
use Rattle.est_syntax.specs.declared.body.Body.{more_of-Group, Held-Body-first}
use Rattle.est_syntax.specs.declared.body.Part.TheBlock as first
use Rattle.est_syntax.specs.declared.transition.Group.{Group', Row_of-Transition}
use Rattle.est_syntax.specs.declared.transition.Group.{end_of-Transition}
use Rattle.est_syntax.specs.declared.transition.Group.{more_of-Transition}
use Rattle.est_syntax.specs.declared.routine.Formal.{Formal}
use Rattle.est_syntax.specs.declared.specification.Spec.{Spec}
use Rattle.rule_kinds.specs.rule_scope.declared.declaration.Entry.{Entry}
use Rattle.rule_kinds.specs.rule_scope.declared.declaration.Section.TheVariants as section
use Rattle.rule_kinds.specs.rule_scope.declared.declaration.Sort.TheVariants as sort
use Rattle.rule_kinds.specs.rule_scope.declared.declaration.Within.{Within}
use Rattle.rule_kinds.specs.rule_scope.Outline.{Outline}
use Rattle.rule_kinds.specs.rule_scope.Declaring.{empty, with_kind, with_closed, with_header, lying}
use Rattle.rule_kinds.specs.Constants.{constant_place}
use Rattle.rule_kinds.specs.TypeTexts.{text_type, named_type}
use Rattle.rule_declares.specs.declared.context.ClauseKind.TheVariants as kind
use Rattle.rule_declares.specs.declared.context.Given.{Given}
use Rattle.rule_declares.specs.Contexts.{dropped, given, under}
use Rattle.rule_declares.specs.Entries.{plain, outermost, inner, in_region, in_section}
use Rattle.rule_declares.specs.Lasts.{text_last}
use Rattle.rule_declares.specs.Declares.{formals_declare}
use Rattle.rule_declares.specs.Bodies.{Clausal, statement_place, expr_place, all_by, over_header}
use Rattle.rule_declares.specs.Bodies.{all_named, arm_lying, within_declares, row_statements}
use Rattle.rule_declares.specs.Bodies.{held_declares, row_arms, statement_declares}
use Rattle.rule_declares.specs.Bodies.{statements_declare, clause_declares, clauses_declare}
use Rattle.rule_declares.specs.Bodies.{body_named, body_header, header_given, inside, routine_sort}
use Rattle.rule_declares.specs.Bodies.{routine_named, result_given, head_declares, to_lying}
use Rattle.rule_declares.specs.Bodies.{closed_by, part_declares, row_parts, first_declares}
use Rattle.rule_declares.specs.Bodies.{row_groups, row_transitions, parts_declare, outline_of}
use Rattle.rule_declares.proofs.Growing as growing
use Rattle.rule_declares.proofs.Growing.{IsOfEach, IsKept}

module _ (Q : Entry → Type 0) (P : Outline → Type 0) (each : IsOfEach Q) (kept : IsKept Q P) where
  -- statements
  all_of : (w : Within) (o : Outline) (over : TypeText) (h : Option ℕ) → Q (all_by w o over h)
  all_of w o over None = each.of_typed w sort.Variable (text_type o over)
  all_of w o over (Some header) = each.of_variable w (Some []) (Some header)

  all_kept : (w : Within) (u : Used) (over : TypeText) (o : Outline) → P o
      → P (all_named w u over o)
  all_kept w u over o p =
      let v = in_section section.All w in
      let h = over_header o over in
      kept.declares o w u (text_last over) (all_by v o over h) (all_of v o over h) p

  arm_kept : (w : Within) (cs : List Constant) (o : Outline) → P o → P (arm_lying w cs o)
  arm_kept w [] o p = p
  arm_kept w (c ∷ cs) o p = kept.lies o w (constant_place c) p

  mutual
    within_kept : (w : Within) (s : Statement) (o : Outline) → P o → P (within_declares w s o)
    within_kept w (statement.Compound' a turn place) o p = statements_row w turn o p
    within_kept w (statement.If' condition a first second place) o p =
        held_kept w second (row_statements w first o) (statements_row w first o p)
    within_kept w (statement.Case' value a arms place) o p = arms_row w arms o p
    within_kept w (statement.While' condition a turn place) o p = statements_row w turn o p
    within_kept w (statement.Repeat' a turn until place) o p =
        kept.lies (row_statements w turn o) w (expr_place until) (statements_row w turn o p)
    within_kept w (statement.For' name first down last a turn place) o p =
        statements_row w turn o p
    within_kept w (statement.All' name over a turn place) o p =
        let v = inner w place in
        statements_row v turn (all_named v name over o) (all_kept v name over o p)
    within_kept w _ o p = p

    statements_row : (w : Within) {n : _} (row : Row_of-Statement n) (o : Outline) → P o
        → P (row_statements w row o)
    statements_row w end_of-Statement o p = p
    statements_row w (more_of-Statement s rest) o p =
        let o1 = lying w (statement_place s) o in
        statements_row w rest (within_declares w s o1)
        (within_kept w s o1 (kept.lies o w (statement_place s) p))

    held_kept : (w : Within) (s : Held-Statement-If-2) (o : Outline) → P o
        → P (held_declares w s o)
    held_kept w held.None' o p = p
    held_kept w (held.Some' a second) o p = statements_row w second o p

    arms_row : (w : Within) {n : _} (row : Row_of-Arm n) (o : Outline) → P o → P (row_arms w row o)
    arms_row w end_of-Arm o p = p
    arms_row w (more_of-Arm constants s rest) o p =
        let o1 = arm_lying w constants o in
        let o2 = lying w (statement_place s) o1 in
        arms_row w rest (within_declares w s o2)
        (within_kept w s o2 (kept.lies o1 w (statement_place s) (arm_kept w constants o p)))

  statements_kept : (w : Within) (ss : List Statement) (o : Outline) → P o
      → P (statements_declare w ss o)
  statements_kept w [] o p = p
  statements_kept w (s ∷ ss) o p =
      statements_kept w ss (statement_declares w s o)
      (within_kept w s (lying w (statement_place s) o) (kept.lies o w (statement_place s) p))

  -- clauses
  clause_kept : (w : Within) (c : Clause) (gs : List Given) (o : Outline) → P o
      → P (clause_declares w c (gs, o)).1
  clause_kept w (clauses.From states place) gs o p =
      kept.lies o (under w (dropped kind.From gs)) place p
  clause_kept w (clauses.To state place) gs o p =
      kept.lies o (under w (dropped kind.To gs)) place p
  clause_kept w (clauses.When at signal place) gs o p =
      kept.lies o (under w (dropped kind.When gs)) place p
  clause_kept w (clauses.Provided condition place) gs o p =
      kept.lies o (under w (dropped kind.Provided gs)) place p
  clause_kept w (clauses.Otherwise place) gs o p =
      kept.lies o (under w (dropped kind.Provided gs)) place p
  clause_kept w (clauses.Any names place) gs o p =
      let v = under w (given kind.Any (Some place) (dropped kind.Any gs)) in
      growing.vars_kept Q P each kept (in_region section.Any v place) names (lying v place o)
      (kept.lies o v place p)
  clause_kept w (clauses.Priority value place) gs o p =
      kept.lies o (under w (dropped kind.Priority gs)) place p
  clause_kept w (clauses.Delay least most place) gs o p =
      kept.lies o (under w (dropped kind.Delay gs)) place p

  clauses_kept : (w : Within) (cs : List Clause) (s : Clausal) → P s.1
      → P (clauses_declare w cs s).1
  clauses_kept w [] s p = p
  clauses_kept w (c ∷ cs) s p =
      clauses_kept w cs (clause_declares w c s) (clause_kept w c s.0 s.1 p)

  -- bodies and routines
  named_kept : (w : Within) (name header : Used) (o : Outline) → P o
      → P (header_given name header (body_named w name o))
  named_kept w name header o p =
      let o1 = lying w name.place o in
      let o2 = body_named w name o in
      kept.amends o2 (with_header (body_header o2 header)) name.place
      (each.given_header (body_header o2 header))
      (kept.declares o1 w name name.place (plain w sort.Body) (each.of_typed w sort.Body None)
      (kept.lies o w name.place p))

  result_kept : (w : Within) (name : Used) (result : Option Used) (o : Outline) → P o
      → P (result_given w name result o)
  result_kept w name None o p = p
  result_kept w name (Some u) o p =
      let o1 = lying w u.place o in
      kept.amends o1 (with_kind (named_type o1 u)) name.place (each.given_kind (named_type o1 u))
      (kept.lies o w u.place p)

  head_kept : (v w : Within) (name : Used) (formals : List Formal) (result : Option Used)
      (o : Outline) → P o → P (head_declares v name formals result (routine_named w name result o))
  head_kept v w name formals result o p =
      let o1 = routine_named w name result o in
      let s = routine_sort result in
      result_kept v name result (formals_declare v formals o1)
      (growing.formals_kept Q P each kept v formals o1
      (kept.declares (lying w name.place o) w name name.place (plain w s) (each.of_typed w s None)
      (kept.lies o w name.place p)))

  to_kept : (w : Within) (to : Option Used) (o : Outline) → P o → P (to_lying w to o)
  to_kept w None o p = p
  to_kept w (Some u) o p = kept.lies o w u.place p

  closed_kept : (x : Part) (o : Outline) → P o → P (closed_by x o)
  unfolding out-Part denote.Hole.Carrier.out
  closed_kept (part.Routine' name formals result a parts statements place) o p =
      kept.amends o (with_closed _) name.place (each.given_closed _) p
  closed_kept _ o p = p

  mutual
    part_kept : (w : Within) (x : Part) (o : Outline) → P o → P (part_declares w x o)
    part_kept w (part.Consts cs) o p = growing.consts_kept Q P each kept w cs o p
    part_kept w (part.Types ts) o p = growing.types_kept Q P each kept w ts o p
    part_kept w (part.Channel c) o p = growing.channel_kept Q P each kept w c o p
    part_kept w (part.Header h) o p = growing.header_kept Q P each kept w h o p
    part_kept w (part.Body (Body' name header a parts f b groups)) o p =
        let o1 = body_named w name o in
        let v = inside w name header o1 in
        let o2 = header_given name header o1 in
        let o3 = row_parts v parts o2 in
        groups_row v groups (first_declares v f o3)
        (first_kept v f o3 (parts_row v parts o2 (named_kept w name header o p)))
    part_kept w (part.Modvars ms) o p = growing.modvars_kept Q P each kept w ms o p
    part_kept w (part.Points ps) o p = growing.points_kept Q P each kept w ps o p
    part_kept w (part.Vars vs) o p = growing.vars_kept Q P each kept w vs o p
    part_kept w (part.States us) o p = growing.states_kept Q P each kept w us o p
    part_kept w (part.StateSets ss) o p = growing.statesets_kept Q P each kept w ss o p
    part_kept w (part.Routine' name formals result a parts statements place) o p =
        let v = inner w name.place in
        let o1 = head_declares v name formals result (routine_named w name result o) in
        statements_kept v statements (row_parts v parts o1)
        (parts_row v parts o1 (head_kept v w name formals result o p))

    parts_row : (w : Within) {n : _} (row : Row_of-Part n) (o : Outline) → P o
        → P (row_parts w row o)
    parts_row w end_of-Part o p = p
    parts_row w (more_of-Part x rest) o p =
        let o1 = part_declares w x o in
        parts_row w rest (closed_by x o1) (closed_kept x o1 (part_kept w x o p))

    first_kept : (w : Within) (f : Held-Body-first) (o : Outline) → P o → P (first_declares w f o)
    first_kept w first.None' o p = p
    first_kept w (first.Some' to a parts statements place) o p =
        let v = inner w place in
        let o1 = to_lying w to o in
        statements_kept v statements (row_parts v parts o1) (parts_row v parts o1 (to_kept w to o p))

    groups_row : (w : Within) {n : _} (row : Row_of-Group n) (o : Outline) → P o
        → P (row_groups w row o)
    groups_row w end_of-Group o p = p
    groups_row w (more_of-Group (Group' a transitions) rest) o p =
        groups_row w rest (row_transitions w transitions ([], o)).1
        (transitions_row w transitions ([], o) p)

    transitions_row : (w : Within) {n : _} (row : Row_of-Transition n) (s : Clausal) → P s.1
        → P (row_transitions w row s).1
    transitions_row w end_of-Transition s p = p
    transitions_row w (more_of-Transition cs name a parts statements place rest) s p =
        let s1 = clauses_declare w cs s in
        let v = inner (under w s1.0) place in
        let o1 = row_parts v parts s1.1 in
        transitions_row w rest (s1.0, statements_declare v statements o1)
        (statements_kept v statements o1 (parts_row v parts s1.1 (clauses_kept w cs s p)))

  parts_kept : (w : Within) (xs : List Part) (o : Outline) → P o → P (parts_declare w xs o)
  parts_kept w [] o p = p
  parts_kept w (x ∷ xs) o p =
      let o1 = part_declares w x o in
      parts_kept w xs (closed_by x o1) (closed_kept x o1 (part_kept w x o p))

  -- so it holds of the outline of every tree
  pub grown : (s : Spec) → P (outline_of s)
  grown s =
      kept.lies (parts_declare outermost s.parts empty) outermost (statement_place s.first)
      (parts_kept outermost s.parts empty kept.begins)
