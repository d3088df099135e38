-- What bodies, routines, transitions and statements declare, and what a whole specification does
-- (ISO 9074, module-body-definition and transition-declaration; ISO 7185, 6.2.2).
use Rattle.std.specs.Prelude.{ℕ, List, [], ◌∷◌, Option, Some, None}
use Rattle.est_syntax.specs.Names.{spelled}
use Rattle.est_syntax.specs.declared.name.Used.{Used}
use Rattle.est_syntax.specs.declared.constant.Constant.{Constant}
use Rattle.est_syntax.specs.declared.type_text.TypeText.{TypeText}
use Rattle.est_syntax.specs.declared.type_text.TypeText.TheVariants as text
use Rattle.est_syntax.specs.declared.expression.Expr.{Expr, out-Expr}
use Rattle.est_syntax.specs.declared.statement.Statement.{Statement, Row_of-Statement}
use Rattle.est_syntax.specs.declared.statement.Statement.{end_of-Statement}
use Rattle.est_syntax.specs.declared.statement.Statement.{more_of-Statement}
use Rattle.est_syntax.specs.declared.statement.Statement.{Row_of-Arm, end_of-Arm}
use Rattle.est_syntax.specs.declared.statement.Statement.{more_of-Arm}
use Rattle.est_syntax.specs.declared.statement.Statement.{Held-Statement-If-2}
use Rattle.est_syntax.specs.declared.statement.Statement.TheVariants as statement
use Rattle.est_syntax.specs.declared.statement.Statement.TheBlock as held
use Rattle.est_syntax.specs.declared.transition.Clause.{Clause}
use Rattle.est_syntax.specs.declared.transition.Clause.TheVariants as clauses
use Rattle.est_syntax.specs.declared.body.Part.{Part, out-Part, Row_of-Part}
use Rattle.est_syntax.specs.declared.body.Part.{end_of-Part, more_of-Part}
use Rattle.est_syntax.specs.declared.body.Part.TheOpen as seen
use Rattle.est_syntax.specs.declared.body.Part.TheVariants as part
use Rattle.est_syntax.specs.declared.body.Block.{Block}
use Rattle.est_syntax.specs.declared.body.FirstPart.{FirstPart}
use Rattle.est_syntax.specs.declared.transition.Transition.{Transition}
use Rattle.est_syntax.specs.declared.body.Body.{Body, Body', Row_of-Group, end_of-Group}
use Rattle.est_syntax.specs.declared.body.Body.{more_of-Group, Held-Body-first}
use Rattle.est_syntax.specs.declared.body.Part.TheBlock as first
use Rattle.est_syntax.specs.declared.transition.Group.{Group, Group', Row_of-Transition}
use Rattle.est_syntax.specs.declared.transition.Group.{end_of-Transition}
use Rattle.est_syntax.specs.declared.transition.Group.{more_of-Transition}
use Rattle.est_syntax.specs.declared.routine.Formal.{Formal}
use Rattle.est_syntax.specs.declared.routine.Routine.{Routine, out-Routine}
use Rattle.est_syntax.specs.declared.type_text.VarDef.{VarDef}
use Rattle.est_syntax.specs.declared.specification.Spec.{Spec}
use Rattle.rule_kinds.specs.rule_scope.declared.declaration.Sort.{Sort}
use Rattle.rule_kinds.specs.rule_scope.declared.declaration.Sort.TheVariants as sort
use Rattle.rule_kinds.specs.rule_scope.declared.declaration.Entry.{Entry}
use Rattle.rule_kinds.specs.rule_scope.declared.declaration.Member.{Member}
use Rattle.rule_kinds.specs.rule_scope.declared.declaration.Member.TheVariants as member
use Rattle.rule_kinds.specs.rule_scope.declared.declaration.Section.TheVariants as section
use Rattle.rule_kinds.specs.rule_scope.declared.declaration.Side.{Side}
use Rattle.rule_kinds.specs.rule_scope.declared.declaration.Standing.{Standing}
use Rattle.rule_kinds.specs.rule_scope.declared.declaration.Within.{Within}
use Rattle.rule_kinds.specs.rule_scope.Outline.{Outline, standing, entry_at, member_at}
use Rattle.rule_kinds.specs.rule_scope.Declaring.{empty, declared, amended, with_kind}
use Rattle.rule_kinds.specs.rule_scope.Declaring.{with_header, with_closed, lying}
use Rattle.rule_kinds.specs.rule_scope.Uses.{declaration_of}
use Rattle.rule_kinds.specs.Constants.{constant_place}
use Rattle.rule_kinds.specs.TypeTexts.{text_type, named_type}
use Rattle.rule_uses.specs.Closed.{is_closed}
use Rattle.rule_declares.specs.declared.context.ClauseKind.{ClauseKind}
use Rattle.rule_declares.specs.declared.context.ClauseKind.TheVariants as clause
use Rattle.rule_declares.specs.declared.context.Given.{Given}
use Rattle.rule_declares.specs.Contexts.{dropped, given, under}
use Rattle.rule_declares.specs.Entries.{plain, typed, module_variable, outermost}
use Rattle.rule_declares.specs.Entries.{in_body, inner, in_region, in_section}
use Rattle.rule_declares.specs.Lasts.{text_last}
use Rattle.rule_declares.specs.Declares.{consts_declare, types_declare, vars_declare}
use Rattle.rule_declares.specs.Declares.{channel_declares, header_declares}
use Rattle.rule_declares.specs.Declares.{modvars_declare, points_declare, states_declare}
use Rattle.rule_declares.specs.Declares.{statesets_declare, formals_declare}

-- the place of the first token of a statement
abbrev pub statement_place : Statement → ℕ
statement_place (statement.Empty place) = place
statement_place (statement.Compound' a turn place) = place
statement_place (statement.Assign target path value place) = place
statement_place (statement.Call name arguments place) = place
statement_place (statement.If' condition a first second place) = place
statement_place (statement.Case' value a arms place) = place
statement_place (statement.While' condition a turn place) = place
statement_place (statement.Repeat' a turn until place) = place
statement_place (statement.For' name first down last a turn place) = place
statement_place (statement.All' name over a turn place) = place
statement_place (statement.Output sendings place) = place
statement_place (statement.Init target body arguments place) = place
statement_place (statement.Release target place) = place
statement_place (statement.Connect one other place) = place
statement_place (statement.Disconnect end place) = place
statement_place (statement.Attach own child point place) = place
statement_place (statement.Detach end place) = place

-- the name of an `all`: a module variable without subscripts where it goes over a header, and else
-- a variable
abbrev pub over_header : Outline → TypeText → Option ℕ
over_header o (text.Named u) = declaration_of o sort.Header u
over_header o _ = None

abbrev pub all_by : Within → Outline → TypeText → Option ℕ → Entry
all_by w o over None = typed w sort.Variable (text_type o over)
all_by w o over (Some header) = module_variable w (Some []) (Some header)

abbrev pub all_named : Within → Used → TypeText → Outline → Outline
all_named w u over o = declared w u (text_last over)
    (all_by (in_section section.All w) o over (over_header o over)) o

-- the place of the first token of an expression
abbrev pub expr_place : Expr → ℕ
expr_place e = (out-Expr e).place

-- what stands after a `case` constant or an `until` lies again where the statement does
abbrev pub arm_lying : Within → List Constant → Outline → Outline
arm_lying w [] o = o
arm_lying w (c ∷ cs) o = lying w (constant_place c) o

-- The names of `all` within a statement. Each statement says from its first token on where the text
-- lies.
abbrev mutual
  pub within_declares : Within → Statement → Outline → Outline
  within_declares w (statement.Compound' a turn place) o = row_statements w turn o
  within_declares w (statement.If' condition a first second place) o =
      held_declares w second (row_statements w first o)
  within_declares w (statement.Case' value a arms place) o = row_arms w arms o
  within_declares w (statement.While' condition a turn place) o = row_statements w turn o
  within_declares w (statement.Repeat' a turn until place) o =
      lying w (expr_place until) (row_statements w turn o)
  within_declares w (statement.For' name first down last a turn place) o = row_statements w turn o
  within_declares w (statement.All' name over a turn place) o =
      row_statements (inner w place) turn (all_named (inner w place) name over o)
  within_declares w _ o = o

  pub row_statements : Within → {n : _} → Row_of-Statement n → Outline → Outline
  row_statements w end_of-Statement o = o
  row_statements w (more_of-Statement s rest) o =
      row_statements w rest (within_declares w s (lying w (statement_place s) o))

  pub held_declares : Within → Held-Statement-If-2 → Outline → Outline
  held_declares w held.None' o = o
  held_declares w (held.Some' a second) o = row_statements w second o

  pub row_arms : Within → {n : _} → Row_of-Arm n → Outline → Outline
  row_arms w end_of-Arm o = o
  row_arms w (more_of-Arm constants s rest) o = row_arms w rest
      (within_declares w s (lying w (statement_place s) (arm_lying w constants o)))

-- a statement, and statements in order
abbrev pub statement_declares : Within → Statement → Outline → Outline
statement_declares w s o = within_declares w s (lying w (statement_place s) o)

abbrev pub statements_declare : Within → List Statement → Outline → Outline
statements_declare w [] o = o
statements_declare w (s ∷ ss) o = statements_declare w ss (statement_declares w s o)

-- the interaction of an interaction point's channel, by the place of its name, where there is one
abbrev pub interaction_in : Option Member → Standing → Option ℕ
interaction_in (Some (member.Interaction senders)) s = Some s.place
interaction_in _ s = None

abbrev pub interaction_by : Outline → Option Standing → Option ℕ
interaction_by o None = None
interaction_by o (Some s) = interaction_in (member_at o s.place) s

abbrev pub interaction_at : Outline → Option Side → Used → Option ℕ
interaction_at o None u = None
interaction_at o (Some side) u = interaction_by o (standing o side.channel (spelled u))

abbrev pub side_in : Option Entry → Option Side
side_in None = None
side_in (Some e) = e.side

abbrev pub side_meant : Outline → Option ℕ → Option Side
side_meant o None = None
side_meant o (Some p) = side_in (entry_at o p)

-- the interaction that a `when` names at an interaction point
abbrev pub awaited : Outline → Used → Used → Option ℕ
awaited o at u = interaction_at o (side_meant o (declaration_of o sort.Point at)) u

-- The clauses of a transition, after those that are given. Each says from its first token on where
-- the text lies: a clause sees the names of those before it.
abbrev pub Clausal : Type 0
Clausal = List Given × Outline

abbrev pub clause_given : Within → ClauseKind → ℕ → Clausal → Clausal
clause_given w k place (gs, o) =
    (given k None (dropped k gs), lying (under w (dropped k gs)) place o)

abbrev pub awaiting : Used → Used → Clausal → Clausal
awaiting at u (gs, o) = (given clause.When (awaited o at u) gs, o)

abbrev pub when_given : Within → Used → Used → ℕ → Clausal → Clausal
when_given w at u place (gs, o) =
    awaiting at u (dropped clause.When gs, lying (under w (dropped clause.When gs)) place o)

abbrev pub choosing : Within → List VarDef → ℕ → Clausal → Clausal
choosing w names place (gs, o) = (
  gs,
  vars_declare (in_region section.Any (under w gs) place) names (lying (under w gs) place o),
)

abbrev pub any_given : Within → List VarDef → ℕ → Clausal → Clausal
any_given w names place (gs, o) =
    choosing w names place (given clause.Any (Some place) (dropped clause.Any gs), o)

abbrev pub clause_declares : Within → Clause → Clausal → Clausal
clause_declares w (clauses.From states place) s = clause_given w clause.From place s
clause_declares w (clauses.To state place) s = clause_given w clause.To place s
clause_declares w (clauses.When at signal place) s = when_given w at.name signal place s
clause_declares w (clauses.Provided condition place) s = clause_given w clause.Provided place s
clause_declares w (clauses.Otherwise place) s = clause_given w clause.Provided place s
clause_declares w (clauses.Any names place) s = any_given w names place s
clause_declares w (clauses.Priority value place) s = clause_given w clause.Priority place s
clause_declares w (clauses.Delay least most place) s = clause_given w clause.Delay place s

abbrev pub clauses_declare : Within → List Clause → Clausal → Clausal
clauses_declare w [] s = s
clauses_declare w (c ∷ cs) s = clauses_declare w cs (clause_declares w c s)

-- a body's name and header, and what stands in it
abbrev pub body_named : Within → Used → Outline → Outline
body_named w name o = declared w name name.place (plain w sort.Body) (lying w name.place o)

abbrev pub body_header : Outline → Used → Option ℕ
body_header o header = declaration_of o sort.Header header

abbrev pub header_given : Used → Used → Outline → Outline
header_given name header o = amended (with_header (body_header o header)) name.place o

abbrev pub inside : Within → Used → Used → Outline → Within
inside w name header o = in_body w name.place (body_header o header)

-- the name of a routine
abbrev pub routine_sort : Option Used → Sort
routine_sort None = sort.Procedure
routine_sort (Some u) = sort.Function

abbrev pub routine_named : Within → Used → Option Used → Outline → Outline
routine_named w name result o =
    declared w name name.place (plain w (routine_sort result)) (lying w name.place o)

-- the kind of a function is that of its result
abbrev pub result_by : Used → Used → Outline → Outline
result_by name u o = amended (with_kind (named_type o u)) name.place o

abbrev pub result_given : Within → Used → Option Used → Outline → Outline
result_given w name None o = o
result_given w name (Some u) o = result_by name u (lying w u.place o)

-- the head of a routine
abbrev pub head_declares : Within → Used → List Formal → Option Used → Outline → Outline
head_declares w name formals result o = result_given w name result (formals_declare w formals o)

-- where the first state of a body is named, the text lies in the body
abbrev pub to_lying : Within → Option Used → Outline → Outline
to_lying w None o = o
to_lying w (Some u) o = lying w u.place o

-- a routine is closed by the names of its text
abbrev pub closed_by : Part → Outline → Outline
closed_by p o = by (out-Part p)
  where
    by : seen.Part-F Part Block Body FirstPart Routine Group Transition → Outline
    by (seen.Routine r) = amended (with_closed (is_closed o r)) (out-Routine r).name.place o
    by _ = o

-- What a declaration part declares, and what transitions do.
abbrev mutual
  pub part_declares : Within → Part → Outline → Outline
  part_declares w (part.Consts cs) o = consts_declare w cs o
  part_declares w (part.Types ts) o = types_declare w ts o
  part_declares w (part.Channel c) o = channel_declares w c o
  part_declares w (part.Header h) o = header_declares w h o
  part_declares w (part.Body (Body' name header a parts f b groups)) o =
      let v = inside w name header (body_named w name o) in
      row_groups v groups
      (first_declares v f (row_parts v parts (header_given name header (body_named w name o))))
  part_declares w (part.Modvars ms) o = modvars_declare w ms o
  part_declares w (part.Points ps) o = points_declare w ps o
  part_declares w (part.Vars vs) o = vars_declare w vs o
  part_declares w (part.States us) o = states_declare w us o
  part_declares w (part.StateSets ss) o = statesets_declare w ss o
  part_declares w (part.Routine' name formals result a parts statements place) o =
      let v = inner w name.place in
      statements_declare v statements
      (row_parts v parts (head_declares v name formals result (routine_named w name result o)))

  pub row_parts : Within → {n : _} → Row_of-Part n → Outline → Outline
  row_parts w end_of-Part o = o
  row_parts w (more_of-Part p rest) o = row_parts w rest (closed_by p (part_declares w p o))

  pub first_declares : Within → Held-Body-first → Outline → Outline
  first_declares w first.None' o = o
  first_declares w (first.Some' to a parts statements place) o = let v = inner w place in
      statements_declare v statements (row_parts v parts (to_lying w to o))

  pub row_groups : Within → {n : _} → Row_of-Group n → Outline → Outline
  row_groups w end_of-Group o = o
  row_groups w (more_of-Group (Group' a transitions) rest) o =
      row_groups w rest (row_transitions w transitions ([], o)).1

  pub row_transitions : Within → {n : _} → Row_of-Transition n → Clausal → Clausal
  row_transitions w end_of-Transition s = s
  row_transitions w (more_of-Transition cs name a parts statements place rest) s =
      let s1 = clauses_declare w cs s in
      let v = inner (under w s1.0) place in
      row_transitions w rest (s1.0, statements_declare v statements (row_parts v parts s1.1))

-- the parts of a specification, in order
abbrev pub parts_declare : Within → List Part → Outline → Outline
parts_declare w [] o = o
parts_declare w (p ∷ ps) o = parts_declare w ps (closed_by p (part_declares w p o))

-- all that a specification declares
abbrev pub outline_of : Spec → Outline
outline_of s = lying outermost (statement_place s.first) (parts_declare outermost s.parts empty)
