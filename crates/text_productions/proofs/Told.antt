-- Each layer that shows a shape tells its part.
use Rattle.std.proofs.Common.{◌≡◌, ℕ, Bool, true, false, List, []}
use Rattle.std.proofs.Common.{◌∷◌, Option, Some, None, refl, ◌∙◌, ap}
use Rattle.est_syntax.specs.declared.name.Used.{Used}
use Rattle.est_syntax.specs.declared.type_text.TypeText.{out-TypeText, roll-TypeText}
use Rattle.est_syntax.specs.declared.type_text.TypeText.{roll-out-TypeText}
use Rattle.est_syntax.specs.declared.type_text.VarDef.{out-VarDef, roll-VarDef, roll-out-VarDef}
use Rattle.est_syntax.specs.declared.header.Queue.{Queue}
use Rattle.est_syntax.specs.declared.body.Block.{out-Block, roll-Block, roll-out-Block}
use Rattle.est_syntax.specs.declared.body.FirstPart.{FirstPart, out-FirstPart}
use Rattle.est_syntax.specs.declared.body.FirstPart.{roll-FirstPart, roll-out-FirstPart}
use Rattle.est_syntax.specs.declared.body.Body.{out-Body, roll-Body, roll-out-Body}
use Rattle.est_syntax.specs.declared.body.Part.{out-Part, roll-Part, roll-out-Part}
use Rattle.est_syntax.specs.declared.body.Part.TheOpen as part
use Rattle.est_syntax.specs.declared.routine.Routine.{out-Routine, roll-out-Routine}
use Rattle.est_syntax.specs.declared.transition.Most.{Most}
use Rattle.est_syntax.specs.declared.transition.Most.TheVariants as most
use Rattle.est_syntax.specs.declared.transition.Clause.{Clause}
use Rattle.est_syntax.specs.declared.transition.Clause.TheVariants as clause
use Rattle.est_syntax.specs.declared.transition.Transition.{out-Transition, roll-Transition}
use Rattle.est_syntax.specs.declared.transition.Transition.{roll-out-Transition}
use Rattle.est_syntax.specs.declared.transition.Group.{out-Group, roll-Group, roll-out-Group}
use Rattle.est_syntax.specs.declared.expression.Selector.{Selector, out-Selector}
use Rattle.est_syntax.specs.declared.expression.Selector.{roll-Selector, roll-out-Selector}
use Rattle.est_syntax.specs.declared.expression.Member.{out-Member, roll-Member, roll-out-Member}
use Rattle.est_syntax.specs.declared.expression.Factor.{out-Factor, roll-Factor, roll-out-Factor}
use Rattle.est_syntax.specs.declared.expression.ProductStep.{out-ProductStep, roll-ProductStep}
use Rattle.est_syntax.specs.declared.expression.ProductStep.{roll-out-ProductStep}
use Rattle.est_syntax.specs.declared.expression.Term.{out-Term, roll-Term, roll-out-Term}
use Rattle.est_syntax.specs.declared.expression.SumStep.{out-SumStep, roll-SumStep}
use Rattle.est_syntax.specs.declared.expression.SumStep.{roll-out-SumStep}
use Rattle.est_syntax.specs.declared.expression.Simple.{out-Simple, roll-Simple, roll-out-Simple}
use Rattle.est_syntax.specs.declared.expression.Expr.{Expr, out-Expr, roll-Expr, roll-out-Expr}
use Rattle.est_syntax.specs.declared.expression.Access.{Access}
use Rattle.est_syntax.specs.declared.statement.Arm.{out-Arm, roll-Arm, roll-out-Arm}
use Rattle.est_syntax.specs.declared.statement.Statement.{Statement, out-Statement}
use Rattle.est_syntax.specs.declared.statement.Statement.{roll-Statement, roll-out-Statement}
use Rattle.est_syntax.specs.declared.statement.Statement.TheOpen as statement
use Rattle.text_reader.specs.Shown.{empty, at, pair, first, second, given, node}
use Rattle.text_reader.specs.Shown.{nodes, sections, s_at, s_pair, s_first}
use Rattle.text_reader.specs.Going.{Shape}
use Rattle.text_productions.specs.Nodes as shown
use Rattle.text_productions.specs.Nodes.{Node, View, a_use, a_constant, a_constant_definition}
use Rattle.text_productions.specs.Nodes.{a_type, a_short_type, a_type_definition, a_field}
use Rattle.text_productions.specs.Nodes.{a_variable, a_parameter, an_export, an_interaction}
use Rattle.text_productions.specs.Nodes.{a_by_part, a_channel, a_point, a_header, a_module_variable}
use Rattle.text_productions.specs.Nodes.{a_state_set, a_formal, a_routine, a_common_part}
use Rattle.text_productions.specs.Nodes.{a_body_part, a_block_part, a_block, a_clause, a_transition}
use Rattle.text_productions.specs.Nodes.{a_group, a_body, an_access, an_end_point, a_statement}
use Rattle.text_productions.specs.Nodes.{an_arm, a_sending, an_expr, a_simple, a_sum_step, a_term}
use Rattle.text_productions.specs.Nodes.{a_product_step, a_factor, a_selector, a_member}
use Rattle.text_productions.specs.Nodes.{a_specification, layer, StatementForm, PartForm}
use Rattle.text_productions.proofs.Sorts.{Tag, uses, constants, constant_definitions, types}
use Rattle.text_productions.proofs.Sorts.{short_types, type_definitions, fields, variables}
use Rattle.text_productions.proofs.Sorts.{parameters, exports, interactions, by_parts, channels}
use Rattle.text_productions.proofs.Sorts.{points, headers, module_variables, state_sets, formals}
use Rattle.text_productions.proofs.Sorts.{routines, common_parts, body_parts, block_parts}
use Rattle.text_productions.proofs.Sorts.{blocks, clauses, transitions, groups, bodies, accesses}
use Rattle.text_productions.proofs.Sorts.{end_points, statements, arms, sendings, exprs, simples}
use Rattle.text_productions.proofs.Sorts.{sum_steps, terms, product_steps, factors, selectors}
use Rattle.text_productions.proofs.Sorts.{members, specifications, tag}
use Rattle.text_productions.proofs.Pieces.{Has, read, use_of, uses_back, constant_of}
use Rattle.text_productions.proofs.Pieces.{constants_back}
use Rattle.text_productions.proofs.Pieces.{constant_definition_of, constant_definitions_back}
use Rattle.text_productions.proofs.Pieces.{type_definition_of, type_definitions_back, variable_of}
use Rattle.text_productions.proofs.Pieces.{variables_back, parameter_of, parameters_back, export_of}
use Rattle.text_productions.proofs.Pieces.{exports_back, point_of, points_back, module_variable_of}
use Rattle.text_productions.proofs.Pieces.{module_variables_back, state_set_of, state_sets_back}
use Rattle.text_productions.proofs.Pieces.{common_part_of, common_parts_back, body_part_of}
use Rattle.text_productions.proofs.Pieces.{body_parts_back, block_part_of, block_parts_back}
use Rattle.text_productions.proofs.Pieces.{clause_of, clauses_back, transition_of, transitions_back}
use Rattle.text_productions.proofs.Pieces.{group_of, groups_back, statement_of, statements_back}
use Rattle.text_productions.proofs.Pieces.{arm_of, arms_back, sending_of, sendings_back, expr_of}
use Rattle.text_productions.proofs.Pieces.{exprs_back, sum_step_of, sum_steps_back, product_step_of}
use Rattle.text_productions.proofs.Pieces.{product_steps_back, selector_of, selectors_back, used_in}
use Rattle.text_productions.proofs.Pieces.{name_given_in, name_given_back, is_second, constant_in}
use Rattle.text_productions.proofs.Pieces.{constant_back, short_in, short_back, type_in, type_back}
use Rattle.text_productions.proofs.Pieces.{parameters_in, parameters_are, by_part_in, by_part_back}
use Rattle.text_productions.proofs.Pieces.{channel_in, channel_back, queue_in, queue_back}
use Rattle.text_productions.proofs.Pieces.{queue_given_in, queue_given_back, dimensions_in}
use Rattle.text_productions.proofs.Pieces.{dimensions_back, place_in, place_back, is_first}
use Rattle.text_productions.proofs.Pieces.{attribute_back, is_given, by_place_back, routine_in}
use Rattle.text_productions.proofs.Pieces.{routine_back, adding_in, adding_back, multiplying_in}
use Rattle.text_productions.proofs.Pieces.{multiplying_back, relation_in, relation_back, sign_in}
use Rattle.text_productions.proofs.Pieces.{sign_back, exprs_given_in, exprs_given_back}
use Rattle.text_productions.proofs.Pieces.{factor_in, factor_back, selector_in, selector_back}
use Rattle.text_productions.proofs.Pieces.{expr_given_in, expr_given_back, access_given_in}
use Rattle.text_productions.proofs.Pieces.{access_given_back}

-- STATEMENTS

abbrev else_part_in : View → Option Statement
else_part_in (given (node (a_statement s))) = Some s
else_part_in v = None

else_part_back : (o : Option Statement) → else_part_in (shown.else_part o) ≡ o
else_part_back None = refl
else_part_back (Some s) = refl

direction_back : (down : Bool) → is_second (shown.direction down) ≡ down
direction_back false = refl
direction_back true = refl

abbrev assigned_in : View → List Selector
assigned_in (given (nodes ns)) = read selector_of ns
assigned_in v = []

assigned_back : (ss : List Selector) → assigned_in (shown.path ss) ≡ ss
assigned_back [] = refl
assigned_back (s ∷ ss) = selectors_back (s ∷ ss)

-- what stands after the name of an assignment or of a call
abbrev rest_in : Used → ℕ → View → StatementForm
rest_in name place (given (first (pair v (node (an_expr value))))) = statement.Assign name
    (assigned_in v) value place
rest_in name place (given (second (pair (nodes ns) empty))) = statement.Call name (read expr_of ns)
    place
rest_in name place v = statement.Call name [] place

call_back : (name : Used) (place : ℕ) (es : List Expr)
    → rest_in name place (shown.call es) ≡ statement.Call name es place
call_back name place [] = refl
call_back name place (e ∷ es) = ap (λ l. statement.Call name l place) (exprs_back (e ∷ es))

abbrev init_in : ℕ → View → Option StatementForm
init_in place (pair (node (an_access target)) (pair v w)) =
    Some (statement.Init target (used_in v) (exprs_given_in w) place)
init_in place v = None

init_back : (target : Access) (body : Used) (es : List Expr) (place : ℕ)
    → init_in place (shown.init target body es) ≡ Some (statement.Init target body es place)
init_back target body es place = ap (λ l. Some (statement.Init target body l place))
    (exprs_given_back es)

abbrev compound_in : ℕ → View → Option StatementForm
compound_in place (pair (nodes ns) empty) = Some (statement.Compound (read statement_of ns) place)
compound_in place v = None

abbrev if_in : ℕ → View → Option StatementForm
if_in place (pair (node (an_expr condition)) (pair (node (a_statement one)) v)) =
    Some (statement.If condition one (else_part_in v) place)
if_in place v = None

abbrev case_in : ℕ → View → Option StatementForm
case_in place (pair (node (an_expr value)) (pair (nodes ns) empty)) =
    Some (statement.Case value (read arm_of ns) place)
case_in place v = None

abbrev while_in : ℕ → View → Option StatementForm
while_in place (pair (node (an_expr condition)) (node (a_statement turn))) =
    Some (statement.While condition turn place)
while_in place v = None

abbrev repeat_in : ℕ → View → Option StatementForm
repeat_in place (pair (nodes ns) (node (an_expr until))) =
    Some (statement.Repeat (read statement_of ns) until place)
repeat_in place v = None

abbrev for_in : ℕ → View → Option StatementForm
for_in place (pair v (pair (node (an_expr from))
    (pair w (pair (node (an_expr to)) (node (a_statement turn)))))) =
    Some (statement.For (used_in v) from (is_second w) to turn place)
for_in place v = None

abbrev all_in : ℕ → View → Option StatementForm
all_in place (pair v (pair (node (a_short_type over)) (node (a_statement turn)))) =
    Some (statement.All (used_in v) over turn place)
all_in place v = None

abbrev connect_in : ℕ → View → Option StatementForm
connect_in place (pair (node (an_end_point one)) (node (an_end_point other))) =
    Some (statement.Connect one other place)
connect_in place v = None

abbrev attach_in : ℕ → View → Option StatementForm
attach_in place (pair (node (an_access own)) (pair (node (an_access child))
    (node (an_access ip)))) = Some (statement.Attach own child ip place)
attach_in place v = None

-- the alternative that was chosen
abbrev chosen_in : ℕ → View → Option StatementForm
chosen_in place (first v) = compound_in place v
chosen_in place (second (first (pair v w))) = Some (rest_in (used_in v) place w)
chosen_in place (second (second (first v))) = if_in place v
chosen_in place (second (second (second (first v)))) = case_in place v
chosen_in place (second (second (second (second (first v))))) = while_in place v
chosen_in place (second (second (second (second (second (first v)))))) = repeat_in place v
chosen_in place (second (second (second (second (second (second (first v))))))) = for_in place v
chosen_in place (second (second (second (second (second (second (second (first v)))))))) =
    all_in place v
chosen_in place (second (second
    (second (second (second (second (second (second (first (nodes ns)))))))))) =
    Some (statement.Output (read sending_of ns) place)
chosen_in place (second (second
    (second (second (second (second (second (second (second (first v)))))))))) = init_in place v
chosen_in place (second (second
    (second
    (second
    (second (second (second (second (second (second (first (node (an_access target))))))))))))) =
    Some (statement.Release target place)
chosen_in place (second (second
    (second (second (second (second (second (second (second (second (second (first v)))))))))))) =
    connect_in place v
chosen_in place (second (second
    (second
    (second
    (second
    (second
    (second (second (second (second (second (second (first (node (an_end_point end_))))))))))))))) =
    Some (statement.Disconnect end_ place)
chosen_in place (second (second
    (second
    (second
    (second (second (second (second (second (second (second (second (second (first v)))))))))))))) =
    attach_in place v
chosen_in place (second (second
    (second
    (second
    (second
    (second
    (second
    (second
    (second (second (second (second (second (second (node (an_end_point end_)))))))))))))))) =
    Some (statement.Detach end_ place)
chosen_in place v = None

abbrev statement_in : View → Option StatementForm
statement_in (at place empty) = Some (statement.Empty place)
statement_in (at place (given v)) = chosen_in place v
statement_in v = None

statement_back : (s : StatementForm) → statement_in (shown.statement s) ≡ Some s
statement_back (statement.Empty place) = refl
statement_back (statement.Compound ss place) = ap (λ l. Some (statement.Compound l place))
    (statements_back ss)
statement_back (statement.Assign target path value place) =
    ap (λ l. Some (statement.Assign target l value place)) (assigned_back path)
statement_back (statement.Call name es place) = ap (λ s. Some s) (call_back name place es)
statement_back (statement.If condition one other place) =
    ap (λ o. Some (statement.If condition one o place)) (else_part_back other)
statement_back (statement.Case value as_ place) = ap (λ l. Some (statement.Case value l place))
    (arms_back as_)
statement_back (statement.While condition turn place) = refl
statement_back (statement.Repeat ss until place) = ap (λ l. Some (statement.Repeat l until place))
    (statements_back ss)
statement_back (statement.For name from down to turn place) =
    ap (λ b. Some (statement.For name from b to turn place)) (direction_back down)
statement_back (statement.All name over turn place) = refl
statement_back (statement.Output os place) = ap (λ l. Some (statement.Output l place))
    (sendings_back os)
statement_back (statement.Init target body es place) = init_back target body es place
statement_back (statement.Release target place) = refl
statement_back (statement.Connect one other place) = refl
statement_back (statement.Disconnect end_ place) = refl
statement_back (statement.Attach own child ip place) = refl
statement_back (statement.Detach end_ place) = refl

-- TRANSITIONS AND BODIES

abbrev next_state_in : View → Option Used
next_state_in (first v) = Some (used_in v)
next_state_in v = None

next_state_back : (o : Option Used) → next_state_in (shown.next_state o) ≡ o
next_state_back (Some state) = refl
next_state_back None = refl

abbrev most_in : View → Most
most_in (given (first (node (an_expr e)))) = most.Value e
most_in (given (second v)) = most.Never
most_in v = most.Same

most_back : (m : Most) → most_in (shown.most m) ≡ m
most_back most.Same = refl
most_back (most.Value e) = refl
most_back most.Never = refl

abbrev clause_in : View → Option Clause
clause_in (at place (first (nodes ns))) = Some (clause.From (read use_of ns) place)
clause_in (at place (second (first v))) = Some (clause.To (next_state_in v) place)
clause_in (at place (second (second (first (pair (node (an_access ip)) v))))) =
    Some (clause.When ip (used_in v) place)
clause_in (at place (second (second (second (first (first (node (an_expr condition)))))))) =
    Some (clause.Provided condition place)
clause_in (at place (second (second (second (first (second v)))))) = Some (clause.Otherwise place)
clause_in (at place (second (second (second (second (first (pair (nodes ns) empty))))))) =
    Some (clause.Any (read parameter_of ns) place)
clause_in (at place (second
    (second (second (second (second (first (node (a_constant value))))))))) =
    Some (clause.Priority value place)
clause_in (at place (second
    (second (second (second (second (second (pair (node (an_expr least)) (pair v empty))))))))) =
    Some (clause.Delay least (most_in v) place)
clause_in v = None

clause_back : (c : Clause) → clause_in (shown.clause c) ≡ Some c
clause_back (clause.From states place) = ap (λ l. Some (clause.From l place)) (uses_back states)
clause_back (clause.To state place) = ap (λ o. Some (clause.To o place)) (next_state_back state)
clause_back (clause.When ip signal place) = refl
clause_back (clause.Provided condition place) = refl
clause_back (clause.Otherwise place) = refl
clause_back (clause.Any vs place) = ap (λ l. Some (clause.Any l place)) (parameters_back vs)
clause_back (clause.Priority value place) = refl
clause_back (clause.Delay least bound place) = ap (λ m. Some (clause.Delay least m place))
    (most_back bound)

-- a name that may be left out, with a word after it
abbrev name_before_in : View → Option Used
name_before_in (given (pair v empty)) = Some (used_in v)
name_before_in v = None

transition_name_back : (o : Option Used) → name_before_in (shown.transition_name o) ≡ o
transition_name_back None = refl
transition_name_back (Some u) = refl

abbrev first_part_in : View → Option FirstPart
first_part_in (given (pair v (pair (node (a_block block)) empty))) =
    Some (roll-FirstPart record { to = name_given_in v; block = block })
first_part_in v = None

first_part_back : (o : Option FirstPart) → first_part_in (shown.first_part o) ≡ o
first_part_back None = refl
first_part_back (Some f) = ap (λ o. Some (roll-FirstPart record {
  to = o;
  block = (out-FirstPart f).block;
})) (name_given_back (out-FirstPart f).to) ∙ ap (λ x. Some x) (roll-out-FirstPart f)

abbrev common_in : View → Option PartForm
common_in (first (nodes ns)) = Some (part.Consts (read constant_definition_of ns))
common_in (second (first (nodes ns))) = Some (part.Types (read type_definition_of ns))
common_in (second (second (first (node (a_channel c))))) = Some (part.Channel c)
common_in (second (second (second (first (node (a_header h)))))) = Some (part.Header h)
common_in (second (second (second (second (first (node (a_body b))))))) = Some (part.Body b)
common_in (second (second (second (second (second (first (node (a_routine r)))))))) =
    Some (part.Routine r)
common_in (second (second (second (second (second (second (nodes ns))))))) =
    Some (part.Modvars (read module_variable_of ns))
common_in v = None

common_back : (p : PartForm) {t : Shape} → Has (shown.common_part p) t
    → common_in (shown.common_part p) ≡ Some p
common_back (part.Consts ds) d = ap (λ l. Some (part.Consts l)) (constant_definitions_back ds)
common_back (part.Types ds) d = ap (λ l. Some (part.Types l)) (type_definitions_back ds)
common_back (part.Channel c) d = refl
common_back (part.Header h) d = refl
common_back (part.Body b) d = refl
common_back (part.Routine r) d = refl
common_back (part.Modvars ms) d = ap (λ l. Some (part.Modvars l)) (module_variables_back ms)
common_back (part.Points ps) d = elim d [ ]
common_back (part.Vars vs) d = elim d [ ]
common_back (part.States us) d = elim d [ ]
common_back (part.StateSets ss) d = elim d [ ]

abbrev body_part_in : View → Option PartForm
body_part_in (first v) = common_in v
body_part_in (second (first (nodes ns))) = Some (part.Points (read point_of ns))
body_part_in (second (second (first (nodes ns)))) = Some (part.Vars (read variable_of ns))
body_part_in (second (second (second (first (pair (nodes ns) empty))))) =
    Some (part.States (read use_of ns))
body_part_in (second (second (second (second (nodes ns))))) =
    Some (part.StateSets (read state_set_of ns))
body_part_in v = None

body_part_back : (p : PartForm) {t : Shape} → Has (shown.body_part p) t
    → body_part_in (shown.body_part p) ≡ Some p
body_part_back (part.Points ps) d = ap (λ l. Some (part.Points l)) (points_back ps)
body_part_back (part.Vars vs) d = ap (λ l. Some (part.Vars l)) (variables_back vs)
body_part_back (part.States us) d = ap (λ l. Some (part.States l)) (uses_back us)
body_part_back (part.StateSets ss) d = ap (λ l. Some (part.StateSets l)) (state_sets_back ss)
body_part_back (part.Consts ds) (s_first d) = common_back (part.Consts ds) d
body_part_back (part.Types ds) (s_first d) = common_back (part.Types ds) d
body_part_back (part.Channel c) d = refl
body_part_back (part.Header h) d = refl
body_part_back (part.Body b) d = refl
body_part_back (part.Routine r) d = refl
body_part_back (part.Modvars ms) (s_first d) = common_back (part.Modvars ms) d

abbrev block_part_in : View → Option PartForm
block_part_in (first (nodes ns)) = Some (part.Consts (read constant_definition_of ns))
block_part_in (second (first (nodes ns))) = Some (part.Types (read type_definition_of ns))
block_part_in (second (second (nodes ns))) = Some (part.Vars (read variable_of ns))
block_part_in v = None

block_part_back : (p : PartForm) {t : Shape} → Has (shown.block_part p) t
    → block_part_in (shown.block_part p) ≡ Some p
block_part_back (part.Consts ds) d = ap (λ l. Some (part.Consts l)) (constant_definitions_back ds)
block_part_back (part.Types ds) d = ap (λ l. Some (part.Types l)) (type_definitions_back ds)
block_part_back (part.Vars vs) d = ap (λ l. Some (part.Vars l)) (variables_back vs)
block_part_back (part.Channel c) d = elim d [ ]
block_part_back (part.Header h) d = elim d [ ]
block_part_back (part.Body b) d = elim d [ ]
block_part_back (part.Routine r) d = elim d [ ]
block_part_back (part.Modvars ms) d = elim d [ ]
block_part_back (part.Points ps) d = elim d [ ]
block_part_back (part.States us) d = elim d [ ]
block_part_back (part.StateSets ss) d = elim d [ ]

-- SPECIFICATIONS

abbrev default_queue_in : View → Option Queue
default_queue_in (given (pair v empty)) = Some (queue_in v)
default_queue_in v = None

default_queue_back : (o : Option Queue) → default_queue_in (shown.default_queue o) ≡ o
default_queue_back None = refl
default_queue_back (Some q) = ap (λ x. Some x) (queue_back q)

time_scale_back : (o : Option Used) → name_before_in (shown.time_scale o) ≡ o
time_scale_back None = refl
time_scale_back (Some u) = refl

abbrev first_statement_in : View → StatementForm
first_statement_in (at place (pair (node (an_access target)) (pair v w))) = statement.Init target
    (used_in v) (exprs_given_in w) place
first_statement_in v = statement.Empty 0

first_statement_back : (s : StatementForm) {t : Shape} → Has (shown.first_statement s) t
    → first_statement_in (shown.first_statement s) ≡ s
first_statement_back (statement.Init target body es place) d =
    ap (λ l. statement.Init target body l place) (exprs_given_back es)
first_statement_back (statement.Empty place) d = elim d [ ]
first_statement_back (statement.Compound ss place) d = elim d [ ]
first_statement_back (statement.Assign target path value place) d = elim d [ ]
first_statement_back (statement.Call name es place) d = elim d [ ]
first_statement_back (statement.If condition one other place) d = elim d [ ]
first_statement_back (statement.Case value as_ place) d = elim d [ ]
first_statement_back (statement.While condition turn place) d = elim d [ ]
first_statement_back (statement.Repeat ss until place) d = elim d [ ]
first_statement_back (statement.For name from down to turn place) d = elim d [ ]
first_statement_back (statement.All name over turn place) d = elim d [ ]
first_statement_back (statement.Output os place) d = elim d [ ]
first_statement_back (statement.Release target place) d = elim d [ ]
first_statement_back (statement.Connect one other place) d = elim d [ ]
first_statement_back (statement.Disconnect end_ place) d = elim d [ ]
first_statement_back (statement.Attach own child ip place) d = elim d [ ]
first_statement_back (statement.Detach end_ place) d = elim d [ ]

-- EACH SORT OF PART

-- what is found, made a part
abbrev made : {A : Type 0} → (A → Node) → Option A → Option Node
made f None = None
made f (Some x) = Some (f x)

abbrev from_names : Tag → List Used → View → Option Node
from_names fields us (node (a_type x)) =
    Some (a_field (roll-VarDef record { names = us; text = x }))
from_names parameters us (node (a_short_type x)) =
    Some (a_parameter (roll-VarDef record { names = us; text = x }))
from_names variables us (pair (node (a_type x)) empty) =
    Some (a_variable (roll-VarDef record { names = us; text = x }))
from_names exports us (pair (node (a_short_type x)) empty) =
    Some (an_export (roll-VarDef record { names = us; text = x }))
from_names g us v = None

-- the part of this sort that the view shows
abbrev pub from : Tag → View → Option Node
from uses v = Some (a_use (used_in v))
from constants v = Some (a_constant (constant_in v))
from constant_definitions (pair v (pair (node (a_constant c)) empty)) =
    Some (a_constant_definition record { name = used_in v; value = c })
from types v = made (λ x. a_type (roll-TypeText x)) (type_in v)
from short_types v = made (λ x. a_short_type (roll-TypeText x)) (short_in v)
from type_definitions (pair v (pair (node (a_type x)) empty)) =
    Some (a_type_definition record { name = used_in v; text = x })
from fields (pair (nodes ns) v) = from_names fields (read use_of ns) v
from variables (pair (nodes ns) v) = from_names variables (read use_of ns) v
from parameters (pair (nodes ns) v) = from_names parameters (read use_of ns) v
from exports (pair (nodes ns) v) = from_names exports (read use_of ns) v
from interactions (pair v (pair w empty)) = Some (an_interaction record {
  name = used_in v;
  params = parameters_in w;
})
from by_parts v = by_part_in v
from channels v = channel_in v
from points (at p (pair (nodes ns) (pair d (pair v (pair w (pair q empty)))))) =
    Some (a_point record {
      names = read use_of ns;
      dims = dimensions_in d;
      channel = used_in v;
      role = used_in w;
      queue = queue_given_in q;
      place = place_in p d;
    })
from headers (pair v (pair a (pair p (pair (sections f g ps es) empty)))) =
    Some (a_header record {
      name = used_in v;
      system = is_first a;
      params = parameters_in p;
      points = read point_of ps;
      exports = read export_of es;
    })
from module_variables (at p (pair (nodes ns) (pair d (pair v empty)))) =
    Some (a_module_variable record {
      names = read use_of ns;
      dims = dimensions_in d;
      header = used_in v;
      place = place_in p d;
    })
from state_sets (pair v (pair (nodes ns) empty)) = Some (a_state_set record {
  name = used_in v;
  states = read use_of ns;
})
from formals (pair v (pair (nodes ns) w)) = Some (a_formal record {
  by_place = is_given v;
  names = read use_of ns;
  kind = used_in w;
})
from routines v = routine_in v
from common_parts v = made (λ x. a_common_part (roll-Part x)) (common_in v)
from body_parts v = made (λ x. a_body_part (roll-Part x)) (body_part_in v)
from block_parts v = made (λ x. a_block_part (roll-Part x)) (block_part_in v)
from blocks (pair (nodes ps) (at place (pair (nodes ss) empty))) =
    Some (a_block (roll-Block record {
      parts = read block_part_of ps;
      statements = read statement_of ss;
      place = place;
    }))
from clauses v = made (λ x. a_clause x) (clause_in v)
from transitions (pair (nodes ns) (pair v (pair (node (a_block b)) empty))) =
    Some (a_transition (roll-Transition record {
      clauses = read clause_of ns;
      name = name_before_in v;
      block = b;
    }))
from groups (nodes ns) = Some (a_group (roll-Group record { transitions = read transition_of ns }))
from bodies (pair v (pair w (pair (nodes ps) (pair f (pair (nodes gs) empty))))) =
    Some (a_body (roll-Body record {
      name = used_in v;
      header = used_in w;
      parts = read body_part_of ps;
      first = first_part_in f;
      groups = read group_of gs;
    }))
from accesses (pair v w) = Some (an_access record { name = used_in v; index = exprs_given_in w })
from end_points (pair (node (an_access a)) w) = Some (an_end_point record {
  first = a;
  second = access_given_in w;
})
from statements v = made (λ x. a_statement (roll-Statement x)) (statement_in v)
from arms (pair (nodes ns) (node (a_statement s))) =
    Some (an_arm (roll-Arm record { constants = read constant_of ns; turn = s }))
from sendings (pair (node (an_access a)) (pair v w)) = Some (a_sending record {
  at = a;
  signal = used_in v;
  arguments = exprs_given_in w;
})
from exprs (at place (pair (node (a_simple s)) w)) =
    Some (an_expr (roll-Expr record { left = s; relation = relation_in w; place = place }))
from simples (pair v (pair (node (a_term x)) (nodes ns))) =
    Some (a_simple (roll-Simple record {
      sign = sign_in v;
      first = x;
      rest = read sum_step_of ns;
    }))
from sum_steps (pair v (node (a_term x))) =
    Some (a_sum_step (roll-SumStep record { operator = adding_in v; right = x }))
from terms (pair (node (a_factor f)) (nodes ns)) =
    Some (a_term (roll-Term record { first = f; rest = read product_step_of ns }))
from product_steps (pair v (node (a_factor f))) =
    Some (a_product_step (roll-ProductStep record { operator = multiplying_in v; right = f }))
from factors v = made (λ x. a_factor (roll-Factor x)) (factor_in v)
from selectors v = made (λ x. a_selector (roll-Selector x)) (selector_in v)
from members (pair (node (an_expr e)) w) =
    Some (a_member (roll-Member record { low = e; high = expr_given_in w }))
from specifications (pair v (pair q (pair s (pair (nodes ns) (pair w (pair empty empty)))))) =
    Some (a_specification record {
      name = used_in v;
      queue = default_queue_in q;
      scale = name_before_in s;
      parts = read common_part_of ns;
      first = roll-Statement (first_statement_in w);
    })
from g v = None

pub told : (n : Node) (t : Shape) → Has (layer n) t → from (tag n) (layer n) ≡ Some n
told (a_use u) t d = refl
told (a_constant c) t d = ap (λ x. Some (a_constant x)) (constant_back c d)
told (a_constant_definition x) t d = refl
told (a_type x) t d = ap (made (λ y. a_type (roll-TypeText y))) (type_back (out-TypeText x) d)
    ∙ ap (λ y. Some (a_type y)) (roll-out-TypeText x)
told (a_short_type x) t d = ap (made (λ y. a_short_type (roll-TypeText y)))
    (short_back (out-TypeText x) d) ∙ ap (λ y. Some (a_short_type y)) (roll-out-TypeText x)
told (a_type_definition x) t d = refl
told (a_field v) t d =
    ap (λ l. Some (a_field (roll-VarDef record { names = l; text = (out-VarDef v).text })))
    (uses_back (out-VarDef v).names) ∙ ap (λ y. Some (a_field y)) (roll-out-VarDef v)
told (a_variable v) t d =
    ap (λ l. Some (a_variable (roll-VarDef record { names = l; text = (out-VarDef v).text })))
    (uses_back (out-VarDef v).names) ∙ ap (λ y. Some (a_variable y)) (roll-out-VarDef v)
told (a_parameter v) t d =
    ap (λ l. Some (a_parameter (roll-VarDef record { names = l; text = (out-VarDef v).text })))
    (uses_back (out-VarDef v).names) ∙ ap (λ y. Some (a_parameter y)) (roll-out-VarDef v)
told (an_export v) t d =
    ap (λ l. Some (an_export (roll-VarDef record { names = l; text = (out-VarDef v).text })))
    (uses_back (out-VarDef v).names) ∙ ap (λ y. Some (an_export y)) (roll-out-VarDef v)
told (an_interaction x) t d = ap (λ l. Some (an_interaction record { name = x.name; params = l }))
    (parameters_are x.params)
told (a_by_part b) t d = by_part_back b.roles b.interactions d
told (a_channel c) t (s_pair d e) = channel_back c.name c.roles c.by e
told (a_point p) t d = λ i. Some (a_point record {
  names = uses_back p.names i;
  dims = dimensions_back p.place p.dims i;
  channel = p.channel;
  role = p.role;
  queue = queue_given_back p.queue i;
  place = place_back p.place p.dims p.names i;
})
told (a_header h) t d = λ i. Some (a_header record {
  name = h.name;
  system = attribute_back h.system i;
  params = parameters_are h.params i;
  points = points_back h.points i;
  exports = exports_back h.exports i;
})
told (a_module_variable m) t d = λ i. Some (a_module_variable record {
  names = uses_back m.names i;
  dims = dimensions_back m.place m.dims i;
  header = m.header;
  place = place_back m.place m.dims m.names i;
})
told (a_state_set s) t d = ap (λ l. Some (a_state_set record { name = s.name; states = l }))
    (uses_back s.states)
told (a_formal f) t d = λ i. Some (a_formal record {
  by_place = by_place_back f.by_place i;
  names = uses_back f.names i;
  kind = f.kind;
})
told (a_routine r) t d = routine_back (out-Routine r).name (out-Routine r).formals
    (out-Routine r).result (out-Routine r).block ∙ ap (λ y. Some (a_routine y)) (roll-out-Routine r)
told (a_common_part p) t d = ap (made (λ y. a_common_part (roll-Part y)))
    (common_back (out-Part p) d) ∙ ap (λ y. Some (a_common_part y)) (roll-out-Part p)
told (a_body_part p) t d = ap (made (λ y. a_body_part (roll-Part y))) (body_part_back (out-Part p)
    d) ∙ ap (λ y. Some (a_body_part y)) (roll-out-Part p)
told (a_block_part p) t d = ap (made (λ y. a_block_part (roll-Part y)))
    (block_part_back (out-Part p) d) ∙ ap (λ y. Some (a_block_part y)) (roll-out-Part p)
told (a_block b) t d =
    (λ i. Some (a_block (roll-Block record {
      parts = block_parts_back (out-Block b).parts i;
      statements = statements_back (out-Block b).statements i;
      place = (out-Block b).place;
    }))) ∙ ap (λ y. Some (a_block y)) (roll-out-Block b)
told (a_clause c) t d = ap (made (λ y. a_clause y)) (clause_back c)
told (a_transition x) t d =
    (λ i. Some (a_transition (roll-Transition record {
      clauses = clauses_back (out-Transition x).clauses i;
      name = transition_name_back (out-Transition x).name i;
      block = (out-Transition x).block;
    }))) ∙ ap (λ y. Some (a_transition y)) (roll-out-Transition x)
told (a_group g) t d = ap (λ l. Some (a_group (roll-Group record { transitions = l })))
    (transitions_back (out-Group g).transitions) ∙ ap (λ y. Some (a_group y)) (roll-out-Group g)
told (a_body b) t d =
    (λ i. Some (a_body (roll-Body record {
      name = (out-Body b).name;
      header = (out-Body b).header;
      parts = body_parts_back (out-Body b).parts i;
      first = first_part_back (out-Body b).first i;
      groups = groups_back (out-Body b).groups i;
    }))) ∙ ap (λ y. Some (a_body y)) (roll-out-Body b)
told (an_access a) t d = ap (λ l. Some (an_access record { name = a.name; index = l }))
    (exprs_given_back a.index)
told (an_end_point e) t d = ap (λ o. Some (an_end_point record { first = e.first; second = o }))
    (access_given_back e.second)
told (a_statement s) t d = ap (made (λ y. a_statement (roll-Statement y)))
    (statement_back (out-Statement s)) ∙ ap (λ y. Some (a_statement y)) (roll-out-Statement s)
told (an_arm a) t d =
    ap (λ l. Some (an_arm (roll-Arm record { constants = l; turn = (out-Arm a).turn })))
    (constants_back (out-Arm a).constants) ∙ ap (λ y. Some (an_arm y)) (roll-out-Arm a)
told (a_sending s) t d = ap (λ l. Some (a_sending record {
  at = s.at;
  signal = s.signal;
  arguments = l;
})) (exprs_given_back s.arguments)
told (an_expr e) t (s_at p (s_pair d d')) =
    ap (λ o. Some (an_expr (roll-Expr record {
      left = (out-Expr e).left;
      relation = o;
      place = (out-Expr e).place;
    }))) (relation_back (out-Expr e).relation d') ∙ ap (λ y. Some (an_expr y)) (roll-out-Expr e)
told (a_simple s) t d =
    (λ i. Some (a_simple (roll-Simple record {
      sign = sign_back (out-Simple s).sign i;
      first = (out-Simple s).first;
      rest = sum_steps_back (out-Simple s).rest i;
    }))) ∙ ap (λ y. Some (a_simple y)) (roll-out-Simple s)
told (a_sum_step s) t (s_pair d e) =
    ap (λ o. Some (a_sum_step (roll-SumStep record {
      operator = o;
      right = (out-SumStep s).right;
    }))) (adding_back (out-SumStep s).operator d) ∙ ap (λ y. Some (a_sum_step y))
    (roll-out-SumStep s)
told (a_term x) t d =
    ap (λ l. Some (a_term (roll-Term record { first = (out-Term x).first; rest = l })))
    (product_steps_back (out-Term x).rest) ∙ ap (λ y. Some (a_term y)) (roll-out-Term x)
told (a_product_step s) t (s_pair d e) =
    ap (λ o. Some (a_product_step (roll-ProductStep record {
      operator = o;
      right = (out-ProductStep s).right;
    }))) (multiplying_back (out-ProductStep s).operator d) ∙ ap (λ y. Some (a_product_step y))
    (roll-out-ProductStep s)
told (a_factor f) t d = ap (made (λ y. a_factor (roll-Factor y))) (factor_back (out-Factor f))
    ∙ ap (λ y. Some (a_factor y)) (roll-out-Factor f)
told (a_selector s) t d = ap (made (λ y. a_selector (roll-Selector y)))
    (selector_back (out-Selector s)) ∙ ap (λ y. Some (a_selector y)) (roll-out-Selector s)
told (a_member m) t d =
    ap (λ o. Some (a_member (roll-Member record { low = (out-Member m).low; high = o })))
    (expr_given_back (out-Member m).high) ∙ ap (λ y. Some (a_member y)) (roll-out-Member m)
told (a_specification s) t (s_pair d (s_pair q (s_pair c (s_pair p (s_pair f e))))) =
    (λ i. Some (a_specification record {
      name = s.name;
      queue = default_queue_back s.queue i;
      scale = time_scale_back s.scale i;
      parts = common_parts_back s.parts i;
      first = roll-Statement (first_statement_back (out-Statement s.first) f i);
    }))
    ∙ ap (λ y. Some (a_specification record {
      name = s.name;
      queue = s.queue;
      scale = s.scale;
      parts = s.parts;
      first = y;
    })) (roll-out-Statement s.first)
