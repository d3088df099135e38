-- What the layers of statements, transitions, parts and specifications look like.
use Rattle.std.proofs.Common.{Bool, true, false, List, [], ◌∷◌, map, Option, Some, None, refl}
use Rattle.est_syntax.specs.declared.name.Used.{Used}
use Rattle.est_syntax.specs.declared.type_text.TypeText.{out-TypeText}
use Rattle.est_syntax.specs.declared.type_text.VarDef.{out-VarDef}
use Rattle.est_syntax.specs.declared.header.Queue.{Queue}
use Rattle.est_syntax.specs.declared.body.Block.{out-Block}
use Rattle.est_syntax.specs.declared.body.FirstPart.{FirstPart, out-FirstPart}
use Rattle.est_syntax.specs.declared.body.Body.{out-Body}
use Rattle.est_syntax.specs.declared.body.Part.{out-Part}
use Rattle.est_syntax.specs.declared.body.Part.TheOpen as part
use Rattle.est_syntax.specs.declared.routine.Routine.{out-Routine}
use Rattle.est_syntax.specs.declared.transition.Most.{Most}
use Rattle.est_syntax.specs.declared.transition.Most.TheVariants as most
use Rattle.est_syntax.specs.declared.transition.Clause.{Clause}
use Rattle.est_syntax.specs.declared.transition.Clause.TheVariants as clause
use Rattle.est_syntax.specs.declared.transition.Transition.{out-Transition}
use Rattle.est_syntax.specs.declared.transition.Group.{out-Group}
use Rattle.est_syntax.specs.declared.expression.Selector.{Selector, out-Selector}
use Rattle.est_syntax.specs.declared.expression.Member.{out-Member}
use Rattle.est_syntax.specs.declared.expression.Factor.{out-Factor}
use Rattle.est_syntax.specs.declared.expression.ProductStep.{out-ProductStep}
use Rattle.est_syntax.specs.declared.expression.Term.{out-Term}
use Rattle.est_syntax.specs.declared.expression.SumStep.{out-SumStep}
use Rattle.est_syntax.specs.declared.expression.Simple.{out-Simple}
use Rattle.est_syntax.specs.declared.expression.Expr.{Expr, out-Expr}
use Rattle.est_syntax.specs.declared.expression.Access.{Access}
use Rattle.est_syntax.specs.declared.statement.Arm.{out-Arm}
use Rattle.est_syntax.specs.declared.statement.Statement.{Statement, out-Statement}
use Rattle.est_syntax.specs.declared.statement.Statement.TheOpen as statement
use Rattle.text_reader.specs.Shown.{nodes}
use Rattle.text_reader.proofs.Alike.{of_nothing, of_at, of_option, of_pair, of_choice, of_part}
use Rattle.text_reader.proofs.Alike.{of_parts, of_sections, f_nowhere, f_empty, f_at, f_pair}
use Rattle.text_reader.proofs.Alike.{f_first, f_second, f_out, f_in, f_part, f_parts, f_sections}
use Rattle.text_productions.specs.Nodes as shown
use Rattle.text_productions.specs.Nodes.{Node, a_use, a_constant, a_constant_definition, a_type}
use Rattle.text_productions.specs.Nodes.{a_short_type, a_type_definition, a_field, a_variable}
use Rattle.text_productions.specs.Nodes.{a_parameter, an_export, an_interaction, a_by_part}
use Rattle.text_productions.specs.Nodes.{a_channel, a_point, a_header, a_module_variable}
use Rattle.text_productions.specs.Nodes.{a_state_set, a_formal, a_routine, a_common_part}
use Rattle.text_productions.specs.Nodes.{a_body_part, a_block_part, a_block, a_clause}
use Rattle.text_productions.specs.Nodes.{a_transition, a_group, a_body, an_access, an_end_point}
use Rattle.text_productions.specs.Nodes.{a_statement, an_arm, a_sending, an_expr, a_simple}
use Rattle.text_productions.specs.Nodes.{a_sum_step, a_term, a_product_step, a_factor, a_selector}
use Rattle.text_productions.specs.Nodes.{a_member, a_specification, layer, StatementForm, PartForm}
use Rattle.text_productions.proofs.Sorts.{Tag, tag, Sort, IsOf, all, are, of_used, used_is}
use Rattle.text_productions.proofs.Sorts.{name_given_is, names_are, of_either, of_constant}
use Rattle.text_productions.proofs.Sorts.{constant_is, of_short, short_is, of_type, type_is}
use Rattle.text_productions.proofs.Sorts.{of_parameters, parameters_are, of_by_part, roles_are}
use Rattle.text_productions.proofs.Sorts.{of_two_names, two_names_are, queue_is, queue_given_is}
use Rattle.text_productions.proofs.Sorts.{of_dimensions, dimensions_are, attribute_is, one_run}
use Rattle.text_productions.proofs.Sorts.{by_place_is, of_routine, routine_is, of_adding, adding_is}
use Rattle.text_productions.proofs.Sorts.{of_multiplying, multiplying_is, of_relation, relation_is}
use Rattle.text_productions.proofs.Sorts.{sign_is, of_exprs_given, exprs_given_are, of_factor}
use Rattle.text_productions.proofs.Sorts.{factor_is, of_selector, selector_is, expr_given_is}
use Rattle.text_productions.proofs.Sorts.{access_given_is, uses, constants, constant_definitions}
use Rattle.text_productions.proofs.Sorts.{types, short_types, type_definitions, fields, variables}
use Rattle.text_productions.proofs.Sorts.{parameters, exports, interactions, by_parts, channels}
use Rattle.text_productions.proofs.Sorts.{points, headers, module_variables, state_sets, formals}
use Rattle.text_productions.proofs.Sorts.{routines, common_parts, body_parts, block_parts, blocks}
use Rattle.text_productions.proofs.Sorts.{clauses, transitions, groups, bodies, accesses}
use Rattle.text_productions.proofs.Sorts.{end_points, statements, arms, sendings, exprs, simples}
use Rattle.text_productions.proofs.Sorts.{sum_steps, terms, product_steps, factors, selectors}
use Rattle.text_productions.proofs.Sorts.{members, specifications}

-- STATEMENTS

else_part_is : (o : Option Statement) → IsOf (of_option (of_part statements)) (shown.else_part o)
else_part_is None = f_out
else_part_is (Some s) = f_in (f_part (a_statement s) refl)

direction_is : (down : Bool) → IsOf of_either (shown.direction down)
direction_is false = f_first f_empty
direction_is true = f_second f_empty

-- what stands after the name of an assignment or of a call
abbrev of_rest : Sort
of_rest = of_option (of_choice (of_pair (of_option (of_parts selectors)) (of_part exprs))
    (of_pair (of_parts exprs) of_nothing))

path_is : (ss : List Selector) → IsOf (of_option (of_parts selectors)) (shown.path ss)
path_is [] = f_out
path_is (s ∷ ss) = f_in (are a_selector selectors (λ x. refl) (s ∷ ss))

call_is : (es : List Expr) → IsOf of_rest (shown.call es)
call_is [] = f_out
call_is (e ∷ es) = f_in (f_second (f_pair (are an_expr exprs (λ x. refl) (e ∷ es)) f_empty))

abbrev of_init : Sort
of_init = of_pair (of_part accesses) (of_pair of_used of_exprs_given)

init_is : (target : Access) (body : Used) (es : List Expr)
    → IsOf of_init (shown.init target body es)
init_is target body es = f_pair (f_part (an_access target) refl)
    (f_pair (used_is body) (exprs_given_are es))

abbrev of_statement : Sort
of_statement = of_at (of_option
    (of_choice (of_pair (of_parts statements) of_nothing)
    (of_choice (of_pair of_used of_rest)
    (of_choice (of_pair (of_part exprs) (of_pair (of_part statements)
    (of_option (of_part statements))))
    (of_choice (of_pair (of_part exprs) (of_pair (of_parts arms) of_nothing))
    (of_choice (of_pair (of_part exprs) (of_part statements))
    (of_choice (of_pair (of_parts statements) (of_part exprs))
    (of_choice (of_pair of_used
    (of_pair (of_part exprs)
    (of_pair of_either (of_pair (of_part exprs) (of_part statements)))))
    (of_choice (of_pair of_used (of_pair (of_part short_types) (of_part statements)))
    (of_choice (of_parts sendings)
    (of_choice of_init
    (of_choice (of_part accesses)
    (of_choice (of_pair (of_part end_points) (of_part end_points))
    (of_choice (of_part end_points)
    (of_choice (of_pair (of_part accesses) (of_pair (of_part accesses) (of_part accesses)))
    (of_part end_points))))))))))))))))

statement_is : (s : StatementForm) → IsOf of_statement (shown.statement s)
statement_is (statement.Empty place) = f_at place f_out
statement_is (statement.Compound ss place) =
    f_at place (f_in (f_first (f_pair (are a_statement statements (λ x. refl) ss) f_empty)))
statement_is (statement.Assign target path value place) =
    f_at place (f_in (f_second
    (f_first (f_pair (used_is target)
    (f_in (f_first (f_pair (path_is path) (f_part (an_expr value) refl))))))))
statement_is (statement.Call name es place) =
    f_at place (f_in (f_second (f_first (f_pair (used_is name) (call_is es)))))
statement_is (statement.If condition one other place) =
    f_at place (f_in (f_second
    (f_second (f_first (f_pair (f_part (an_expr condition) refl)
    (f_pair (f_part (a_statement one) refl) (else_part_is other)))))))
statement_is (statement.Case value as_ place) =
    f_at place (f_in (f_second
    (f_second (f_second (f_first (f_pair (f_part (an_expr value) refl)
    (f_pair (are an_arm arms (λ x. refl) as_) f_empty)))))))
statement_is (statement.While condition turn place) =
    f_at place (f_in (f_second
    (f_second (f_second (f_second
    (f_first (f_pair (f_part (an_expr condition) refl) (f_part (a_statement turn) refl))))))))
statement_is (statement.Repeat ss until place) =
    f_at place (f_in (f_second
    (f_second (f_second (f_second
    (f_second (f_first (f_pair (are a_statement statements (λ x. refl) ss)
    (f_part (an_expr until) refl)))))))))
statement_is (statement.For name from down to turn place) =
    f_at place (f_in (f_second (f_second (f_second (f_second (f_second (f_second (f_first
    (f_pair (used_is name) (f_pair (f_part (an_expr from) refl)
    (f_pair (direction_is down) (f_pair (f_part (an_expr to) refl)
    (f_part (a_statement turn) refl)))))))))))))
statement_is (statement.All name over turn place) =
    f_at place (f_in (f_second (f_second (f_second (f_second (f_second (f_second (f_second (f_first
    (f_pair (used_is name) (f_pair (f_part (a_short_type over) refl)
    (f_part (a_statement turn) refl))))))))))))
statement_is (statement.Output os place) =
    f_at place (f_in (f_second
    (f_second (f_second (f_second
    (f_second (f_second (f_second
    (f_second (f_first (are a_sending sendings (λ x. refl) os)))))))))))
statement_is (statement.Init target body es place) =
    f_at place (f_in (f_second
    (f_second (f_second (f_second
    (f_second (f_second (f_second (f_second (f_second (f_first (init_is target body es))))))))))))
statement_is (statement.Release target place) =
    f_at place (f_in (f_second
    (f_second (f_second (f_second
    (f_second (f_second (f_second
    (f_second (f_second (f_second (f_first (f_part (an_access target) refl)))))))))))))
statement_is (statement.Connect one other place) =
    f_at place (f_in (f_second
    (f_second (f_second (f_second
    (f_second (f_second (f_second
    (f_second (f_second (f_second
    (f_second (f_first (f_pair (f_part (an_end_point one) refl) (f_part (an_end_point other)
    refl)))))))))))))))
statement_is (statement.Disconnect end_ place) =
    f_at place (f_in (f_second
    (f_second (f_second (f_second
    (f_second (f_second (f_second
    (f_second (f_second (f_second
    (f_second (f_second (f_first (f_part (an_end_point end_) refl)))))))))))))))
statement_is (statement.Attach own child ip place) =
    f_at place (f_in (f_second
    (f_second (f_second (f_second
    (f_second (f_second (f_second
    (f_second (f_second (f_second (f_second (f_second (f_second (f_first
    (f_pair (f_part (an_access own) refl) (f_pair (f_part (an_access child) refl)
    (f_part (an_access ip) refl))))))))))))))))))
statement_is (statement.Detach end_ place) =
    f_at place (f_in (f_second
    (f_second (f_second (f_second
    (f_second (f_second (f_second
    (f_second (f_second (f_second
    (f_second (f_second (f_second (f_second (f_part (an_end_point end_) refl))))))))))))))))

-- TRANSITIONS AND BODIES

next_state_is : (o : Option Used) → IsOf (of_choice of_used of_nothing) (shown.next_state o)
next_state_is (Some state) = f_first (used_is state)
next_state_is None = f_second f_empty

abbrev of_most : Sort
of_most = of_option (of_choice (of_part exprs) of_nothing)

most_is : (m : Most) → IsOf of_most (shown.most m)
most_is most.Same = f_out
most_is (most.Value e) = f_in (f_first (f_part (an_expr e) refl))
most_is most.Never = f_in (f_second f_empty)

abbrev of_clause : Sort
of_clause = of_at (of_choice (of_parts uses) (of_choice (of_choice of_used of_nothing)
    (of_choice (of_pair (of_part accesses) of_used)
    (of_choice (of_choice (of_part exprs) of_nothing)
    (of_choice (of_pair (of_parts parameters) of_nothing) (of_choice (of_part constants)
    (of_pair (of_part exprs) (of_pair of_most of_nothing))))))))

clause_is : (c : Clause) → IsOf of_clause (shown.clause c)
clause_is (clause.From states place) = f_at place (f_first (names_are states))
clause_is (clause.To state place) = f_at place (f_second (f_first (next_state_is state)))
clause_is (clause.When ip signal place) =
    f_at place (f_second (f_second
    (f_first (f_pair (f_part (an_access ip) refl) (used_is signal)))))
clause_is (clause.Provided condition place) =
    f_at place (f_second (f_second
    (f_second (f_first (f_first (f_part (an_expr condition) refl))))))
clause_is (clause.Otherwise place) =
    f_at place (f_second (f_second (f_second (f_first (f_second f_empty)))))
clause_is (clause.Any vs place) =
    f_at place (f_second (f_second
    (f_second (f_second (f_first (f_pair (are a_parameter parameters (λ x. refl) vs) f_empty))))))
clause_is (clause.Priority value place) =
    f_at place (f_second (f_second
    (f_second (f_second (f_second (f_first (f_part (a_constant value) refl)))))))
clause_is (clause.Delay least bound place) =
    f_at place (f_second (f_second
    (f_second (f_second (f_second
    (f_second (f_pair (f_part (an_expr least) refl) (f_pair (most_is bound) f_empty))))))))

transition_name_is : (o : Option Used)
    → IsOf (of_option (of_pair of_used of_nothing)) (shown.transition_name o)
transition_name_is None = f_out
transition_name_is (Some u) = f_in (f_pair (used_is u) f_empty)

abbrev of_first : Sort
of_first = of_option (of_pair (of_option of_used) (of_pair (of_part blocks) of_nothing))

first_part_is : (o : Option FirstPart) → IsOf of_first (shown.first_part o)
first_part_is None = f_out
first_part_is (Some f) = f_in (f_pair (name_given_is (out-FirstPart f).to)
    (f_pair (f_part (a_block (out-FirstPart f).block) refl) f_empty))

abbrev of_common : Sort
of_common = of_choice (of_parts constant_definitions) (of_choice (of_parts type_definitions)
    (of_choice (of_part channels) (of_choice (of_part headers)
    (of_choice (of_part bodies) (of_choice (of_part routines) (of_parts module_variables))))))

common_is : (p : PartForm) → IsOf of_common (shown.common_part p)
common_is (part.Consts ds) = f_first (are a_constant_definition constant_definitions (λ x. refl) ds)
common_is (part.Types ds) =
    f_second (f_first (are a_type_definition type_definitions (λ x. refl) ds))
common_is (part.Channel c) = f_second (f_second (f_first (f_part (a_channel c) refl)))
common_is (part.Header h) = f_second (f_second (f_second (f_first (f_part (a_header h) refl))))
common_is (part.Body b) =
    f_second (f_second (f_second (f_second (f_first (f_part (a_body b) refl)))))
common_is (part.Routine r) =
    f_second (f_second (f_second (f_second (f_second (f_first (f_part (a_routine r) refl))))))
common_is (part.Modvars ms) =
    f_second (f_second (f_second
    (f_second (f_second (f_second (are a_module_variable module_variables (λ x. refl) ms))))))
common_is (part.Points ps) = f_nowhere
common_is (part.Vars vs) = f_nowhere
common_is (part.States us) = f_nowhere
common_is (part.StateSets ss) = f_nowhere

abbrev of_own : Sort
of_own = of_choice (of_parts points) (of_choice (of_parts variables)
    (of_choice (of_pair (of_parts uses) of_nothing) (of_parts state_sets)))

body_part_is : (p : PartForm) → IsOf (of_choice of_common of_own) (shown.body_part p)
body_part_is (part.Points ps) = f_second (f_first (are a_point points (λ x. refl) ps))
body_part_is (part.Vars vs) =
    f_second (f_second (f_first (are a_variable variables (λ x. refl) vs)))
body_part_is (part.States us) =
    f_second (f_second (f_second (f_first (f_pair (names_are us) f_empty))))
body_part_is (part.StateSets ss) =
    f_second (f_second (f_second (f_second (are a_state_set state_sets (λ x. refl) ss))))
body_part_is (part.Consts ds) = f_first (common_is (part.Consts ds))
body_part_is (part.Types ds) = f_first (common_is (part.Types ds))
body_part_is (part.Channel c) = f_first (common_is (part.Channel c))
body_part_is (part.Header h) = f_first (common_is (part.Header h))
body_part_is (part.Body b) = f_first (common_is (part.Body b))
body_part_is (part.Routine r) = f_first (common_is (part.Routine r))
body_part_is (part.Modvars ms) = f_first (common_is (part.Modvars ms))

abbrev of_block_part : Sort
of_block_part = of_choice (of_parts constant_definitions) (of_choice (of_parts type_definitions)
    (of_parts variables))

block_part_is : (p : PartForm) → IsOf of_block_part (shown.block_part p)
block_part_is (part.Consts ds) = f_first (are a_constant_definition constant_definitions (λ x. refl)
    ds)
block_part_is (part.Types ds) =
    f_second (f_first (are a_type_definition type_definitions (λ x. refl) ds))
block_part_is (part.Vars vs) = f_second (f_second (are a_variable variables (λ x. refl) vs))
block_part_is (part.Channel c) = f_nowhere
block_part_is (part.Header h) = f_nowhere
block_part_is (part.Body b) = f_nowhere
block_part_is (part.Routine r) = f_nowhere
block_part_is (part.Modvars ms) = f_nowhere
block_part_is (part.Points ps) = f_nowhere
block_part_is (part.States us) = f_nowhere
block_part_is (part.StateSets ss) = f_nowhere

-- SPECIFICATIONS

default_queue_is : (o : Option Queue)
    → IsOf (of_option (of_pair of_either of_nothing)) (shown.default_queue o)
default_queue_is None = f_out
default_queue_is (Some q) = f_in (f_pair (queue_is q) f_empty)

time_scale_is : (o : Option Used)
    → IsOf (of_option (of_pair of_used of_nothing)) (shown.time_scale o)
time_scale_is None = f_out
time_scale_is (Some u) = f_in (f_pair (used_is u) f_empty)

first_statement_is : (s : StatementForm) → IsOf (of_at of_init) (shown.first_statement s)
first_statement_is (statement.Init target body es place) = f_at place (init_is target body es)
first_statement_is (statement.Empty place) = f_nowhere
first_statement_is (statement.Compound ss place) = f_nowhere
first_statement_is (statement.Assign target path value place) = f_nowhere
first_statement_is (statement.Call name es place) = f_nowhere
first_statement_is (statement.If condition one other place) = f_nowhere
first_statement_is (statement.Case value as_ place) = f_nowhere
first_statement_is (statement.While condition turn place) = f_nowhere
first_statement_is (statement.Repeat ss until place) = f_nowhere
first_statement_is (statement.For name from down to turn place) = f_nowhere
first_statement_is (statement.All name over turn place) = f_nowhere
first_statement_is (statement.Output os place) = f_nowhere
first_statement_is (statement.Release target place) = f_nowhere
first_statement_is (statement.Connect one other place) = f_nowhere
first_statement_is (statement.Disconnect end_ place) = f_nowhere
first_statement_is (statement.Attach own child ip place) = f_nowhere
first_statement_is (statement.Detach end_ place) = f_nowhere

-- EACH SORT OF PART

abbrev pub sort_of : Tag → Sort
sort_of uses = of_used
sort_of constants = of_constant
sort_of constant_definitions = of_pair of_used (of_pair (of_part constants) of_nothing)
sort_of types = of_type
sort_of short_types = of_short
sort_of type_definitions = of_pair of_used (of_pair (of_part types) of_nothing)
sort_of fields = of_pair (of_parts uses) (of_part types)
sort_of variables = of_pair (of_parts uses) (of_pair (of_part types) of_nothing)
sort_of parameters = of_pair (of_parts uses) (of_part short_types)
sort_of exports = of_pair (of_parts uses) (of_pair (of_part short_types) of_nothing)
sort_of interactions = of_pair of_used (of_pair of_parameters of_nothing)
sort_of by_parts = of_by_part
sort_of channels = of_pair of_used of_two_names
sort_of points =
    of_at (of_pair (of_parts uses)
    (of_pair of_dimensions (of_pair of_used
    (of_pair of_used (of_pair (of_option of_either) of_nothing)))))
sort_of headers = of_pair of_used
    (of_pair of_either (of_pair of_parameters
    (of_pair (of_sections nodes nodes (of_parts points) (of_parts exports) points exports)
    of_nothing)))
sort_of module_variables =
    of_at (of_pair (of_parts uses) (of_pair of_dimensions (of_pair of_used of_nothing)))
sort_of state_sets = of_pair of_used (of_pair (of_parts uses) of_nothing)
sort_of formals = of_pair (of_option of_nothing) (of_pair (of_parts uses) of_used)
sort_of routines = of_routine
sort_of common_parts = of_common
sort_of body_parts = of_choice of_common of_own
sort_of block_parts = of_block_part
sort_of blocks = of_pair (of_parts block_parts) (of_at (of_pair (of_parts statements) of_nothing))
sort_of clauses = of_clause
sort_of transitions = of_pair (of_parts clauses) (of_pair (of_option (of_pair of_used of_nothing))
    (of_pair (of_part blocks) of_nothing))
sort_of groups = of_parts transitions
sort_of bodies = of_pair of_used
    (of_pair of_used (of_pair (of_parts body_parts)
    (of_pair of_first (of_pair (of_parts groups) of_nothing))))
sort_of accesses = of_pair of_used of_exprs_given
sort_of end_points = of_pair (of_part accesses) (of_option (of_part accesses))
sort_of statements = of_statement
sort_of arms = of_pair (of_parts constants) (of_part statements)
sort_of sendings = of_pair (of_part accesses) (of_pair of_used of_exprs_given)
sort_of exprs = of_at (of_pair (of_part simples) of_relation)
sort_of simples = of_pair (of_option of_either) (of_pair (of_part terms) (of_parts sum_steps))
sort_of sum_steps = of_pair of_adding (of_part terms)
sort_of terms = of_pair (of_part factors) (of_parts product_steps)
sort_of product_steps = of_pair of_multiplying (of_part factors)
sort_of factors = of_factor
sort_of selectors = of_selector
sort_of members = of_pair (of_part exprs) (of_option (of_part exprs))
sort_of specifications = of_pair of_used (of_pair (of_option (of_pair of_either of_nothing))
    (of_pair (of_option (of_pair of_used of_nothing))
    (of_pair (of_parts common_parts) (of_pair (of_at of_init) (of_pair of_nothing of_nothing)))))

pub layer_is : (n : Node) → IsOf (sort_of (tag n)) (layer n)
layer_is (a_use u) = used_is u
layer_is (a_constant c) = constant_is c
layer_is (a_constant_definition d) = f_pair (used_is d.name)
    (f_pair (f_part (a_constant d.value) refl) f_empty)
layer_is (a_type t) = type_is (out-TypeText t)
layer_is (a_short_type t) = short_is (out-TypeText t)
layer_is (a_type_definition d) = f_pair (used_is d.name) (f_pair (f_part (a_type d.text) refl)
    f_empty)
layer_is (a_field v) = f_pair (names_are (out-VarDef v).names) (f_part (a_type (out-VarDef v).text)
    refl)
layer_is (a_variable v) = f_pair (names_are (out-VarDef v).names)
    (f_pair (f_part (a_type (out-VarDef v).text) refl) f_empty)
layer_is (a_parameter v) = f_pair (names_are (out-VarDef v).names)
    (f_part (a_short_type (out-VarDef v).text) refl)
layer_is (an_export v) = f_pair (names_are (out-VarDef v).names)
    (f_pair (f_part (a_short_type (out-VarDef v).text) refl) f_empty)
layer_is (an_interaction i) = f_pair (used_is i.name) (f_pair (parameters_are i.params) f_empty)
layer_is (a_by_part b) = roles_are b.roles b.interactions
layer_is (a_channel c) = f_pair (used_is c.name) (two_names_are c.roles c.by)
layer_is (a_point p) = f_at (shown.beginning p.place p.dims p.names)
    (f_pair (names_are p.names) (f_pair (dimensions_are p.place p.dims)
    (f_pair (used_is p.channel) (f_pair (used_is p.role) (f_pair (queue_given_is p.queue)
    f_empty)))))
layer_is (a_header h) = f_pair (used_is h.name) (f_pair (attribute_is h.system)
    (f_pair (parameters_are h.params)
    (f_pair (f_sections (map a_point h.points) (map an_export h.exports) (λ ls a. f_parts ls a)
    one_run (λ ls a. f_parts ls a) one_run
    (all a_point points (λ x. refl) h.points) (all an_export exports (λ x. refl) h.exports))
    f_empty)))
layer_is (a_module_variable m) = f_at (shown.beginning m.place m.dims m.names)
    (f_pair (names_are m.names) (f_pair (dimensions_are m.place m.dims)
    (f_pair (used_is m.header) f_empty)))
layer_is (a_state_set s) = f_pair (used_is s.name) (f_pair (names_are s.states) f_empty)
layer_is (a_formal f) = f_pair (by_place_is f.by_place)
    (f_pair (names_are f.names) (used_is f.kind))
layer_is (a_routine r) = routine_is (out-Routine r).name (out-Routine r).formals
    (out-Routine r).result (out-Routine r).block
layer_is (a_common_part p) = common_is (out-Part p)
layer_is (a_body_part p) = body_part_is (out-Part p)
layer_is (a_block_part p) = block_part_is (out-Part p)
layer_is (a_block b) = f_pair (are a_block_part block_parts (λ x. refl) (out-Block b).parts)
    (f_at (out-Block b).place
    (f_pair (are a_statement statements (λ x. refl) (out-Block b).statements) f_empty))
layer_is (a_clause c) = clause_is c
layer_is (a_transition t) = f_pair (are a_clause clauses (λ x. refl) (out-Transition t).clauses)
    (f_pair (transition_name_is (out-Transition t).name)
    (f_pair (f_part (a_block (out-Transition t).block) refl) f_empty))
layer_is (a_group g) = are a_transition transitions (λ x. refl) (out-Group g).transitions
layer_is (a_body b) = f_pair (used_is (out-Body b).name) (f_pair (used_is (out-Body b).header)
    (f_pair (are a_body_part body_parts (λ x. refl) (out-Body b).parts)
    (f_pair (first_part_is (out-Body b).first)
    (f_pair (are a_group groups (λ x. refl) (out-Body b).groups) f_empty))))
layer_is (an_access a) = f_pair (used_is a.name) (exprs_given_are a.index)
layer_is (an_end_point e) = f_pair (f_part (an_access e.first) refl) (access_given_is e.second)
layer_is (a_statement s) = statement_is (out-Statement s)
layer_is (an_arm a) = f_pair (are a_constant constants (λ x. refl) (out-Arm a).constants)
    (f_part (a_statement (out-Arm a).turn) refl)
layer_is (a_sending s) = f_pair (f_part (an_access s.at) refl)
    (f_pair (used_is s.signal) (exprs_given_are s.arguments))
layer_is (an_expr e) = f_at (out-Expr e).place (f_pair (f_part (a_simple (out-Expr e).left) refl)
    (relation_is (out-Expr e).relation))
layer_is (a_simple s) = f_pair (sign_is (out-Simple s).sign)
    (f_pair (f_part (a_term (out-Simple s).first) refl) (are a_sum_step sum_steps (λ x. refl)
    (out-Simple s).rest))
layer_is (a_sum_step s) = f_pair (adding_is (out-SumStep s).operator)
    (f_part (a_term (out-SumStep s).right) refl)
layer_is (a_term t) = f_pair (f_part (a_factor (out-Term t).first) refl)
    (are a_product_step product_steps (λ x. refl) (out-Term t).rest)
layer_is (a_product_step s) = f_pair (multiplying_is (out-ProductStep s).operator)
    (f_part (a_factor (out-ProductStep s).right) refl)
layer_is (a_factor f) = factor_is (out-Factor f)
layer_is (a_selector s) = selector_is (out-Selector s)
layer_is (a_member m) = f_pair (f_part (an_expr (out-Member m).low) refl)
    (expr_given_is (out-Member m).high)
layer_is (a_specification s) = f_pair (used_is s.name) (f_pair (default_queue_is s.queue)
    (f_pair (time_scale_is s.scale)
    (f_pair (are a_common_part common_parts (λ x. refl) s.parts)
    (f_pair (first_statement_is (out-Statement s.first)) (f_pair f_empty f_empty)))))
