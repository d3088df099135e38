-- What the parts of a syntax tree show, a layer at a time: the alternative that was chosen, the
-- parts and the names, numbers and places that a tree keeps. A part that no sentence has shows
-- nothing that a tree has.
use Rattle.std.specs.Prelude.{ℕ, zero, suc, Bool, true, false, List}
use Rattle.std.specs.Prelude.{[], ◌∷◌, Option, Some, None, map}
use Rattle.est_syntax.specs.declared.name.Used.{Used}
use Rattle.est_syntax.specs.declared.constant.Sign.{Sign}
use Rattle.est_syntax.specs.declared.constant.Sign.TheVariants.{Plus, Minus}
use Rattle.est_syntax.specs.declared.constant.Constant.{Constant}
use Rattle.est_syntax.specs.declared.constant.Constant.TheVariants as constants
use Rattle.est_syntax.specs.declared.constant.ConstDef.{ConstDef}
use Rattle.est_syntax.specs.declared.type_text.TypeText.{TypeText, out-TypeText}
use Rattle.est_syntax.specs.declared.type_text.TypeText.TheOpen as texts
use Rattle.est_syntax.specs.declared.type_text.VarDef.{VarDef, out-VarDef}
use Rattle.est_syntax.specs.declared.type_text.TypeDef.{TypeDef}
use Rattle.est_syntax.specs.declared.channel.InteractionDef.{InteractionDef}
use Rattle.est_syntax.specs.declared.channel.ByPart.{ByPart}
use Rattle.est_syntax.specs.declared.channel.Channel.{Channel}
use Rattle.est_syntax.specs.declared.header.Queue.{Queue}
use Rattle.est_syntax.specs.declared.header.Queue.TheVariants.{Individual, Common}
use Rattle.est_syntax.specs.declared.header.Point.{Point}
use Rattle.est_syntax.specs.declared.header.Header.{Header}
use Rattle.est_syntax.specs.declared.header.ModvarDef.{ModvarDef}
use Rattle.est_syntax.specs.declared.body.StateSet.{StateSet}
use Rattle.est_syntax.specs.declared.body.Block.{Block, out-Block}
use Rattle.est_syntax.specs.declared.body.FirstPart.{FirstPart, out-FirstPart}
use Rattle.est_syntax.specs.declared.body.Body.{Body, out-Body}
use Rattle.est_syntax.specs.declared.body.Part.{Part, out-Part}
use Rattle.est_syntax.specs.declared.body.Part.TheOpen as parts
use Rattle.est_syntax.specs.declared.routine.Formal.{Formal}
use Rattle.est_syntax.specs.declared.routine.Routine.{Routine, out-Routine}
use Rattle.est_syntax.specs.declared.transition.Most.{Most}
use Rattle.est_syntax.specs.declared.transition.Most.TheVariants.{Same, Value, Never}
use Rattle.est_syntax.specs.declared.transition.Clause.{Clause}
use Rattle.est_syntax.specs.declared.transition.Clause.TheVariants as clauses
use Rattle.est_syntax.specs.declared.transition.Transition.{Transition, out-Transition}
use Rattle.est_syntax.specs.declared.transition.Group.{Group, out-Group}
use Rattle.est_syntax.specs.declared.expression.Operator.{Operator}
use Rattle.est_syntax.specs.declared.expression.Operator.TheVariants as operators
use Rattle.est_syntax.specs.declared.expression.Selector.{Selector, out-Selector}
use Rattle.est_syntax.specs.declared.expression.Member.{Member, out-Member}
use Rattle.est_syntax.specs.declared.expression.Factor.{Factor, out-Factor}
use Rattle.est_syntax.specs.declared.expression.Factor.TheOpen as factors
use Rattle.est_syntax.specs.declared.expression.ProductStep.{ProductStep, out-ProductStep}
use Rattle.est_syntax.specs.declared.expression.Term.{Term, out-Term}
use Rattle.est_syntax.specs.declared.expression.SumStep.{SumStep, out-SumStep}
use Rattle.est_syntax.specs.declared.expression.Simple.{Simple, out-Simple}
use Rattle.est_syntax.specs.declared.expression.Relation.{Relation, out-Relation}
use Rattle.est_syntax.specs.declared.expression.Expr.{Expr, out-Expr}
use Rattle.est_syntax.specs.declared.expression.Access.{Access}
use Rattle.est_syntax.specs.declared.expression.EndPoint.{EndPoint}
use Rattle.est_syntax.specs.declared.statement.Arm.{Arm, out-Arm}
use Rattle.est_syntax.specs.declared.statement.Sending.{Sending}
use Rattle.est_syntax.specs.declared.statement.Statement.{Statement, out-Statement}
use Rattle.est_syntax.specs.declared.statement.Statement.TheOpen as statements
use Rattle.est_syntax.specs.declared.specification.Spec.{Spec}
use Rattle.text_reader.specs.Shown.{empty, kept, at, pair, first, second}
use Rattle.text_reader.specs.Shown.{given, node, nowhere, nodes, sections}
use Rattle.text_reader.specs.Tests as kinds
use Rattle.text_reader.specs.Going as going
use Rattle.text_reader.specs.Going.{used}

-- The parts of a syntax tree.
pub data Node : Type 0 where
  a_use : Used → Node
  a_constant : Constant → Node
  a_constant_definition : ConstDef → Node
  a_type a_short_type : TypeText → Node
  a_type_definition : TypeDef → Node
  a_field a_variable a_parameter an_export : VarDef → Node
  an_interaction : InteractionDef → Node
  a_by_part : ByPart → Node
  a_channel : Channel → Node
  a_point : Point → Node
  a_header : Header → Node
  a_module_variable : ModvarDef → Node
  a_state_set : StateSet → Node
  a_formal : Formal → Node
  a_routine : Routine → Node
  a_common_part a_body_part a_block_part : Part → Node
  a_block : Block → Node
  a_clause : Clause → Node
  a_transition : Transition → Node
  a_group : Group → Node
  a_body : Body → Node
  an_access : Access → Node
  an_end_point : EndPoint → Node
  a_statement : Statement → Node
  an_arm : Arm → Node
  a_sending : Sending → Node
  an_expr : Expr → Node
  a_simple : Simple → Node
  a_sum_step : SumStep → Node
  a_term : Term → Node
  a_product_step : ProductStep → Node
  a_factor : Factor → Node
  a_selector : Selector → Node
  a_member : Member → Node
  a_specification : Spec → Node

-- One layer of a part.
abbrev pub View : Type 0
View = going.View Node

-- the alternative with this number, counted from 0, which is not the last
abbrev pub choice : ℕ → View → View
choice zero v = first v
choice (suc i) v = second (choice i v)

-- the last alternative, after so many others
abbrev pub last_choice : ℕ → View → View
last_choice zero v = v
last_choice (suc i) v = second (last_choice i v)

-- names in the order of the text
abbrev pub names : List Used → View
names us = nodes (map a_use us)

-- a name that may be left out
abbrev pub name_given : Option Used → View
name_given None = empty
name_given (Some u) = given (used u)

-- Constants.

-- a sign that is written
abbrev pub written_sign : Sign → View
written_sign Plus = first empty
written_sign Minus = second empty

-- a constant that is no bare name
abbrev pub unnamed : Constant → View
unnamed (constants.Number (Some sign) number place) =
    at place (choice 1 (pair (written_sign sign) (first (kept (kinds.value number)))))
unnamed (constants.Number None number place) = at place (choice 0 (kept (kinds.value number)))
unnamed (constants.Named (Some sign) name place) =
    at place (choice 1 (pair (written_sign sign) (second (used name))))
unnamed (constants.Named None name place) = nowhere
unnamed (constants.Character character place) =
    at place (last_choice 2 (kept (kinds.code character)))

-- a constant
abbrev pub constant : Constant → View
constant (constants.Named None name place) = second (at place (used name))
constant c = first (unnamed c)

-- a definition of a constant
abbrev pub constant_definition : ConstDef → View
constant_definition d = pair (used d.name) (pair (node (a_constant d.value)) empty)

-- Types.

-- The text of a type, with its parts.
abbrev pub TypeTextForm : Type 0
TypeTextForm = texts.TypeText-F TypeText VarDef

-- a range: where its lower bound is a bare name, the name stands alone before the choice
abbrev pub range : Constant → Constant → View
range (constants.Named None name place) high =
    second (at place (pair (used name) (given (node (a_constant high)))))
range low high = first (pair (unnamed low) (node (a_constant high)))

-- the name of a type, or a range
abbrev pub short_type : TypeTextForm → View
short_type (texts.Named name) = second (at name.place (pair (used name) empty))
short_type (texts.Range low high) = range low high
short_type _ = nowhere

-- an array, a record or a set, after a word that leaves no trace
abbrev pub structured : ℕ → View → View
structured place v = last_choice 2 (at place (pair empty v))

-- a type
abbrev pub type_text : TypeTextForm → View
type_text (texts.Names us place) = choice 1 (at place (pair (names us) empty))
type_text (texts.Array index of_ place) = structured place
    (choice 0 (pair (nodes (map a_type index)) (node (a_type of_))))
type_text (texts.Fields fields place) = structured place
    (choice 1 (pair (nodes (map a_field fields)) empty))
type_text (texts.Set of_ place) = structured place (last_choice 2 (node (a_type of_)))
type_text short = choice 0 (short_type short)

-- a definition of a type
abbrev pub type_definition : TypeDef → View
type_definition d = pair (used d.name) (pair (node (a_type d.text)) empty)

-- names with their type: the fields of a record
abbrev pub field : VarDef → View
field v = let x = out-VarDef v in pair (names x.names) (node (a_type x.text))

-- variables, with the ";" after them
abbrev pub variable : VarDef → View
variable v = let x = out-VarDef v in pair (names x.names) (pair (node (a_type x.text)) empty)

-- parameters, of which the type is short
abbrev pub parameter : VarDef → View
parameter v = let x = out-VarDef v in pair (names x.names) (node (a_short_type x.text))

-- exported variables, with the ";" after them
abbrev pub export : VarDef → View
export v = let x = out-VarDef v in pair (names x.names) (pair (node (a_short_type x.text)) empty)

-- parameters in brackets, where there are any
abbrev pub parameters : List VarDef → View
parameters [] = empty
parameters (v ∷ vs) = given (pair (nodes (map a_parameter (v ∷ vs))) empty)

-- Channels, headers and module variables.

-- an interaction with its parameters
abbrev pub interaction : InteractionDef → View
interaction i = pair (used i.name) (pair (parameters i.params) empty)

-- one role or two, and then the rest
abbrev pub roles : List Used → View → View
roles (one ∷ []) v = pair (used one) (pair empty v)
roles (one ∷ other ∷ []) v = pair (used one) (pair (given (used other)) v)
roles _ v = nowhere

-- what one role of a channel may send, or both
abbrev pub by_part : ByPart → View
by_part b = roles b.roles (nodes (map an_interaction b.interactions))

-- two names, and then the rest
abbrev pub two_names : List Used → View → View
two_names (one ∷ other ∷ []) v = pair (used one) (pair (used other) v)
two_names _ v = nowhere

-- a channel of two roles
abbrev pub channel : Channel → View
channel c = pair (used c.name) (two_names c.roles (nodes (map a_by_part c.by)))

-- a discipline of queues
abbrev pub queue : Queue → View
queue Individual = first empty
queue Common = second empty

-- a queue that may be left out
abbrev pub queue_given : Option Queue → View
queue_given None = empty
queue_given (Some q) = given (queue q)

-- the dimensions of an array of points or module variables, with their place
abbrev pub dimensions : ℕ → List TypeText → View
dimensions place [] = empty
dimensions place (d ∷ ds) = given (at place (pair (nodes (map a_short_type (d ∷ ds))) empty))

-- the place of the first of these names
abbrev pub first_place : List Used → ℕ
first_place [] = 0
first_place (u ∷ us) = u.place

-- where a declaration of this place with dimensions begins: its place is that of the dimensions,
-- or of its first name where it has none
abbrev pub beginning : ℕ → List TypeText → List Used → ℕ
beginning place [] us = place
beginning place (d ∷ ds) us = first_place us

-- interaction points
abbrev pub point : Point → View
point p = at (beginning p.place p.dims p.names)
    (pair (names p.names) (pair (dimensions p.place p.dims)
    (pair (used p.channel) (pair (used p.role) (pair (queue_given p.queue) empty)))))

-- whether a module is a system: "systemactivity" or "activity"
abbrev pub attribute : Bool → View
attribute true = first empty
attribute false = second empty

-- a header: its points and its exports stand in any order
abbrev pub header : Header → View
header h = pair (used h.name) (pair (attribute h.system) (pair (parameters h.params)
    (pair (sections nodes nodes (map a_point h.points) (map an_export h.exports)) empty)))

-- module variables
abbrev pub module_variable : ModvarDef → View
module_variable m = at (beginning m.place m.dims m.names)
    (pair (names m.names) (pair (dimensions m.place m.dims) (pair (used m.header) empty)))

-- a set of states
abbrev pub state_set : StateSet → View
state_set s = pair (used s.name) (pair (names s.states) empty)

-- Routines and blocks.

-- whether parameters are `var` parameters
abbrev pub by_place : Bool → View
by_place true = given empty
by_place false = empty

-- parameters of a routine that are declared together
abbrev pub formal : Formal → View
formal f = pair (by_place f.by_place) (pair (names f.names) (used f.kind))

-- the parameters of a routine in brackets, where there are any
abbrev pub formals : List Formal → View
formals [] = empty
formals (f ∷ fs) = given (pair (nodes (map a_formal (f ∷ fs))) empty)

-- a procedure, or a function with the type of its result
abbrev pub routine_of : Used → List Formal → Option Used → Block → View
routine_of name fs None block =
    first (pair (used name) (pair (formals fs) (pair (node (a_block block)) empty)))
routine_of name fs (Some result) block =
    second (pair empty (pair (used name) (pair (formals fs) (pair (used result)
    (pair (node (a_block block)) empty)))))

-- a routine
abbrev pub routine : Routine → View
routine r = let x = out-Routine r in routine_of x.name x.formals x.result x.block

-- a block
abbrev pub block : Block → View
block b = let x = out-Block b in
    pair (nodes (map a_block_part x.parts))
    (at x.place (pair (nodes (map a_statement x.statements)) empty))

-- Expressions.

-- an operator between the two sides of a relation
abbrev pub relational_operator : Operator → View
relational_operator operators.Equal = choice 0 empty
relational_operator operators.Unequal = choice 1 empty
relational_operator operators.Below = choice 2 empty
relational_operator operators.AtMost = choice 3 empty
relational_operator operators.Above = choice 4 empty
relational_operator operators.AtLeast = choice 5 empty
relational_operator operators.Within = last_choice 6 empty
relational_operator _ = nowhere

-- an operator between the terms of a sum
abbrev pub adding_operator : Operator → View
adding_operator operators.Plus = choice 0 empty
adding_operator operators.Minus = choice 1 empty
adding_operator operators.Or = last_choice 2 empty
adding_operator _ = nowhere

-- an operator between the factors of a product
abbrev pub multiplying_operator : Operator → View
multiplying_operator operators.Times = choice 0 empty
multiplying_operator operators.Div = choice 1 empty
multiplying_operator operators.Mod = choice 2 empty
multiplying_operator operators.And = last_choice 3 empty
multiplying_operator _ = nowhere

-- the right side of a relation, where there is one
abbrev pub relation : Option Relation → View
relation None = empty
relation (Some r) = let x = out-Relation r in
    given (pair (relational_operator x.operator) (node (a_simple x.right)))

-- an expression
abbrev pub expr : Expr → View
expr e = let x = out-Expr e in at x.place (pair (node (a_simple x.left)) (relation x.relation))

-- the sign before a sum, where one is written
abbrev pub sign : Option Sign → View
sign None = empty
sign (Some s) = given (written_sign s)

-- a sum
abbrev pub simple : Simple → View
simple s = let x = out-Simple s in
    pair (sign x.sign) (pair (node (a_term x.first)) (nodes (map a_sum_step x.rest)))

-- one more term of a sum
abbrev pub sum_step : SumStep → View
sum_step s = let x = out-SumStep s in
    pair (adding_operator x.operator) (node (a_term x.right))

-- a product
abbrev pub term : Term → View
term t = let x = out-Term t in pair (node (a_factor x.first)) (nodes (map a_product_step x.rest))

-- one more factor of a product
abbrev pub product_step : ProductStep → View
product_step s = let x = out-ProductStep s in
    pair (multiplying_operator x.operator) (node (a_factor x.right))

-- expressions in brackets, where there are any: arguments or subscripts
abbrev pub exprs_given : List Expr → View
exprs_given [] = empty
exprs_given (e ∷ es) = given (pair (nodes (map an_expr (e ∷ es))) empty)

-- the members of a set, where there are any
abbrev pub members : List Member → View
members [] = empty
members (m ∷ ms) = given (nodes (map a_member (m ∷ ms)))

-- the selectors of a variable, where there are any
abbrev pub selectors : List Selector → View
selectors [] = empty
selectors (s ∷ ss) = given (second (nodes (map a_selector (s ∷ ss))))

-- A factor, with its parts.
abbrev pub FactorForm : Type 0
FactorForm = factors.Factor-F Factor Selector Expr Member ProductStep Relation Simple SumStep Term

-- a factor
abbrev pub factor : FactorForm → View
factor (factors.Number number place) = at place (choice 0 (kept (kinds.value number)))
factor (factors.Character character place) = at place (choice 1 (kept (kinds.code character)))
factor (factors.Group of_ place) = at place (choice 2 (pair (node (an_expr of_)) empty))
factor (factors.Not of_ place) = at place (choice 3 (node (a_factor of_)))
factor (factors.Set ms place) = at place (choice 4 (pair (members ms) empty))
factor (factors.Variable name ss place) = at place (last_choice 5 (pair (used name) (selectors ss)))
factor (factors.Call name arguments place) = at place (last_choice 5 (pair (used name)
    (given (first (pair (nodes (map an_expr arguments)) empty)))))

-- A selector, with its parts.
abbrev pub SelectorForm : Type 0
SelectorForm =
    factors.Selector-F Factor Selector Expr Member ProductStep Relation Simple SumStep Term

-- subscripts, or a field
abbrev pub selector : SelectorForm → View
selector (factors.Field name) = first (used name)
selector (factors.Index exprs place) = second (at place (pair (nodes (map an_expr exprs)) empty))

-- the later end of a part of a set, where there is one
abbrev pub expr_given : Option Expr → View
expr_given None = empty
expr_given (Some e) = given (node (an_expr e))

-- a part of a set
abbrev pub member : Member → View
member m = let x = out-Member m in pair (node (an_expr x.low)) (expr_given x.high)

-- a name with its subscripts
abbrev pub access : Access → View
access a = pair (used a.name) (exprs_given a.index)

-- the point of a module variable, where there is one
abbrev pub access_given : Option Access → View
access_given None = empty
access_given (Some a) = given (node (an_access a))

-- an end of a link
abbrev pub end_point : EndPoint → View
end_point e = pair (node (an_access e.first)) (access_given e.second)

-- Statements.

-- the selectors of what is assigned, where there are any
abbrev pub path : List Selector → View
path [] = empty
path (s ∷ ss) = given (nodes (map a_selector (s ∷ ss)))

-- what an "else" stands before, where there is one
abbrev pub else_part : Option Statement → View
else_part None = empty
else_part (Some s) = given (node (a_statement s))

-- "to", or "downto" (true)
abbrev pub direction : Bool → View
direction false = first empty
direction true = second empty

-- the arguments of a procedure, where there are any
abbrev pub call : List Expr → View
call [] = empty
call (e ∷ es) = given (second (pair (nodes (map an_expr (e ∷ es))) empty))

-- an `init`: a module variable, a body and its arguments
abbrev pub init : Access → Used → List Expr → View
init target body arguments =
    pair (node (an_access target)) (pair (used body) (exprs_given arguments))

-- A statement, with its parts.
abbrev pub StatementForm : Type 0
StatementForm = statements.Statement-F Statement Arm

-- a statement that is not empty: its place, and the alternative
abbrev pub chosen : ℕ → ℕ → View → View
chosen place i v = at place (given (choice i v))

-- a statement
abbrev pub statement : StatementForm → View
statement (statements.Empty place) = at place empty
statement (statements.Compound turn place) =
    chosen place 0 (pair (nodes (map a_statement turn)) empty)
statement (statements.Assign target ss value place) =
    chosen place 1 (pair (used target) (given (first (pair (path ss) (node (an_expr value))))))
statement (statements.Call name arguments place) =
    chosen place 1 (pair (used name) (call arguments))
statement (statements.If condition one other place) =
    chosen place 2 (pair (node (an_expr condition))
    (pair (node (a_statement one)) (else_part other)))
statement (statements.Case value arms place) =
    chosen place 3 (pair (node (an_expr value)) (pair (nodes (map an_arm arms)) empty))
statement (statements.While condition turn place) =
    chosen place 4 (pair (node (an_expr condition)) (node (a_statement turn)))
statement (statements.Repeat turn until place) =
    chosen place 5 (pair (nodes (map a_statement turn)) (node (an_expr until)))
statement (statements.For name from down to turn place) =
    chosen place 6 (pair (used name) (pair (node (an_expr from)) (pair (direction down)
    (pair (node (an_expr to)) (node (a_statement turn))))))
statement (statements.All name over turn place) = chosen place 7 (pair (used name)
    (pair (node (a_short_type over)) (node (a_statement turn))))
statement (statements.Output sendings place) = chosen place 8 (nodes (map a_sending sendings))
statement (statements.Init target body arguments place) =
    chosen place 9 (init target body arguments)
statement (statements.Release target place) = chosen place 10 (node (an_access target))
statement (statements.Connect one other place) =
    chosen place 11 (pair (node (an_end_point one)) (node (an_end_point other)))
statement (statements.Disconnect end_ place) = chosen place 12 (node (an_end_point end_))
statement (statements.Attach own child ip place) = chosen place 13 (pair (node (an_access own))
    (pair (node (an_access child)) (node (an_access ip))))
statement (statements.Detach end_ place) =
    at place (given (last_choice 14 (node (an_end_point end_))))

-- one choice of a `case`
abbrev pub arm : Arm → View
arm a = let x = out-Arm a in pair (nodes (map a_constant x.constants)) (node (a_statement x.turn))

-- a sending
abbrev pub sending : Sending → View
sending s = pair (node (an_access s.at)) (pair (used s.signal) (exprs_given s.arguments))

-- Transitions and bodies.

-- what stands after `to`: a state, or `same`
abbrev pub next_state : Option Used → View
next_state (Some state) = first (used state)
next_state None = second empty

-- the later bound of a delay
abbrev pub most : Most → View
most Same = empty
most (Value e) = given (first (node (an_expr e)))
most Never = given (second empty)

-- a clause
abbrev pub clause : Clause → View
clause (clauses.From states place) = at place (choice 0 (names states))
clause (clauses.To state place) = at place (choice 1 (next_state state))
clause (clauses.When ip signal place) =
    at place (choice 2 (pair (node (an_access ip)) (used signal)))
clause (clauses.Provided condition place) = at place (choice 3 (first (node (an_expr condition))))
clause (clauses.Otherwise place) = at place (choice 3 (second empty))
clause (clauses.Any vs place) = at place (choice 4 (pair (nodes (map a_parameter vs)) empty))
clause (clauses.Priority value place) = at place (choice 5 (node (a_constant value)))
clause (clauses.Delay least bound place) =
    at place (last_choice 6 (pair (node (an_expr least)) (pair (most bound) empty)))

-- the name of a transition, where it has one
abbrev pub transition_name : Option Used → View
transition_name None = empty
transition_name (Some u) = given (pair (used u) empty)

-- a transition
abbrev pub transition : Transition → View
transition t = let x = out-Transition t in
    pair (nodes (map a_clause x.clauses))
    (pair (transition_name x.name) (pair (node (a_block x.block)) empty))

-- the transitions after one `trans`
abbrev pub transpart : Group → View
transpart g = nodes (map a_transition (out-Group g).transitions)

-- the initialize part of a body, where there is one
abbrev pub first_part : Option FirstPart → View
first_part None = empty
first_part (Some f) = let x = out-FirstPart f in
    given (pair (name_given x.to) (pair (node (a_block x.block)) empty))

-- a body
abbrev pub body : Body → View
body b = let x = out-Body b in
    pair (used x.name) (pair (used x.header) (pair (nodes (map a_body_part x.parts))
    (pair (first_part x.first) (pair (nodes (map a_group x.groups)) empty))))

-- A part that declares, with its own parts.
abbrev pub PartForm : Type 0
PartForm = parts.Part-F Part Block Body FirstPart Routine Group Transition

-- a part of a specification, or of a body that may have the same
abbrev pub common_part : PartForm → View
common_part (parts.Consts ds) = choice 0 (nodes (map a_constant_definition ds))
common_part (parts.Types ds) = choice 1 (nodes (map a_type_definition ds))
common_part (parts.Channel c) = choice 2 (node (a_channel c))
common_part (parts.Header h) = choice 3 (node (a_header h))
common_part (parts.Body b) = choice 4 (node (a_body b))
common_part (parts.Routine r) = choice 5 (node (a_routine r))
common_part (parts.Modvars ms) = last_choice 6 (nodes (map a_module_variable ms))
common_part _ = nowhere

-- a part that bodies alone may have
abbrev pub own_part : PartForm → View
own_part (parts.Points ps) = choice 0 (nodes (map a_point ps))
own_part (parts.Vars vs) = choice 1 (nodes (map a_variable vs))
own_part (parts.States us) = choice 2 (pair (names us) empty)
own_part (parts.StateSets ss) = last_choice 3 (nodes (map a_state_set ss))
own_part _ = nowhere

-- a part of a body
abbrev pub body_part : PartForm → View
body_part (parts.Points ps) = second (own_part (parts.Points ps))
body_part (parts.Vars vs) = second (own_part (parts.Vars vs))
body_part (parts.States us) = second (own_part (parts.States us))
body_part (parts.StateSets ss) = second (own_part (parts.StateSets ss))
body_part p = first (common_part p)

-- a part of a block
abbrev pub block_part : PartForm → View
block_part (parts.Consts ds) = choice 0 (nodes (map a_constant_definition ds))
block_part (parts.Types ds) = choice 1 (nodes (map a_type_definition ds))
block_part (parts.Vars vs) = last_choice 2 (nodes (map a_variable vs))
block_part _ = nowhere

-- Specifications.

-- the discipline of queues without one of their own, where it is given
abbrev pub default_queue : Option Queue → View
default_queue None = empty
default_queue (Some q) = given (pair (queue q) empty)

-- the time scale, where it is given
abbrev pub time_scale : Option Used → View
time_scale None = empty
time_scale (Some u) = given (pair (used u) empty)

-- the one statement of the initialize part of a specification, an `init`
abbrev pub first_statement : StatementForm → View
first_statement (statements.Init target body arguments place) =
    at place (init target body arguments)
first_statement _ = nowhere

-- a specification
abbrev pub specification : Spec → View
specification s = pair (used s.name) (pair (default_queue s.queue) (pair (time_scale s.scale)
    (pair (nodes (map a_common_part s.parts))
    (pair (first_statement (out-Statement s.first)) (pair empty empty)))))

-- the layer of each part
abbrev pub layer : Node → View
layer (a_use u) = used u
layer (a_constant c) = constant c
layer (a_constant_definition d) = constant_definition d
layer (a_type t) = type_text (out-TypeText t)
layer (a_short_type t) = short_type (out-TypeText t)
layer (a_type_definition d) = type_definition d
layer (a_field v) = field v
layer (a_variable v) = variable v
layer (a_parameter v) = parameter v
layer (an_export v) = export v
layer (an_interaction i) = interaction i
layer (a_by_part b) = by_part b
layer (a_channel c) = channel c
layer (a_point p) = point p
layer (a_header h) = header h
layer (a_module_variable m) = module_variable m
layer (a_state_set s) = state_set s
layer (a_formal f) = formal f
layer (a_routine r) = routine r
layer (a_common_part p) = common_part (out-Part p)
layer (a_body_part p) = body_part (out-Part p)
layer (a_block_part p) = block_part (out-Part p)
layer (a_block b) = block b
layer (a_clause c) = clause c
layer (a_transition t) = transition t
layer (a_group g) = transpart g
layer (a_body b) = body b
layer (an_access a) = access a
layer (an_end_point e) = end_point e
layer (a_statement s) = statement (out-Statement s)
layer (an_arm a) = arm a
layer (a_sending s) = sending s
layer (an_expr e) = expr e
layer (a_simple s) = simple s
layer (a_sum_step s) = sum_step s
layer (a_term t) = term t
layer (a_product_step s) = product_step s
layer (a_factor f) = factor (out-Factor f)
layer (a_selector s) = selector (out-Selector s)
layer (a_member m) = member m
layer (a_specification s) = specification s
