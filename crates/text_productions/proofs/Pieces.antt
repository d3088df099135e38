-- The pieces of layers tell what they show: lists, names, constants, types, declarations and
-- expressions.
use Rattle.std.proofs.Common.{◌≡◌, ℕ, Bool, true, false, List, [], ◌∷◌}
use Rattle.std.proofs.Common.{map, Option, Some, None, refl, ◌∙◌, ap}
use Rattle.est_syntax.specs.declared.name.Used.{Used}
use Rattle.est_syntax.specs.declared.constant.Sign.{Sign}
use Rattle.est_syntax.specs.declared.constant.Sign.TheVariants.{Plus, Minus}
use Rattle.est_syntax.specs.declared.constant.Constant.{Constant}
use Rattle.est_syntax.specs.declared.constant.Constant.TheVariants as constant
use Rattle.est_syntax.specs.declared.constant.ConstDef.{ConstDef}
use Rattle.est_syntax.specs.declared.type_text.TypeText.{TypeText}
use Rattle.est_syntax.specs.declared.type_text.TypeText.TheOpen as text
use Rattle.est_syntax.specs.declared.type_text.VarDef.{VarDef}
use Rattle.est_syntax.specs.declared.type_text.TypeDef.{TypeDef}
use Rattle.est_syntax.specs.declared.channel.InteractionDef.{InteractionDef}
use Rattle.est_syntax.specs.declared.channel.ByPart.{ByPart}
use Rattle.est_syntax.specs.declared.header.Queue.{Queue}
use Rattle.est_syntax.specs.declared.header.Queue.TheVariants as queue
use Rattle.est_syntax.specs.declared.header.Point.{Point}
use Rattle.est_syntax.specs.declared.header.ModvarDef.{ModvarDef}
use Rattle.est_syntax.specs.declared.body.StateSet.{StateSet}
use Rattle.est_syntax.specs.declared.body.Block.{Block}
use Rattle.est_syntax.specs.declared.body.Part.{Part}
use Rattle.est_syntax.specs.declared.routine.Formal.{Formal}
use Rattle.est_syntax.specs.declared.routine.Routine.{roll-Routine}
use Rattle.est_syntax.specs.declared.transition.Clause.{Clause}
use Rattle.est_syntax.specs.declared.transition.Transition.{Transition}
use Rattle.est_syntax.specs.declared.transition.Group.{Group}
use Rattle.est_syntax.specs.declared.expression.Operator.{Operator}
use Rattle.est_syntax.specs.declared.expression.Operator.TheVariants as operator
use Rattle.est_syntax.specs.declared.expression.Selector.{Selector}
use Rattle.est_syntax.specs.declared.expression.Member.{Member}
use Rattle.est_syntax.specs.declared.expression.Factor.TheOpen as factor
use Rattle.est_syntax.specs.declared.expression.ProductStep.{ProductStep}
use Rattle.est_syntax.specs.declared.expression.SumStep.{SumStep}
use Rattle.est_syntax.specs.declared.expression.Relation.{Relation, out-Relation}
use Rattle.est_syntax.specs.declared.expression.Relation.{roll-Relation, roll-out-Relation}
use Rattle.est_syntax.specs.declared.expression.Expr.{Expr}
use Rattle.est_syntax.specs.declared.expression.Access.{Access}
use Rattle.est_syntax.specs.declared.statement.Arm.{Arm}
use Rattle.est_syntax.specs.declared.statement.Sending.{Sending}
use Rattle.est_syntax.specs.declared.statement.Statement.{Statement}
use Rattle.text_reader.specs.Shown.{Shows, empty, kept, at, pair, first, second, given}
use Rattle.text_reader.specs.Shown.{node, nowhere, nodes, s_pair, s_first, s_given}
use Rattle.text_reader.specs.Tests as kinds
use Rattle.text_reader.specs.Going.{Shape, used}
use Rattle.text_productions.specs.Nodes as shown
use Rattle.text_productions.specs.Nodes.{Node, View, a_use, a_constant, a_constant_definition}
use Rattle.text_productions.specs.Nodes.{a_type, a_short_type, a_type_definition, a_field}
use Rattle.text_productions.specs.Nodes.{a_variable, a_parameter, an_export, an_interaction}
use Rattle.text_productions.specs.Nodes.{a_by_part, a_channel, a_point, a_module_variable}
use Rattle.text_productions.specs.Nodes.{a_state_set, a_formal, a_routine, a_common_part}
use Rattle.text_productions.specs.Nodes.{a_body_part, a_block_part, a_block, a_clause, a_transition}
use Rattle.text_productions.specs.Nodes.{a_group, an_access, a_statement, an_arm, a_sending}
use Rattle.text_productions.specs.Nodes.{an_expr}
use Rattle.text_productions.specs.Nodes.{a_simple, a_sum_step, a_product_step, a_factor, a_selector}
use Rattle.text_productions.specs.Nodes.{a_member, layer, TypeTextForm, FactorForm, SelectorForm}

-- the view shows this shape
abbrev pub Has : View → Shape → Type 0
Has v t = Shows layer v t

-- LISTS

abbrev pub put : {A : Type 0} → Option A → List A → List A
put None xs = xs
put (Some x) xs = x ∷ xs

-- the parts of one sort that stand in a list
abbrev pub read : {A : Type 0} → (Node → Option A) → List Node → List A
read out [] = []
read out (n ∷ ns) = put (out n) (read out ns)

back : {A : Type 0} (out : Node → Option A) (part : A → Node) → ((x : A) → out (part x) ≡ Some x)
    → (xs : List A) → read out (map part xs) ≡ xs
back out part e [] = refl
back out part e (x ∷ xs) = ap (λ o. put o (read out (map part xs))) (e x)
    ∙ ap (λ l. x ∷ l) (back out part e xs)

abbrev pub use_of : Node → Option Used
use_of (a_use x) = Some x
use_of n = None

pub uses_back : (xs : List Used) → read use_of (map a_use xs) ≡ xs
uses_back xs = back use_of a_use (λ x. refl) xs

abbrev pub constant_of : Node → Option Constant
constant_of (a_constant x) = Some x
constant_of n = None

pub constants_back : (xs : List Constant) → read constant_of (map a_constant xs) ≡ xs
constants_back xs = back constant_of a_constant (λ x. refl) xs

abbrev pub constant_definition_of : Node → Option ConstDef
constant_definition_of (a_constant_definition x) = Some x
constant_definition_of n = None

pub constant_definitions_back : (xs : List ConstDef)
    → read constant_definition_of (map a_constant_definition xs) ≡ xs
constant_definitions_back xs = back constant_definition_of a_constant_definition (λ x. refl) xs

abbrev pub type_of : Node → Option TypeText
type_of (a_type x) = Some x
type_of n = None

types_back : (xs : List TypeText) → read type_of (map a_type xs) ≡ xs
types_back xs = back type_of a_type (λ x. refl) xs

abbrev pub short_type_of : Node → Option TypeText
short_type_of (a_short_type x) = Some x
short_type_of n = None

short_types_back : (xs : List TypeText) → read short_type_of (map a_short_type xs) ≡ xs
short_types_back xs = back short_type_of a_short_type (λ x. refl) xs

abbrev pub type_definition_of : Node → Option TypeDef
type_definition_of (a_type_definition x) = Some x
type_definition_of n = None

pub type_definitions_back : (xs : List TypeDef) → read type_definition_of (map a_type_definition xs)
    ≡ xs
type_definitions_back xs = back type_definition_of a_type_definition (λ x. refl) xs

abbrev pub field_of : Node → Option VarDef
field_of (a_field x) = Some x
field_of n = None

fields_back : (xs : List VarDef) → read field_of (map a_field xs) ≡ xs
fields_back xs = back field_of a_field (λ x. refl) xs

abbrev pub variable_of : Node → Option VarDef
variable_of (a_variable x) = Some x
variable_of n = None

pub variables_back : (xs : List VarDef) → read variable_of (map a_variable xs) ≡ xs
variables_back xs = back variable_of a_variable (λ x. refl) xs

abbrev pub parameter_of : Node → Option VarDef
parameter_of (a_parameter x) = Some x
parameter_of n = None

pub parameters_back : (xs : List VarDef) → read parameter_of (map a_parameter xs) ≡ xs
parameters_back xs = back parameter_of a_parameter (λ x. refl) xs

abbrev pub export_of : Node → Option VarDef
export_of (an_export x) = Some x
export_of n = None

pub exports_back : (xs : List VarDef) → read export_of (map an_export xs) ≡ xs
exports_back xs = back export_of an_export (λ x. refl) xs

abbrev pub interaction_of : Node → Option InteractionDef
interaction_of (an_interaction x) = Some x
interaction_of n = None

interactions_back : (xs : List InteractionDef) → read interaction_of (map an_interaction xs) ≡ xs
interactions_back xs = back interaction_of an_interaction (λ x. refl) xs

abbrev pub by_part_of : Node → Option ByPart
by_part_of (a_by_part x) = Some x
by_part_of n = None

by_parts_back : (xs : List ByPart) → read by_part_of (map a_by_part xs) ≡ xs
by_parts_back xs = back by_part_of a_by_part (λ x. refl) xs

abbrev pub point_of : Node → Option Point
point_of (a_point x) = Some x
point_of n = None

pub points_back : (xs : List Point) → read point_of (map a_point xs) ≡ xs
points_back xs = back point_of a_point (λ x. refl) xs

abbrev pub module_variable_of : Node → Option ModvarDef
module_variable_of (a_module_variable x) = Some x
module_variable_of n = None

pub module_variables_back : (xs : List ModvarDef)
    → read module_variable_of (map a_module_variable xs) ≡ xs
module_variables_back xs = back module_variable_of a_module_variable (λ x. refl) xs

abbrev pub state_set_of : Node → Option StateSet
state_set_of (a_state_set x) = Some x
state_set_of n = None

pub state_sets_back : (xs : List StateSet) → read state_set_of (map a_state_set xs) ≡ xs
state_sets_back xs = back state_set_of a_state_set (λ x. refl) xs

abbrev pub formal_of : Node → Option Formal
formal_of (a_formal x) = Some x
formal_of n = None

formals_back : (xs : List Formal) → read formal_of (map a_formal xs) ≡ xs
formals_back xs = back formal_of a_formal (λ x. refl) xs

abbrev pub common_part_of : Node → Option Part
common_part_of (a_common_part x) = Some x
common_part_of n = None

pub common_parts_back : (xs : List Part) → read common_part_of (map a_common_part xs) ≡ xs
common_parts_back xs = back common_part_of a_common_part (λ x. refl) xs

abbrev pub body_part_of : Node → Option Part
body_part_of (a_body_part x) = Some x
body_part_of n = None

pub body_parts_back : (xs : List Part) → read body_part_of (map a_body_part xs) ≡ xs
body_parts_back xs = back body_part_of a_body_part (λ x. refl) xs

abbrev pub block_part_of : Node → Option Part
block_part_of (a_block_part x) = Some x
block_part_of n = None

pub block_parts_back : (xs : List Part) → read block_part_of (map a_block_part xs) ≡ xs
block_parts_back xs = back block_part_of a_block_part (λ x. refl) xs

abbrev pub clause_of : Node → Option Clause
clause_of (a_clause x) = Some x
clause_of n = None

pub clauses_back : (xs : List Clause) → read clause_of (map a_clause xs) ≡ xs
clauses_back xs = back clause_of a_clause (λ x. refl) xs

abbrev pub transition_of : Node → Option Transition
transition_of (a_transition x) = Some x
transition_of n = None

pub transitions_back : (xs : List Transition) → read transition_of (map a_transition xs) ≡ xs
transitions_back xs = back transition_of a_transition (λ x. refl) xs

abbrev pub group_of : Node → Option Group
group_of (a_group x) = Some x
group_of n = None

pub groups_back : (xs : List Group) → read group_of (map a_group xs) ≡ xs
groups_back xs = back group_of a_group (λ x. refl) xs

abbrev pub statement_of : Node → Option Statement
statement_of (a_statement x) = Some x
statement_of n = None

pub statements_back : (xs : List Statement) → read statement_of (map a_statement xs) ≡ xs
statements_back xs = back statement_of a_statement (λ x. refl) xs

abbrev pub arm_of : Node → Option Arm
arm_of (an_arm x) = Some x
arm_of n = None

pub arms_back : (xs : List Arm) → read arm_of (map an_arm xs) ≡ xs
arms_back xs = back arm_of an_arm (λ x. refl) xs

abbrev pub sending_of : Node → Option Sending
sending_of (a_sending x) = Some x
sending_of n = None

pub sendings_back : (xs : List Sending) → read sending_of (map a_sending xs) ≡ xs
sendings_back xs = back sending_of a_sending (λ x. refl) xs

abbrev pub expr_of : Node → Option Expr
expr_of (an_expr x) = Some x
expr_of n = None

pub exprs_back : (xs : List Expr) → read expr_of (map an_expr xs) ≡ xs
exprs_back xs = back expr_of an_expr (λ x. refl) xs

abbrev pub sum_step_of : Node → Option SumStep
sum_step_of (a_sum_step x) = Some x
sum_step_of n = None

pub sum_steps_back : (xs : List SumStep) → read sum_step_of (map a_sum_step xs) ≡ xs
sum_steps_back xs = back sum_step_of a_sum_step (λ x. refl) xs

abbrev pub product_step_of : Node → Option ProductStep
product_step_of (a_product_step x) = Some x
product_step_of n = None

pub product_steps_back : (xs : List ProductStep) → read product_step_of (map a_product_step xs) ≡ xs
product_steps_back xs = back product_step_of a_product_step (λ x. refl) xs

abbrev pub selector_of : Node → Option Selector
selector_of (a_selector x) = Some x
selector_of n = None

pub selectors_back : (xs : List Selector) → read selector_of (map a_selector xs) ≡ xs
selectors_back xs = back selector_of a_selector (λ x. refl) xs

abbrev pub member_of : Node → Option Member
member_of (a_member x) = Some x
member_of n = None

members_back : (xs : List Member) → read member_of (map a_member xs) ≡ xs
members_back xs = back member_of a_member (λ x. refl) xs

-- NAMES AND SIGNS

abbrev pub spelled : List ℕ → ℕ → Used
spelled bytes place = record { name = record { bytes = bytes }; place = place }

abbrev pub nobody : Used
nobody = spelled [] 0

abbrev pub used_in : View → Used
used_in (at place (kept (kinds.name bytes))) = spelled bytes place
used_in v = nobody

abbrev pub name_given_in : View → Option Used
name_given_in (given (at place (kept (kinds.name bytes)))) = Some (spelled bytes place)
name_given_in v = None

pub name_given_back : (o : Option Used) → name_given_in (shown.name_given o) ≡ o
name_given_back None = refl
name_given_back (Some u) = refl

-- which sign stands there
abbrev pub written_in : View → Sign
written_in (second v) = Minus
written_in v = Plus

written_back : (s : Sign) → written_in (shown.written_sign s) ≡ s
written_back Plus = refl
written_back Minus = refl

-- whether the second of two words stands there
abbrev pub is_second : View → Bool
is_second (second v) = true
is_second v = false

-- CONSTANTS AND TYPES

abbrev pub signed_in : Sign → ℕ → View → Constant
signed_in sign place (first (kept (kinds.value number))) =
    constant.Number (Some sign) number place
signed_in sign place (second (at p (kept (kinds.name bytes)))) =
    constant.Named (Some sign) (spelled bytes p) place
signed_in sign place v = constant.Number None 0 0

abbrev pub unnamed_in : View → Constant
unnamed_in (at place (first (kept (kinds.value number)))) = constant.Number None number place
unnamed_in (at place (second (first (pair w v)))) = signed_in (written_in w) place v
unnamed_in (at place (second (second (kept (kinds.code code))))) = constant.Character code place
unnamed_in v = constant.Number None 0 0

unnamed_back : (c : Constant) {t : Shape} → Has (shown.unnamed c) t
    → unnamed_in (shown.unnamed c) ≡ c
unnamed_back (constant.Number (Some sign) number place) d =
    ap (λ s. constant.Number (Some s) number place) (written_back sign)
unnamed_back (constant.Number None number place) d = refl
unnamed_back (constant.Named (Some sign) name place) d =
    ap (λ s. constant.Named (Some s) name place) (written_back sign)
unnamed_back (constant.Named None name place) d = elim d [ ]
unnamed_back (constant.Character code place) d = refl

abbrev pub constant_in : View → Constant
constant_in (second (at place v)) = constant.Named None (used_in v) place
constant_in (first v) = unnamed_in v
constant_in v = constant.Number None 0 0

pub constant_back : (c : Constant) {t : Shape} → Has (shown.constant c) t
    → constant_in (shown.constant c) ≡ c
constant_back (constant.Number sign number place) (s_first d) =
    unnamed_back (constant.Number sign number place) d
constant_back (constant.Named None name place) d = refl
constant_back (constant.Named (Some sign) name place) (s_first d) =
    unnamed_back (constant.Named (Some sign) name place) d
constant_back (constant.Character code place) d = refl

abbrev pub short_in : View → Option TypeTextForm
short_in (second (at place (pair v empty))) = Some (text.Named (used_in v))
short_in (second (at place (pair v (given (node (a_constant high)))))) =
    Some (text.Range (constant.Named None (used_in v) place) high)
short_in (first (pair v (node (a_constant high)))) = Some (text.Range (unnamed_in v) high)
short_in v = None

range_back : (low high : Constant) {t : Shape} → Has (shown.range low high) t
    → short_in (shown.range low high) ≡ Some (text.Range low high)
range_back (constant.Number sign number place) high (s_first (s_pair d e)) =
    ap (λ c. Some (text.Range c high)) (unnamed_back (constant.Number sign number place) d)
range_back (constant.Named None name place) high d = refl
range_back (constant.Named (Some sign) name place) high (s_first (s_pair d e)) =
    ap (λ c. Some (text.Range c high)) (unnamed_back (constant.Named (Some sign) name place) d)
range_back (constant.Character code place) high d = refl

pub short_back : (x : TypeTextForm) {t : Shape} → Has (shown.short_type x) t
    → short_in (shown.short_type x) ≡ Some x
short_back (text.Named name) d = refl
short_back (text.Range low high) d = range_back low high d
short_back (text.Names us place) d = elim d [ ]
short_back (text.Array index of_ place) d = elim d [ ]
short_back (text.Fields fs place) d = elim d [ ]
short_back (text.Set of_ place) d = elim d [ ]

-- the type after `of`
abbrev pub structured_in : ℕ → View → Option TypeTextForm
structured_in place (first (pair (nodes ns) (node (a_type of_)))) =
    Some (text.Array (read type_of ns) of_ place)
structured_in place (second (first (pair (nodes ns) empty))) =
    Some (text.Fields (read field_of ns) place)
structured_in place (second (second (node (a_type of_)))) = Some (text.Set of_ place)
structured_in place v = None

abbrev pub type_in : View → Option TypeTextForm
type_in (first v) = short_in v
type_in (second (first (at place (pair (nodes ns) empty)))) =
    Some (text.Names (read use_of ns) place)
type_in (second (second (at place (pair empty v)))) = structured_in place v
type_in v = None

pub type_back : (x : TypeTextForm) {t : Shape} → Has (shown.type_text x) t
    → type_in (shown.type_text x) ≡ Some x
type_back (text.Named name) d = refl
type_back (text.Range low high) (s_first d) = range_back low high d
type_back (text.Names us place) d = ap (λ l. Some (text.Names l place)) (uses_back us)
type_back (text.Array index of_ place) d = ap (λ l. Some (text.Array l of_ place))
    (types_back index)
type_back (text.Fields fs place) d = ap (λ l. Some (text.Fields l place)) (fields_back fs)
type_back (text.Set of_ place) d = refl

abbrev pub parameters_in : View → List VarDef
parameters_in (given (pair (nodes ns) empty)) = read parameter_of ns
parameters_in v = []

pub parameters_are : (vs : List VarDef) → parameters_in (shown.parameters vs) ≡ vs
parameters_are [] = refl
parameters_are (v ∷ vs) = parameters_back (v ∷ vs)

-- CHANNELS, HEADERS AND MODULE VARIABLES

abbrev pub by_part_in : View → Option Node
by_part_in (pair v (pair empty (nodes ns))) = Some (a_by_part record {
  roles = used_in v ∷ [];
  interactions = read interaction_of ns;
})
by_part_in (pair v (pair (given w) (nodes ns))) = Some (a_by_part record {
  roles = used_in v ∷ used_in w ∷ [];
  interactions = read interaction_of ns;
})
by_part_in v = None

pub by_part_back : (us : List Used) (is : List InteractionDef) {t : Shape}
    → Has (shown.roles us (nodes (map an_interaction is))) t
    → by_part_in (shown.roles us (nodes (map an_interaction is)))
    ≡ Some (a_by_part record { roles = us; interactions = is })
by_part_back [] is d = elim d [ ]
by_part_back (one ∷ []) is d = ap (λ l. Some (a_by_part record {
  roles = one ∷ [];
  interactions = l;
})) (interactions_back is)
by_part_back (one ∷ other ∷ []) is d =
    ap (λ l. Some (a_by_part record { roles = one ∷ other ∷ []; interactions = l }))
    (interactions_back is)
by_part_back (one ∷ other ∷ more ∷ us) is d = elim d [ ]

abbrev pub channel_in : View → Option Node
channel_in (pair v (pair one (pair other (nodes ns)))) = Some (a_channel record {
  name = used_in v;
  roles = used_in one ∷ used_in other ∷ [];
  by = read by_part_of ns;
})
channel_in v = None

pub channel_back : (name : Used) (us : List Used) (bs : List ByPart) {t : Shape}
    → Has (shown.two_names us (nodes (map a_by_part bs))) t
    → channel_in (pair (used name) (shown.two_names us (nodes (map a_by_part bs))))
    ≡ Some (a_channel record { name = name; roles = us; by = bs })
channel_back name [] bs d = elim d [ ]
channel_back name (one ∷ []) bs d = elim d [ ]
channel_back name (one ∷ other ∷ []) bs d =
    ap (λ l. Some (a_channel record { name = name; roles = one ∷ other ∷ []; by = l }))
    (by_parts_back bs)
channel_back name (one ∷ other ∷ more ∷ us) bs d = elim d [ ]

abbrev pub queue_in : View → Queue
queue_in (second v) = queue.Common
queue_in v = queue.Individual

pub queue_back : (q : Queue) → queue_in (shown.queue q) ≡ q
queue_back queue.Individual = refl
queue_back queue.Common = refl

abbrev pub queue_given_in : View → Option Queue
queue_given_in (given v) = Some (queue_in v)
queue_given_in v = None

pub queue_given_back : (o : Option Queue) → queue_given_in (shown.queue_given o) ≡ o
queue_given_back None = refl
queue_given_back (Some q) = ap (λ x. Some x) (queue_back q)

abbrev pub dimensions_in : View → List TypeText
dimensions_in (given (at place (pair (nodes ns) empty))) = read short_type_of ns
dimensions_in v = []

pub dimensions_back : (place : ℕ) (ds : List TypeText) → dimensions_in (shown.dimensions place ds)
    ≡ ds
dimensions_back place [] = refl
dimensions_back place (d ∷ ds) = short_types_back (d ∷ ds)

-- the place, told by that of the dimensions, or by that where the declaration begins
abbrev pub place_in : ℕ → View → ℕ
place_in beginning (given (at place v)) = place
place_in beginning v = beginning

pub place_back : (place : ℕ) (ds : List TypeText) (us : List Used)
    → place_in (shown.beginning place ds us) (shown.dimensions place ds) ≡ place
place_back place [] us = refl
place_back place (d ∷ ds) us = refl

abbrev pub is_first : View → Bool
is_first (first v) = true
is_first v = false

pub attribute_back : (system : Bool) → is_first (shown.attribute system) ≡ system
attribute_back true = refl
attribute_back false = refl

-- ROUTINES AND BLOCKS

abbrev pub is_given : View → Bool
is_given (given v) = true
is_given v = false

pub by_place_back : (by_place : Bool) → is_given (shown.by_place by_place) ≡ by_place
by_place_back true = refl
by_place_back false = refl

abbrev pub formals_in : View → List Formal
formals_in (given (pair (nodes ns) empty)) = read formal_of ns
formals_in v = []

formals_are : (fs : List Formal) → formals_in (shown.formals fs) ≡ fs
formals_are [] = refl
formals_are (f ∷ fs) = formals_back (f ∷ fs)

abbrev pub routine_in : View → Option Node
routine_in (first (pair v (pair fs (pair (node (a_block block)) empty)))) =
    Some (a_routine (roll-Routine record {
      name = used_in v;
      formals = formals_in fs;
      result = None;
      block = block;
    }))
routine_in (second (pair empty (pair v (pair fs (pair w (pair (node (a_block block)) empty)))))) =
    Some (a_routine (roll-Routine record {
      name = used_in v;
      formals = formals_in fs;
      result = Some (used_in w);
      block = block;
    }))
routine_in v = None

pub routine_back : (name : Used) (fs : List Formal) (result : Option Used) (block : Block)
    → routine_in (shown.routine_of name fs result block)
    ≡ Some (a_routine (roll-Routine record {
      name = name;
      formals = fs;
      result = result;
      block = block;
    }))
routine_back name fs None block =
    ap (λ l. Some (a_routine (roll-Routine record {
      name = name;
      formals = l;
      result = None;
      block = block;
    }))) (formals_are fs)
routine_back name fs (Some result) block =
    ap (λ l. Some (a_routine (roll-Routine record {
      name = name;
      formals = l;
      result = Some result;
      block = block;
    }))) (formals_are fs)

-- EXPRESSIONS

abbrev pub relational_in : View → Operator
relational_in (first v) = operator.Equal
relational_in (second (first v)) = operator.Unequal
relational_in (second (second (first v))) = operator.Below
relational_in (second (second (second (first v)))) = operator.AtMost
relational_in (second (second (second (second (first v))))) = operator.Above
relational_in (second (second (second (second (second (first v)))))) = operator.AtLeast
relational_in v = operator.Within

relational_back : (o : Operator) {t : Shape} → Has (shown.relational_operator o) t
    → relational_in (shown.relational_operator o) ≡ o
relational_back operator.Equal d = refl
relational_back operator.Unequal d = refl
relational_back operator.Below d = refl
relational_back operator.AtMost d = refl
relational_back operator.Above d = refl
relational_back operator.AtLeast d = refl
relational_back operator.Within d = refl
relational_back operator.Plus d = elim d [ ]
relational_back operator.Minus d = elim d [ ]
relational_back operator.Or d = elim d [ ]
relational_back operator.Times d = elim d [ ]
relational_back operator.Div d = elim d [ ]
relational_back operator.Mod d = elim d [ ]
relational_back operator.And d = elim d [ ]

abbrev pub adding_in : View → Operator
adding_in (first v) = operator.Plus
adding_in (second (first v)) = operator.Minus
adding_in v = operator.Or

pub adding_back : (o : Operator) {t : Shape} → Has (shown.adding_operator o) t
    → adding_in (shown.adding_operator o) ≡ o
adding_back operator.Plus d = refl
adding_back operator.Minus d = refl
adding_back operator.Or d = refl
adding_back operator.Equal d = elim d [ ]
adding_back operator.Unequal d = elim d [ ]
adding_back operator.Below d = elim d [ ]
adding_back operator.AtMost d = elim d [ ]
adding_back operator.Above d = elim d [ ]
adding_back operator.AtLeast d = elim d [ ]
adding_back operator.Within d = elim d [ ]
adding_back operator.Times d = elim d [ ]
adding_back operator.Div d = elim d [ ]
adding_back operator.Mod d = elim d [ ]
adding_back operator.And d = elim d [ ]

abbrev pub multiplying_in : View → Operator
multiplying_in (first v) = operator.Times
multiplying_in (second (first v)) = operator.Div
multiplying_in (second (second (first v))) = operator.Mod
multiplying_in v = operator.And

pub multiplying_back : (o : Operator) {t : Shape} → Has (shown.multiplying_operator o) t
    → multiplying_in (shown.multiplying_operator o) ≡ o
multiplying_back operator.Times d = refl
multiplying_back operator.Div d = refl
multiplying_back operator.Mod d = refl
multiplying_back operator.And d = refl
multiplying_back operator.Equal d = elim d [ ]
multiplying_back operator.Unequal d = elim d [ ]
multiplying_back operator.Below d = elim d [ ]
multiplying_back operator.AtMost d = elim d [ ]
multiplying_back operator.Above d = elim d [ ]
multiplying_back operator.AtLeast d = elim d [ ]
multiplying_back operator.Within d = elim d [ ]
multiplying_back operator.Plus d = elim d [ ]
multiplying_back operator.Minus d = elim d [ ]
multiplying_back operator.Or d = elim d [ ]

abbrev pub relation_in : View → Option Relation
relation_in (given (pair v (node (a_simple right)))) = Some (roll-Relation record {
  operator = relational_in v;
  right = right;
})
relation_in v = None

pub relation_back : (o : Option Relation) {t : Shape} → Has (shown.relation o) t
    → relation_in (shown.relation o) ≡ o
relation_back None d = refl
relation_back (Some r) (s_given (s_pair d e)) =
    ap (λ o. Some (roll-Relation record { operator = o; right = (out-Relation r).right }))
    (relational_back (out-Relation r).operator d) ∙ ap (λ x. Some x) (roll-out-Relation r)

-- the sign before a sum
abbrev pub sign_in : View → Option Sign
sign_in (given v) = Some (written_in v)
sign_in v = None

pub sign_back : (sign : Option Sign) → sign_in (shown.sign sign) ≡ sign
sign_back None = refl
sign_back (Some s) = ap (λ x. Some x) (written_back s)

abbrev pub exprs_given_in : View → List Expr
exprs_given_in (given (pair (nodes ns) empty)) = read expr_of ns
exprs_given_in v = []

pub exprs_given_back : (es : List Expr) → exprs_given_in (shown.exprs_given es) ≡ es
exprs_given_back [] = refl
exprs_given_back (e ∷ es) = exprs_back (e ∷ es)

abbrev pub members_in : View → List Member
members_in (given (nodes ns)) = read member_of ns
members_in v = []

members_are : (ms : List Member) → members_in (shown.members ms) ≡ ms
members_are [] = refl
members_are (m ∷ ms) = members_back (m ∷ ms)

-- what stands after a name
abbrev pub path_in : Used → ℕ → View → FactorForm
path_in name place (given (first (pair (nodes ns) empty))) = factor.Call name (read expr_of ns)
    place
path_in name place (given (second (nodes ns))) = factor.Variable name (read selector_of ns) place
path_in name place v = factor.Variable name [] place

path_back : (name : Used) (place : ℕ) (ss : List Selector) → path_in name place (shown.selectors ss)
    ≡ factor.Variable name ss place
path_back name place [] = refl
path_back name place (s ∷ ss) = ap (λ l. factor.Variable name l place) (selectors_back (s ∷ ss))

abbrev pub factor_in : View → Option FactorForm
factor_in (at place (first (kept (kinds.value number)))) = Some (factor.Number number place)
factor_in (at place (second (first (kept (kinds.code code))))) = Some (factor.Character code place)
factor_in (at place (second (second (first (pair (node (an_expr of_)) empty))))) =
    Some (factor.Group of_ place)
factor_in (at place (second (second (second (first (node (a_factor of_))))))) =
    Some (factor.Not of_ place)
factor_in (at place (second (second (second (second (first (pair v empty))))))) =
    Some (factor.Set (members_in v) place)
factor_in (at place (second (second (second (second (second (pair v w))))))) =
    Some (path_in (used_in v) place w)
factor_in v = None

pub factor_back : (f : FactorForm) → factor_in (shown.factor f) ≡ Some f
factor_back (factor.Number number place) = refl
factor_back (factor.Character code place) = refl
factor_back (factor.Group of_ place) = refl
factor_back (factor.Not of_ place) = refl
factor_back (factor.Set ms place) = ap (λ l. Some (factor.Set l place)) (members_are ms)
factor_back (factor.Variable name path place) = ap (λ f. Some f) (path_back name place path)
factor_back (factor.Call name es place) = ap (λ l. Some (factor.Call name l place)) (exprs_back es)

abbrev pub selector_in : View → Option SelectorForm
selector_in (first v) = Some (factor.Field (used_in v))
selector_in (second (at place (pair (nodes ns) empty))) =
    Some (factor.Index (read expr_of ns) place)
selector_in v = None

pub selector_back : (s : SelectorForm) → selector_in (shown.selector s) ≡ Some s
selector_back (factor.Index es place) = ap (λ l. Some (factor.Index l place)) (exprs_back es)
selector_back (factor.Field name) = refl

abbrev pub expr_given_in : View → Option Expr
expr_given_in (given (node (an_expr e))) = Some e
expr_given_in v = None

pub expr_given_back : (o : Option Expr) → expr_given_in (shown.expr_given o) ≡ o
expr_given_back None = refl
expr_given_back (Some e) = refl

abbrev pub access_given_in : View → Option Access
access_given_in (given (node (an_access a))) = Some a
access_given_in v = None

pub access_given_back : (o : Option Access) → access_given_in (shown.access_given o) ≡ o
access_given_back None = refl
access_given_back (Some a) = refl
