-- What the layers of each sort of expression look like: the grammar, once more.
use Rattle.std.proofs.Common.{◌≡◌, ℕ, Bool, true, false, List, []}
use Rattle.std.proofs.Common.{◌∷◌, map, Option, Some, None, refl}
use Rattle.est_syntax.specs.declared.name.Used.{Used}
use Rattle.est_syntax.specs.declared.constant.Sign.{Sign}
use Rattle.est_syntax.specs.declared.constant.Sign.TheVariants.{Plus, Minus}
use Rattle.est_syntax.specs.declared.constant.Constant.{Constant}
use Rattle.est_syntax.specs.declared.constant.Constant.TheVariants as constant
use Rattle.est_syntax.specs.declared.type_text.TypeText.{TypeText}
use Rattle.est_syntax.specs.declared.type_text.TypeText.TheOpen as text
use Rattle.est_syntax.specs.declared.type_text.VarDef.{VarDef}
use Rattle.est_syntax.specs.declared.channel.InteractionDef.{InteractionDef}
use Rattle.est_syntax.specs.declared.channel.ByPart.{ByPart}
use Rattle.est_syntax.specs.declared.header.Queue.{Queue}
use Rattle.est_syntax.specs.declared.header.Queue.TheVariants as queue
use Rattle.est_syntax.specs.declared.body.Block.{Block}
use Rattle.est_syntax.specs.declared.routine.Formal.{Formal}
use Rattle.est_syntax.specs.declared.expression.Operator.{Operator}
use Rattle.est_syntax.specs.declared.expression.Operator.TheVariants as operator
use Rattle.est_syntax.specs.declared.expression.Selector.{Selector}
use Rattle.est_syntax.specs.declared.expression.Member.{Member}
use Rattle.est_syntax.specs.declared.expression.Factor.TheOpen as factor
use Rattle.est_syntax.specs.declared.expression.Relation.{Relation, out-Relation}
use Rattle.est_syntax.specs.declared.expression.Expr.{Expr}
use Rattle.est_syntax.specs.declared.expression.Access.{Access}
use Rattle.text_reader.specs.Shown.{nodes}
use Rattle.text_reader.proofs.Alike as alike
use Rattle.text_reader.proofs.Alike.{All, of_nothing, of_kept, of_at, of_option, of_pair}
use Rattle.text_reader.proofs.Alike.{of_choice, of_part, of_parts, f_nowhere, f_empty, f_kept}
use Rattle.text_reader.proofs.Alike.{f_at, f_pair, f_first, f_second, f_out, f_in, f_part, f_parts}
use Rattle.text_reader.specs.Tests as kinds
use Rattle.text_reader.specs.Tests.{Kept}
use Rattle.text_reader.specs.Going.{used}
use Rattle.text_productions.specs.Nodes as shown
use Rattle.text_productions.specs.Nodes.{Node, View, a_use, a_constant, a_constant_definition}
use Rattle.text_productions.specs.Nodes.{a_type, a_short_type, a_type_definition, a_field}
use Rattle.text_productions.specs.Nodes.{a_variable, a_parameter, an_export, an_interaction}
use Rattle.text_productions.specs.Nodes.{a_by_part, a_channel, a_point, a_header, a_module_variable}
use Rattle.text_productions.specs.Nodes.{a_state_set, a_formal, a_routine, a_common_part}
use Rattle.text_productions.specs.Nodes.{a_body_part, a_block_part, a_block, a_clause, a_transition}
use Rattle.text_productions.specs.Nodes.{a_group, a_body, an_access, an_end_point, a_statement}
use Rattle.text_productions.specs.Nodes.{an_arm, a_sending, an_expr, a_simple, a_sum_step, a_term}
use Rattle.text_productions.specs.Nodes.{a_product_step, a_factor, a_selector, a_member}
use Rattle.text_productions.specs.Nodes.{a_specification, TypeTextForm, FactorForm, SelectorForm}

pub data Tag : Type 0 where
  uses constants constant_definitions types short_types type_definitions fields variables
      parameters : Tag
  exports interactions by_parts channels points headers module_variables state_sets formals : Tag
  routines common_parts body_parts block_parts blocks clauses transitions groups bodies : Tag
  accesses end_points statements arms sendings exprs simples sum_steps terms : Tag
  product_steps factors selectors members specifications : Tag

abbrev pub tag : Node → Tag
tag (a_use x) = uses
tag (a_constant x) = constants
tag (a_constant_definition x) = constant_definitions
tag (a_type x) = types
tag (a_short_type x) = short_types
tag (a_type_definition x) = type_definitions
tag (a_field x) = fields
tag (a_variable x) = variables
tag (a_parameter x) = parameters
tag (an_export x) = exports
tag (an_interaction x) = interactions
tag (a_by_part x) = by_parts
tag (a_channel x) = channels
tag (a_point x) = points
tag (a_header x) = headers
tag (a_module_variable x) = module_variables
tag (a_state_set x) = state_sets
tag (a_formal x) = formals
tag (a_routine x) = routines
tag (a_common_part x) = common_parts
tag (a_body_part x) = body_parts
tag (a_block_part x) = block_parts
tag (a_block x) = blocks
tag (a_clause x) = clauses
tag (a_transition x) = transitions
tag (a_group x) = groups
tag (a_body x) = bodies
tag (an_access x) = accesses
tag (an_end_point x) = end_points
tag (a_statement x) = statements
tag (an_arm x) = arms
tag (a_sending x) = sendings
tag (an_expr x) = exprs
tag (a_simple x) = simples
tag (a_sum_step x) = sum_steps
tag (a_term x) = terms
tag (a_product_step x) = product_steps
tag (a_factor x) = factors
tag (a_selector x) = selectors
tag (a_member x) = members
tag (a_specification x) = specifications

abbrev pub Sort : Type 0
Sort = alike.Sort Kept Node Tag

abbrev pub IsOf : Sort → View → Type 0
IsOf s v = alike.IsOf tag s v

-- the parts of one sort in a list
pub all : {A : Type 0} (part : A → Node) (g : Tag) → ((x : A) → tag (part x) ≡ g) → (xs : List A)
    → All tag g (map part xs)
all part g e [] = tt
all part g e (x ∷ xs) = (e x, all part g e xs)

-- parts of one sort, one after the other
pub are : {A : Type 0} (part : A → Node) (g : Tag) → ((x : A) → tag (part x) ≡ g) → (xs : List A)
    → IsOf (of_parts g) (nodes (map part xs))
are part g e xs = f_parts (map part xs) (all part g e xs)

-- NAMES AND SIGNS

abbrev pub of_used : Sort
of_used = of_at of_kept

pub used_is : (u : Used) → IsOf of_used (used u)
used_is u = f_at u.place (f_kept (kinds.name u.name.bytes))

pub name_given_is : (o : Option Used) → IsOf (of_option of_used) (shown.name_given o)
name_given_is None = f_out
name_given_is (Some u) = f_in (used_is u)

pub names_are : (us : List Used) → IsOf (of_parts uses) (shown.names us)
names_are us = are a_use uses (λ x. refl) us

-- one of two words
abbrev pub of_either : Sort
of_either = of_choice of_nothing of_nothing

-- CONSTANTS AND TYPES

abbrev of_unnamed : Sort
of_unnamed = of_at (of_choice of_kept (of_choice (of_pair of_either (of_choice of_kept of_used))
    of_kept))

written_sign_is : (s : Sign) → IsOf of_either (shown.written_sign s)
written_sign_is Plus = f_first f_empty
written_sign_is Minus = f_second f_empty

unnamed_is : (c : Constant) → IsOf of_unnamed (shown.unnamed c)
unnamed_is (constant.Number (Some sign) number place) =
    f_at place (f_second (f_first (f_pair (written_sign_is sign)
    (f_first (f_kept (kinds.value number))))))
unnamed_is (constant.Number None number place) =
    f_at place (f_first (f_kept (kinds.value number)))
unnamed_is (constant.Named (Some sign) name place) =
    f_at place (f_second (f_first (f_pair (written_sign_is sign) (f_second (used_is name)))))
unnamed_is (constant.Named None name place) = f_nowhere
unnamed_is (constant.Character code place) =
    f_at place (f_second (f_second (f_kept (kinds.code code))))

abbrev pub of_constant : Sort
of_constant = of_choice of_unnamed (of_at of_used)

pub constant_is : (c : Constant) → IsOf of_constant (shown.constant c)
constant_is (constant.Number sign number place) =
    f_first (unnamed_is (constant.Number sign number place))
constant_is (constant.Named None name place) = f_second (f_at place (used_is name))
constant_is (constant.Named (Some sign) name place) =
    f_first (unnamed_is (constant.Named (Some sign) name place))
constant_is (constant.Character code place) = f_first (unnamed_is (constant.Character code place))

abbrev pub of_short : Sort
of_short = of_choice (of_pair of_unnamed (of_part constants))
    (of_at (of_pair of_used (of_option (of_part constants))))

range_is : (low high : Constant) → IsOf of_short (shown.range low high)
range_is (constant.Number sign number place) high =
    f_first (f_pair (unnamed_is (constant.Number sign number place))
    (f_part (a_constant high) refl))
range_is (constant.Named None name place) high =
    f_second (f_at place (f_pair (used_is name) (f_in (f_part (a_constant high) refl))))
range_is (constant.Named (Some sign) name place) high =
    f_first (f_pair (unnamed_is (constant.Named (Some sign) name place))
    (f_part (a_constant high) refl))
range_is (constant.Character code place) high =
    f_first (f_pair (unnamed_is (constant.Character code place)) (f_part (a_constant high) refl))

pub short_is : (t : TypeTextForm) → IsOf of_short (shown.short_type t)
short_is (text.Named name) = f_second (f_at name.place (f_pair (used_is name) f_out))
short_is (text.Range low high) = range_is low high
short_is (text.Names us place) = f_nowhere
short_is (text.Array index of_ place) = f_nowhere
short_is (text.Fields fs place) = f_nowhere
short_is (text.Set of_ place) = f_nowhere

abbrev pub of_type : Sort
of_type = of_choice of_short (of_choice (of_at (of_pair (of_parts uses) of_nothing))
    (of_at (of_pair of_nothing (of_choice (of_pair (of_parts types) (of_part types))
    (of_choice (of_pair (of_parts fields) of_nothing) (of_part types))))))

pub type_is : (t : TypeTextForm) → IsOf of_type (shown.type_text t)
type_is (text.Named name) = f_first (short_is (text.Named name))
type_is (text.Range low high) = f_first (range_is low high)
type_is (text.Names us place) = f_second (f_first (f_at place (f_pair (names_are us) f_empty)))
type_is (text.Array index of_ place) =
    f_second (f_second (f_at place
    (f_pair f_empty (f_first (f_pair (are a_type types (λ x. refl) index)
    (f_part (a_type of_) refl))))))
type_is (text.Fields fs place) =
    f_second (f_second (f_at place
    (f_pair f_empty (f_second (f_first (f_pair (are a_field fields (λ x. refl) fs) f_empty))))))
type_is (text.Set of_ place) =
    f_second (f_second (f_at place
    (f_pair f_empty (f_second (f_second (f_part (a_type of_) refl))))))

abbrev pub of_parameters : Sort
of_parameters = of_option (of_pair (of_parts parameters) of_nothing)

pub parameters_are : (vs : List VarDef) → IsOf of_parameters (shown.parameters vs)
parameters_are [] = f_out
parameters_are (v ∷ vs) = f_in (f_pair (are a_parameter parameters (λ x. refl) (v ∷ vs)) f_empty)

-- CHANNELS, HEADERS AND MODULE VARIABLES

abbrev pub of_by_part : Sort
of_by_part = of_pair of_used (of_pair (of_option of_used) (of_parts interactions))

pub roles_are : (us : List Used) (is : List InteractionDef)
    → IsOf of_by_part (shown.roles us (nodes (map an_interaction is)))
roles_are [] is = f_nowhere
roles_are (one ∷ []) is = f_pair (used_is one)
    (f_pair f_out (are an_interaction interactions (λ x. refl) is))
roles_are (one ∷ other ∷ []) is = f_pair (used_is one) (f_pair (f_in (used_is other))
    (are an_interaction interactions (λ x. refl) is))
roles_are (one ∷ other ∷ more ∷ us) is = f_nowhere

abbrev pub of_two_names : Sort
of_two_names = of_pair of_used (of_pair of_used (of_parts by_parts))

pub two_names_are : (us : List Used) (bs : List ByPart)
    → IsOf of_two_names (shown.two_names us (nodes (map a_by_part bs)))
two_names_are [] bs = f_nowhere
two_names_are (one ∷ []) bs = f_nowhere
two_names_are (one ∷ other ∷ []) bs = f_pair (used_is one)
    (f_pair (used_is other) (are a_by_part by_parts (λ x. refl) bs))
two_names_are (one ∷ other ∷ more ∷ us) bs = f_nowhere

pub queue_is : (q : Queue) → IsOf of_either (shown.queue q)
queue_is queue.Individual = f_first f_empty
queue_is queue.Common = f_second f_empty

pub queue_given_is : (o : Option Queue) → IsOf (of_option of_either) (shown.queue_given o)
queue_given_is None = f_out
queue_given_is (Some q) = f_in (queue_is q)

abbrev pub of_dimensions : Sort
of_dimensions = of_option (of_at (of_pair (of_parts short_types) of_nothing))

pub dimensions_are : (place : ℕ) (ds : List TypeText)
    → IsOf of_dimensions (shown.dimensions place ds)
dimensions_are place [] = f_out
dimensions_are place (d ∷ ds) =
    f_in (f_at place (f_pair (are a_short_type short_types (λ x. refl) (d ∷ ds)) f_empty))

pub attribute_is : (system : Bool) → IsOf of_either (shown.attribute system)
attribute_is true = f_first f_empty
attribute_is false = f_second f_empty

abbrev the_nodes : List Node → View
the_nodes ks = nodes ks

-- the parts of a run are told by the run
pub one_run : (ks ls : List Node) → the_nodes ks ≡ the_nodes ls → ks ≡ ls
one_run ks ls e = cc

-- ROUTINES AND BLOCKS

pub by_place_is : (by_place : Bool) → IsOf (of_option of_nothing) (shown.by_place by_place)
by_place_is true = f_in f_empty
by_place_is false = f_out

abbrev of_formals : Sort
of_formals = of_option (of_pair (of_parts formals) of_nothing)

formals_are : (fs : List Formal) → IsOf of_formals (shown.formals fs)
formals_are [] = f_out
formals_are (f ∷ fs) = f_in (f_pair (are a_formal formals (λ x. refl) (f ∷ fs)) f_empty)

abbrev pub of_routine : Sort
of_routine = of_choice (of_pair of_used (of_pair of_formals (of_pair (of_part blocks) of_nothing)))
    (of_pair of_nothing (of_pair of_used
    (of_pair of_formals (of_pair of_used (of_pair (of_part blocks) of_nothing)))))

pub routine_is : (name : Used) (fs : List Formal) (result : Option Used) (block : Block)
    → IsOf of_routine (shown.routine_of name fs result block)
routine_is name fs None block =
    f_first (f_pair (used_is name) (f_pair (formals_are fs) (f_pair (f_part (a_block block) refl)
    f_empty)))
routine_is name fs (Some result) block =
    f_second (f_pair f_empty
    (f_pair (used_is name) (f_pair (formals_are fs)
    (f_pair (used_is result) (f_pair (f_part (a_block block) refl) f_empty)))))

-- EXPRESSIONS

abbrev of_relational : Sort
of_relational = of_choice of_nothing
    (of_choice of_nothing (of_choice of_nothing
    (of_choice of_nothing (of_choice of_nothing (of_choice of_nothing of_nothing)))))

relational_is : (o : Operator) → IsOf of_relational (shown.relational_operator o)
relational_is operator.Equal = f_first f_empty
relational_is operator.Unequal = f_second (f_first f_empty)
relational_is operator.Below = f_second (f_second (f_first f_empty))
relational_is operator.AtMost = f_second (f_second (f_second (f_first f_empty)))
relational_is operator.Above = f_second (f_second (f_second (f_second (f_first f_empty))))
relational_is operator.AtLeast =
    f_second (f_second (f_second (f_second (f_second (f_first f_empty)))))
relational_is operator.Within =
    f_second (f_second (f_second (f_second (f_second (f_second f_empty)))))
relational_is operator.Plus = f_nowhere
relational_is operator.Minus = f_nowhere
relational_is operator.Or = f_nowhere
relational_is operator.Times = f_nowhere
relational_is operator.Div = f_nowhere
relational_is operator.Mod = f_nowhere
relational_is operator.And = f_nowhere

abbrev pub of_adding : Sort
of_adding = of_choice of_nothing (of_choice of_nothing of_nothing)

pub adding_is : (o : Operator) → IsOf of_adding (shown.adding_operator o)
adding_is operator.Plus = f_first f_empty
adding_is operator.Minus = f_second (f_first f_empty)
adding_is operator.Or = f_second (f_second f_empty)
adding_is operator.Equal = f_nowhere
adding_is operator.Unequal = f_nowhere
adding_is operator.Below = f_nowhere
adding_is operator.AtMost = f_nowhere
adding_is operator.Above = f_nowhere
adding_is operator.AtLeast = f_nowhere
adding_is operator.Within = f_nowhere
adding_is operator.Times = f_nowhere
adding_is operator.Div = f_nowhere
adding_is operator.Mod = f_nowhere
adding_is operator.And = f_nowhere

abbrev pub of_multiplying : Sort
of_multiplying = of_choice of_nothing (of_choice of_nothing (of_choice of_nothing of_nothing))

pub multiplying_is : (o : Operator) → IsOf of_multiplying (shown.multiplying_operator o)
multiplying_is operator.Times = f_first f_empty
multiplying_is operator.Div = f_second (f_first f_empty)
multiplying_is operator.Mod = f_second (f_second (f_first f_empty))
multiplying_is operator.And = f_second (f_second (f_second f_empty))
multiplying_is operator.Equal = f_nowhere
multiplying_is operator.Unequal = f_nowhere
multiplying_is operator.Below = f_nowhere
multiplying_is operator.AtMost = f_nowhere
multiplying_is operator.Above = f_nowhere
multiplying_is operator.AtLeast = f_nowhere
multiplying_is operator.Within = f_nowhere
multiplying_is operator.Plus = f_nowhere
multiplying_is operator.Minus = f_nowhere
multiplying_is operator.Or = f_nowhere

abbrev pub of_relation : Sort
of_relation = of_option (of_pair of_relational (of_part simples))

pub relation_is : (o : Option Relation) → IsOf of_relation (shown.relation o)
relation_is None = f_out
relation_is (Some r) = f_in (f_pair (relational_is (out-Relation r).operator)
    (f_part (a_simple (out-Relation r).right) refl))

pub sign_is : (sign : Option Sign) → IsOf (of_option of_either) (shown.sign sign)
sign_is None = f_out
sign_is (Some s) = f_in (written_sign_is s)

abbrev pub of_exprs_given : Sort
of_exprs_given = of_option (of_pair (of_parts exprs) of_nothing)

pub exprs_given_are : (es : List Expr) → IsOf of_exprs_given (shown.exprs_given es)
exprs_given_are [] = f_out
exprs_given_are (e ∷ es) = f_in (f_pair (are an_expr exprs (λ x. refl) (e ∷ es)) f_empty)

members_are : (ms : List Member) → IsOf (of_option (of_parts members)) (shown.members ms)
members_are [] = f_out
members_are (m ∷ ms) = f_in (are a_member members (λ x. refl) (m ∷ ms))

abbrev of_path : Sort
of_path = of_option (of_choice (of_pair (of_parts exprs) of_nothing) (of_parts selectors))

selectors_are : (ss : List Selector) → IsOf of_path (shown.selectors ss)
selectors_are [] = f_out
selectors_are (s ∷ ss) = f_in (f_second (are a_selector selectors (λ x. refl) (s ∷ ss)))

abbrev pub of_factor : Sort
of_factor =
    of_at (of_choice of_kept (of_choice of_kept (of_choice (of_pair (of_part exprs) of_nothing)
    (of_choice (of_part factors)
    (of_choice (of_pair (of_option (of_parts members)) of_nothing) (of_pair of_used of_path))))))

pub factor_is : (f : FactorForm) → IsOf of_factor (shown.factor f)
factor_is (factor.Number number place) = f_at place (f_first (f_kept (kinds.value number)))
factor_is (factor.Character code place) = f_at place (f_second (f_first (f_kept (kinds.code code))))
factor_is (factor.Group of_ place) =
    f_at place (f_second (f_second (f_first (f_pair (f_part (an_expr of_) refl) f_empty))))
factor_is (factor.Not of_ place) =
    f_at place (f_second (f_second (f_second (f_first (f_part (a_factor of_) refl)))))
factor_is (factor.Set ms place) =
    f_at place (f_second (f_second
    (f_second (f_second (f_first (f_pair (members_are ms) f_empty))))))
factor_is (factor.Variable name path place) =
    f_at place (f_second (f_second
    (f_second (f_second (f_second (f_pair (used_is name) (selectors_are path)))))))
factor_is (factor.Call name es place) =
    f_at place (f_second (f_second
    (f_second (f_second (f_second
    (f_pair (used_is name) (f_in
    (f_first (f_pair (are an_expr exprs (λ x. refl) es) f_empty)))))))))

abbrev pub of_selector : Sort
of_selector = of_choice of_used (of_at (of_pair (of_parts exprs) of_nothing))

pub selector_is : (s : SelectorForm) → IsOf of_selector (shown.selector s)
selector_is (factor.Field name) = f_first (used_is name)
selector_is (factor.Index es place) =
    f_second (f_at place (f_pair (are an_expr exprs (λ x. refl) es) f_empty))

pub expr_given_is : (o : Option Expr) → IsOf (of_option (of_part exprs)) (shown.expr_given o)
expr_given_is None = f_out
expr_given_is (Some e) = f_in (f_part (an_expr e) refl)

pub access_given_is : (o : Option Access)
    → IsOf (of_option (of_part accesses)) (shown.access_given o)
access_given_is None = f_out
access_given_is (Some a) = f_in (f_part (an_access a) refl)
