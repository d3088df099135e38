-- What statements may write (ISO 7185, 6.8.2.2 and 6.8.3.9; ISO 9074, exported variables and
-- module variables).
use Rattle.std.specs.Prelude.{ℕ, Bool, true, false, ◌&&◌, not, nat_lt, nat_eq, List, [], ◌∷◌}
use Rattle.std.specs.Prelude.{◌++◌, Option, Some, None, is_some, unwrap_or, if◌then◌else◌}
use Rattle.std.specs.Prelude.{length, slice_get}
use Rattle.std.specs.List.{list_any}
use Rattle.std.specs.Option.{option_map}
use Rattle.est_syntax.specs.declared.constant.Sign.{Sign}
use Rattle.est_syntax.specs.Faults.{broken}
use Rattle.est_syntax.specs.declared.expression.Expr.{Expr, out-Expr}
use Rattle.est_syntax.specs.declared.expression.Factor.{Factor, out-Factor}
use Rattle.est_syntax.specs.declared.expression.Factor.TheOpen as opened
use Rattle.est_syntax.specs.declared.expression.Member.{Member}
use Rattle.est_syntax.specs.declared.expression.ProductStep.{ProductStep}
use Rattle.est_syntax.specs.declared.expression.Relation.{Relation}
use Rattle.est_syntax.specs.declared.expression.Selector.{Selector, out-Selector}
use Rattle.est_syntax.specs.declared.expression.Simple.{Simple, out-Simple}
use Rattle.est_syntax.specs.declared.expression.SumStep.{SumStep}
use Rattle.est_syntax.specs.declared.expression.Term.{Term, out-Term}
use Rattle.est_syntax.specs.declared.kind.Kind.{Kind}
use Rattle.est_syntax.specs.declared.name.Used.{Used}
use Rattle.est_syntax.specs.declared.rule.Fault.{Fault}
use Rattle.est_syntax.specs.declared.rule.Rule.TheVariants.{WrongSort, WrongKind}
use Rattle.est_syntax.specs.declared.rule.Rule.TheVariants.{WrongNumber, NotWritable}
use Rattle.rule_scope.specs.declared.declaration.Entry.{Entry}
use Rattle.rule_scope.specs.declared.declaration.Measured.{Measured}
use Rattle.rule_scope.specs.declared.declaration.Meant.{Meant}
use Rattle.rule_scope.specs.declared.declaration.Meant.TheVariants.{Seen}
use Rattle.rule_scope.specs.declared.declaration.Section.{Section}
use Rattle.rule_scope.specs.declared.declaration.Section.TheVariants as section
use Rattle.rule_scope.specs.declared.declaration.Sort.{Sort}
use Rattle.rule_scope.specs.declared.declaration.Sort.TheVariants as sort
use Rattle.rule_scope.specs.declared.predeclared.PredeclaredName.{PredeclaredName}
use Rattle.rule_scope.specs.Outline.{Outline, entry_at}
use Rattle.rule_scope.specs.Uses.{meaning, meaning_faults}
use Rattle.rule_declares.specs.rule_kinds.declared.value.Valued.{Valued}
use Rattle.rule_declares.specs.rule_kinds.Constants.{predeclared_constant}
use Rattle.est_values.specs.Alike.{is_alike}
use Rattle.rule_declares.specs.declared.required.Required.{Required}
use Rattle.rule_declares.specs.BareVariables.{Variable, bare}
use Rattle.rule_expressions.specs.Operators.{gives}
use Rattle.rule_expressions.specs.Selections.{Selection, Broken, Component, Modules, Module}
use Rattle.rule_expressions.specs.Selections.{SomeModule, variable_head}
use Rattle.rule_expressions.specs.Selections.{module_head}
use Rattle.rule_declares.specs.RequiredFunctions.{required_function}
use Rattle.rule_expressions.specs.ExpressionPlaces.{expr_place}
use Rattle.rule_expressions.specs.Variables.{selected_type}
use Rattle.rule_expressions.specs.Expressions.{expr_type, expr_faults, selected, selected_faults}
use Rattle.rule_declares.specs.declared.variables.VariableAccess.{VariableAccess}

-- the names of an `any`, a `when` and an `all` are not written
abbrev pub is_written_section : Section → Bool
is_written_section section.Interaction = false
is_written_section section.Any = false
is_written_section section.All = false
is_written_section _ = true

-- a function writes what is declared within it, after its own name
abbrev pub is_within : Option ℕ → ℕ → Bool
is_within None p = true
is_within (Some function) p = nat_lt function p

-- nothing writes what controls a loop around it
abbrev pub is_uncontrolled : List ℕ → ℕ → Bool
is_uncontrolled loops p = not (list_any (nat_eq p) loops)

-- Whether a variable that is declared at a place may be written, by the statements of a function or
-- of none, within the loops over these control variables.
abbrev pub may_write : Option ℕ → List ℕ → ℕ → Section → Bool
may_write f loops p s = is_written_section s && (is_uncontrolled loops p && is_within f p)

-- whether a function is that whose statements these are
abbrev pub is_own : Option ℕ → ℕ → Bool
is_own None p = false
is_own (Some function) p = nat_eq function p

-- a function writes no module
abbrev pub is_procedural : Option ℕ → Bool
is_procedural None = true
is_procedural (Some function) = false

-- whether a declaration may be written
abbrev pub is_writable : Option ℕ → List ℕ → ℕ → Section → Sort → Bool
is_writable f loops p s sort.Variable = may_write f loops p s
is_writable f loops p s sort.ModuleVariable = is_procedural f
is_writable f loops p s sort.Function = is_own f p && is_uncontrolled loops p
is_writable f loops p s _ = false

-- what a declaration of this sort is as a target
abbrev pub target_by : ℕ → Entry → Sort → Selection
target_by p e sort.Variable = variable_head e.kind
target_by p e sort.ModuleVariable = module_head e.dims p
target_by p e sort.Function = variable_head e.kind
target_by p e _ = Broken

-- what is declared is as a target, where it may be written
abbrev pub target_in : Option ℕ → List ℕ → ℕ → Option Entry → Selection
target_in f loops p None = Broken
target_in f loops p (Some e) =
    if is_writable f loops p e.section e.declared.sort then target_by p e e.declared.sort
    else Broken

-- what a name of this meaning is as a target
abbrev pub target_meant : Outline → Option ℕ → List ℕ → Meant → Selection
target_meant o f loops (Seen p) = target_in f loops p (entry_at o p)
target_meant o f loops _ = Broken

-- what a name is as a target
abbrev pub target : Outline → Option ℕ → List ℕ → Used → Selection
target o f loops u = target_meant o f loops (meaning o u)

-- a target is a constant, a variable, a module variable or a function
abbrev pub is_target_sort : Sort → Bool
is_target_sort sort.Constant = true
is_target_sort sort.Variable = true
is_target_sort sort.ModuleVariable = true
is_target_sort sort.Function = true
is_target_sort _ = false

-- how many subscripts a selector has, if it has some
abbrev pub subscripts_in : Option Selector → Option ℕ
subscripts_in None = None
subscripts_in (Some x) = held (out-Selector x)
  where
    held : opened.Selector-F Factor Selector Expr Member ProductStep Relation Simple SumStep Term
        → Option ℕ
    held (opened.Index es place) = Some (length es)
    held (opened.Field u) = None

-- whether as many subscripts as these kinds stand first, and no others after them
abbrev pub are_subscripts : List Kind → List Selector → Bool
are_subscripts ks path = nat_eq (length ks) (unwrap_or (subscripts_in (slice_get path 0)) 0)
    && not (is_some (subscripts_in (slice_get path 0))
    && is_some (subscripts_in (slice_get path 1)))

-- what too few or too many subscripts break
abbrev pub subscripts_faults : Option (List Kind) → List Selector → ℕ → List Fault
subscripts_faults None path place = []
subscripts_faults (Some ks) path place =
    if are_subscripts ks path then [] else broken place WrongNumber

-- the subscripts of a module variable are counted also where it may not be written
abbrev pub counted_faults : Sort → Option (List Kind) → List Selector → ℕ → List Fault
counted_faults sort.ModuleVariable dims path place = subscripts_faults dims path place
counted_faults _ dims path place = []

-- what the name of a declaration breaks that may not be written
abbrev pub sort_target_faults : Entry → List Selector → ℕ → List Fault
sort_target_faults e path place = if is_target_sort e.declared.sort
    then broken place NotWritable ++ counted_faults e.declared.sort e.dims path place
    else broken place WrongSort

-- what the name of a declaration breaks as a target
abbrev pub entry_target_faults : Option ℕ → List ℕ → ℕ → Entry → List Selector → ℕ → List Fault
entry_target_faults f loops p e path place =
    if is_writable f loops p e.section e.declared.sort then []
    else sort_target_faults e path place

-- what the name of something declared breaks as a target
abbrev pub target_in_faults : Option ℕ → List ℕ → ℕ → Option Entry → List Selector → ℕ → List Fault
target_in_faults f loops p None path place = broken place WrongSort
target_in_faults f loops p (Some e) path place = entry_target_faults f loops p e path place

-- what the name of something predeclared breaks as a target that is no constant
abbrev pub function_target : Option Required → ℕ → List Fault
function_target None place = broken place WrongSort
function_target (Some f) place = broken place NotWritable

-- what the name of something predeclared breaks as a target
abbrev pub predeclared_target : Option Valued → PredeclaredName → ℕ → List Fault
predeclared_target None n place = function_target (required_function n) place
predeclared_target (Some v) n place = broken place NotWritable

-- what a name of this meaning breaks as a target
abbrev pub target_meant_faults :
    Outline → Option ℕ → List ℕ → Used → List Selector → Meant → List Fault
target_meant_faults o f loops u path m = meaning_faults m u.place
    (λ (n : PredeclaredName). predeclared_target (predeclared_constant n) n u.place)
    (λ (p : ℕ). target_in_faults f loops p (entry_at o p) path u.place)

-- what a name breaks as a target
abbrev pub target_faults : Outline → Option ℕ → List ℕ → Used → List Selector → List Fault
target_faults o f loops u path = target_meant_faults o f loops u path (meaning o u)

-- a module is no target: only an `init` gives a module variable its module
abbrev pub end_faults : Selection → ℕ → List Fault
end_faults (Modules p) place = broken place WrongNumber
end_faults (Module p) place = broken place NotWritable
end_faults SomeModule place = broken place NotWritable
end_faults _ place = []

-- a target with its selectors
abbrev pub path_target : Outline → Option ℕ → List ℕ → Used → List Selector → Selection
path_target o f loops u path = selected o (target o f loops u) path

-- what it breaks
abbrev pub path_target_faults : Outline → Option ℕ → List ℕ → Used → List Selector → List Fault
path_target_faults o f loops u path =
    target_faults o f loops u path ++ selected_faults o (target o f loops u) u.place path
    ++ end_faults (path_target o f loops u path) u.place

-- an assignment
abbrev pub assign_faults : Outline → Option ℕ → List ℕ → Used → List Selector → Expr → List Fault
assign_faults o f loops u path e = path_target_faults o f loops u path ++ expr_faults o e
    ++ gives (selected_type (path_target o f loops u path)) (expr_type o e) (expr_place e)

-- what stands for a `var` parameter of this kind is alike to it
abbrev pub unlike_faults : Option Measured → Selection → ℕ → List Fault
unlike_faults (Some m) (Component k) place =
    if is_alike m.kind k then [] else broken place WrongKind
unlike_faults m s place = []

-- what an argument for such a parameter breaks, which is this variable or none
abbrev pub place_faults_by :
    Outline → Option ℕ → List ℕ → Option Measured → Expr → Option Variable → List Fault
place_faults_by o f loops m e None = expr_faults o e ++ broken (expr_place e) NotWritable
place_faults_by o f loops m e (Some v) = path_target_faults o f loops v.0 v.1
    ++ unlike_faults m (path_target o f loops v.0 v.1) (expr_place e)

-- an argument for such a parameter
abbrev pub place_faults : Outline → Option ℕ → List ℕ → Option Measured → Expr → List Fault
place_faults o f loops m e = place_faults_by o f loops m e (bare e)
