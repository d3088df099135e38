-- What a name in an expression stands for (ISO 7185, 6.5 and 6.7.1; ISO 9074, exported variables).
use Rattle.std.specs.Prelude.{ℕ, ◌-◌, Bool, true, false, ◌||◌, ◌&&◌, not, nat_eq}
use Rattle.std.specs.Prelude.{List, [], ◌∷◌, Option, Some, None, is_some, option_and_then}
use Rattle.std.specs.Prelude.{if◌then◌else◌}
use Rattle.std.specs.Option.{option_map}
use Rattle.est_syntax.specs.Faults.{broken}
use Rattle.est_syntax.specs.declared.kind.Kind.{Kind}
use Rattle.est_syntax.specs.declared.name.Used.{Used}
use Rattle.est_syntax.specs.declared.rule.Fault.{Fault}
use Rattle.est_syntax.specs.declared.rule.Rule.TheVariants.{WrongSort, WrongNumber}
use Rattle.rule_scope.specs.declared.declaration.Entry.{Entry}
use Rattle.rule_scope.specs.declared.declaration.Measured.{Measured}
use Rattle.rule_scope.specs.declared.declaration.Meant.{Meant}
use Rattle.rule_scope.specs.declared.declaration.Meant.TheVariants.{Predeclared, Seen}
use Rattle.rule_scope.specs.declared.declaration.Section.{Section}
use Rattle.rule_scope.specs.declared.declaration.Section.TheVariants as section
use Rattle.rule_scope.specs.declared.declaration.Sort.{Sort}
use Rattle.rule_scope.specs.declared.declaration.Sort.TheVariants as sort
use Rattle.rule_scope.specs.declared.predeclared.PredeclaredName.{PredeclaredName}
use Rattle.rule_scope.specs.declared.predeclared.PredeclaredName.TheVariants as known
use Rattle.rule_scope.specs.Outline.{Outline, entry_at, nth}
use Rattle.rule_scope.specs.Uses.{meaning, meaning_faults}
use Rattle.rule_declares.specs.rule_kinds.declared.value.Valued.{Valued}
use Rattle.rule_declares.specs.rule_kinds.Constants.{predeclared_constant}
use Rattle.est_values.specs.declared.types.Host.{Host}
use Rattle.est_values.specs.declared.types.Host.TheVariants as host
use Rattle.est_values.specs.Types.{Yielded, Ordinal, yields, host_in, type_of}
use Rattle.rule_declares.specs.RequiredFunctions.{required_function}
use Rattle.rule_expressions.specs.declared.operators.Wanted.{Wanted}
use Rattle.rule_expressions.specs.declared.operators.Wanted.TheVariants as wanted
use Rattle.rule_declares.specs.declared.required.Required.{Required}
use Rattle.rule_declares.specs.declared.required.Required.TheVariants as required
use Rattle.rule_expressions.specs.declared.names.Selected.{Selected}
use Rattle.rule_expressions.specs.declared.names.Selected.TheVariants as code

-- What a name with some selectors stands for: nothing, where it breaks a rule; a value; a variable
-- of a kind; the module variables that are declared at a place, before their subscripts; one of
-- them; or one of which it is not known which, since a subscript breaks a rule.
pub data Selection : Type 0 where
  Broken : Selection
  Value : Yielded → Selection
  Component : Kind → Selection
  Modules : ℕ → Selection
  Module : ℕ → Selection
  SomeModule : Selection

-- what the program keeps says so
abbrev pub selects : Selected → Selection
selects code.Broken = Broken
selects (code.Value t) = Value (yields t)
selects (code.Component k) = Component k.now
selects (code.Modules p) = Modules p
selects (code.Module p) = Module p
selects code.SomeModule = SomeModule

-- the type of what has this kind, where it has one
abbrev pub type_in : Option Measured → Option Yielded
type_in kind = option_map (λ (m : Measured). type_of m.kind) kind

-- the type of what is declared, where it has a kind
abbrev pub declared_type : Option Entry → Option Yielded
declared_type entry = option_and_then (λ (e : Entry). type_in e.kind) entry

-- what a call, an `init` or an `output` gives a value or a variable to
abbrev pub is_parameter : Section → Bool
is_parameter section.Parameter = true
is_parameter section.Value = true
is_parameter section.Place = true
is_parameter section.Interaction = true
is_parameter _ = false

-- a declaration, where it is a parameter
abbrev pub parameter_in : Entry → Option Entry
parameter_in e = if is_parameter e.section then Some e else None

-- the parameter at a place, if one is declared there
abbrev pub parameter_at : Outline → Option ℕ → Option Entry
parameter_at o place = option_and_then parameter_in (option_and_then (entry_at o) place)

-- the parameter that has this number, counted from 0, of what is declared at a place: its region
-- begins with its parameters
abbrev pub parameter : Outline → ℕ → ℕ → Option Entry
parameter o place i = parameter_at o (nth o place i)

-- whether there is a parameter for each argument
abbrev pub has_before : Outline → ℕ → ℕ → Bool
has_before o place n = nat_eq n 0 || is_some (parameter o place (n - 1))

-- whether there are as many parameters as this
abbrev pub takes_so_many : Outline → ℕ → ℕ → Bool
takes_so_many o place n = has_before o place n && not (is_some (parameter o place n))

-- what they take
abbrev pub argument_of : Required → Wanted
argument_of required.Ord = wanted.Ordinal
argument_of required.Succ = wanted.Ordinal
argument_of required.Pred = wanted.Ordinal
argument_of _ = wanted.Integer

-- what they give for an argument of a type
abbrev pub value_of : Required → Yielded → Yielded
value_of required.Chr t = Ordinal host.Char
value_of required.Odd t = Ordinal host.Boolean
value_of required.Succ t = t
value_of required.Pred t = t
value_of _ t = Ordinal host.Integer

-- a constant that is predeclared, of this host
abbrev pub host_value : Option Host → Selection
host_value None = Broken
host_value (Some h) = Value (Ordinal h)

-- what the name of something predeclared is in an expression: a constant, or nothing
abbrev pub predeclared_head : Option Valued → Selection
predeclared_head None = Broken
predeclared_head (Some v) = host_value (host_in v.host)

-- a constant, where its kind is known
abbrev pub value_head : Option Measured → Selection
value_head None = Broken
value_head (Some m) = Value (type_of m.kind)

-- a variable
abbrev pub variable_head : Option Measured → Selection
variable_head None = Broken
variable_head (Some m) = Component m.kind

-- a module variable, or several
abbrev pub module_head : Option (List Kind) → ℕ → Selection
module_head None p = Broken
module_head (Some []) p = Module p
module_head (Some (k ∷ ks)) p = Modules p

-- the result of a function without arguments, whose parts selectors reach as those of a variable
-- (profile: ISO 7185, 6.7.3, has results without parts)
abbrev pub function_head : Bool → Option Measured → Selection
function_head takes k = if takes then variable_head k else Broken

-- what a declaration of this sort is in an expression
abbrev pub head_by : Outline → ℕ → Entry → Sort → Selection
head_by o p e sort.Constant = value_head e.kind
head_by o p e sort.Variable = variable_head e.kind
head_by o p e sort.ModuleVariable = module_head e.dims p
head_by o p e sort.Function = function_head (takes_so_many o p 0) e.kind
head_by o p e _ = Broken

-- what is declared at a place is in an expression
abbrev pub head_in : Outline → ℕ → Option Entry → Selection
head_in o p None = Broken
head_in o p (Some e) = head_by o p e e.declared.sort

-- what a name of this meaning is in an expression
abbrev pub head_meant : Outline → Meant → Selection
head_meant o (Predeclared n) = predeclared_head (predeclared_constant n)
head_meant o (Seen p) = head_in o p (entry_at o p)
head_meant o _ = Broken

-- what a name is in an expression
abbrev pub head : Outline → Used → Selection
head o u = head_meant o (meaning o u)

-- what the name of something predeclared breaks that is no constant
abbrev pub function_faults : Option Required → ℕ → List Fault
function_faults None place = broken place WrongSort
function_faults (Some f) place = broken place WrongNumber

-- what the name of something predeclared breaks
abbrev pub predeclared_faults : Option Valued → PredeclaredName → ℕ → List Fault
predeclared_faults None n place = function_faults (required_function n) place
predeclared_faults (Some v) n place = []

-- what the name of a declaration of this sort breaks
abbrev pub sort_faults : Outline → ℕ → Sort → ℕ → List Fault
sort_faults o p sort.Constant place = []
sort_faults o p sort.Variable place = []
sort_faults o p sort.ModuleVariable place = []
sort_faults o p sort.Function place = if takes_so_many o p 0 then [] else broken place WrongNumber
sort_faults o p _ place = broken place WrongSort

-- what the name of something declared breaks
abbrev pub entry_faults : Outline → ℕ → Option Entry → ℕ → List Fault
entry_faults o p None place = broken place WrongSort
entry_faults o p (Some e) place = sort_faults o p e.declared.sort place

-- what a name of this meaning breaks in an expression
abbrev pub meant_faults : Outline → Meant → ℕ → List Fault
meant_faults o m place = meaning_faults m place
    (λ (n : PredeclaredName). predeclared_faults (predeclared_constant n) n place)
    (λ (p : ℕ). entry_faults o p (entry_at o p) place)

-- what a name breaks in an expression
abbrev pub head_faults : Outline → Used → List Fault
head_faults o u = meant_faults o (meaning o u) u.place
