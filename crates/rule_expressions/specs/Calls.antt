-- What takes subscripts or arguments, and what calls yield (ISO 7185, 6.7.3; ISO 9074, interaction
-- points and module variables).
use Rattle.std.specs.Prelude.{ℕ, Bool, false, List, [], Option, Some, None, if◌then◌else◌}
use Rattle.std.specs.Option.{option_map}
use Rattle.est_syntax.specs.Faults.{broken}
use Rattle.est_syntax.specs.declared.name.Used.{Used}
use Rattle.est_syntax.specs.declared.rule.Fault.{Fault}
use Rattle.est_syntax.specs.declared.rule.Rule.TheVariants.{UnknownName, NotSeenHere, WrongSort}
use Rattle.rule_scope.specs.declared.declaration.Sort.TheVariants as sort
use Rattle.rule_scope.specs.declared.declaration.Meant.{Meant}
use Rattle.rule_scope.specs.declared.declaration.Meant.TheVariants.{Nothing, Predeclared}
use Rattle.rule_scope.specs.declared.declaration.Meant.TheVariants.{Unseen, Seen}
use Rattle.rule_scope.specs.Outline.{Outline, entry_at}
use Rattle.rule_scope.specs.Uses.{is_sort, meaning}
use Rattle.est_values.specs.Types.{Yielded}
use Rattle.rule_declares.specs.declared.required.Required.{Required}
use Rattle.rule_expressions.specs.declared.receivers.Receiver.{Receiver}
use Rattle.rule_expressions.specs.declared.receivers.Receiver.TheVariants as receiver
use Rattle.rule_expressions.specs.Selections.{Selection, Modules, declared_type}
use Rattle.rule_expressions.specs.Selections.{value_of}
use Rattle.rule_declares.specs.RequiredFunctions.{required_function}
use Rattle.rule_expressions.specs.Receivers.{receives, received_faults, takes_number, number_faults}

-- what takes the subscripts of module variables
abbrev pub subscripts_of : Selection → Option Receiver
subscripts_of (Modules p) = Some (receiver.Subscripts p)
subscripts_of _ = None

-- whether what stands with this number is taken: not where nothing is known of what would take it
abbrev pub is_received : Outline → Option Receiver → ℕ → Option Yielded → Bool
is_received o None i t = false
is_received o (Some r) i t = receives o r i t

-- what it breaks at its place
abbrev pub taken_faults : Outline → Option Receiver → ℕ → Option Yielded → ℕ → List Fault
taken_faults o None i t place = []
taken_faults o (Some r) i t place = received_faults o r i t place

-- whether so many are taken
abbrev pub is_number : Outline → Option Receiver → ℕ → Bool
is_number o None n = false
is_number o (Some r) n = takes_number o r n

-- what their number breaks, after a name at a place
abbrev pub count_faults : Outline → Option Receiver → ℕ → ℕ → List Fault
count_faults o None n place = []
count_faults o (Some r) n place = number_faults o r n place

-- what is called where this is declared at a place: a function
abbrev pub declared_callee : Bool → ℕ → Option Receiver
declared_callee function p = if function then Some (receiver.Parameters p) else None

-- what is called by a name that is predeclared, where it is a function's
abbrev pub required_callee : Option Required → Option Receiver
required_callee function = option_map (λ (f : Required). receiver.Function f) function

-- what a name of this meaning calls
abbrev pub callee_meant : Outline → Meant → Option Receiver
callee_meant o (Predeclared n) = required_callee (required_function n)
callee_meant o (Seen p) = declared_callee (is_sort sort.Function (entry_at o p)) p
callee_meant o _ = None

-- what a name calls
abbrev pub callee : Outline → Used → Option Receiver
callee o u = callee_meant o (meaning o u)

-- what a name breaks that calls nothing
abbrev pub no_callee : Option Receiver → ℕ → List Fault
no_callee None place = broken place WrongSort
no_callee (Some r) place = []

-- what a name of this meaning breaks where a function is called
abbrev pub callee_faults_by : Outline → Meant → ℕ → List Fault
callee_faults_by o Nothing place = broken place UnknownName
callee_faults_by o (Unseen p) place = broken place NotSeenHere
callee_faults_by o m place = no_callee (callee_meant o m) place

-- what a name breaks where a function is called
abbrev pub callee_faults : Outline → Used → List Fault
callee_faults o u = callee_faults_by o (meaning o u) u.place

-- what a predeclared function yields for an argument
abbrev pub value_by : Required → Option Yielded → Option Yielded
value_by f t = option_map (value_of f) t

-- what a call yields, of its first argument
abbrev pub call_yields : Outline → Option Receiver → Option Yielded → Option Yielded
call_yields o (Some (receiver.Parameters p)) t = declared_type (entry_at o p)
call_yields o (Some (receiver.Function f)) t = value_by f t
call_yields o _ t = None

-- the same, where its arguments are taken
abbrev pub call_by : Outline → Option Receiver → Bool → Option Yielded → Option Yielded
call_by o r taken t = if taken then call_yields o r t else None
