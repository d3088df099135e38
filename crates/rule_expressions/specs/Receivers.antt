-- What takes the subscripts or the arguments that stand after a name (ISO 7185, 6.5.3.2 and 6.7.3;
-- ISO 9074, interaction points and module variables).
use Rattle.std.specs.Prelude.{ℕ, Bool, true, false, nat_eq, List, [], length}
use Rattle.std.specs.Prelude.{slice_get, Option, Some, None, option_and_then, if◌then◌else◌}
use Rattle.std.specs.Option.{option_map, option_map_or}
use Rattle.est_syntax.specs.Faults.{broken}
use Rattle.est_syntax.specs.declared.kind.Kind.{Kind}
use Rattle.est_syntax.specs.declared.rule.Fault.{Fault}
use Rattle.est_syntax.specs.declared.rule.Rule.TheVariants.{WrongNumber}
use Rattle.rule_scope.specs.declared.declaration.Entry.{Entry}
use Rattle.rule_scope.specs.Outline.{Outline, entry_at}
use Rattle.est_values.specs.Types.{Yielded, type_of}
use Rattle.rule_declares.specs.declared.required.Required.{Required}
use Rattle.rule_declares.specs.LookUps.{dims_in}
use Rattle.rule_expressions.specs.declared.receivers.Receiver.{Receiver}
use Rattle.rule_expressions.specs.declared.receivers.Receiver.TheVariants as receiver
use Rattle.rule_expressions.specs.Operators.{is_taken, wants, gives, is_given}
use Rattle.rule_expressions.specs.Selections.{declared_type, parameter, takes_so_many, argument_of}

-- the type of the subscript with this number, of those of these kinds
abbrev pub subscript_in : Option (List Kind) → ℕ → Option Yielded
subscript_in None i = None
subscript_in (Some ks) i = option_map type_of (slice_get ks i)

-- whether a predeclared function takes this
abbrev pub is_argument : Required → Option Yielded → Bool
is_argument f t = option_map_or (is_taken (argument_of f)) t false

-- whether what stands with this number, counted from 0, is taken
abbrev pub receives : Outline → Receiver → ℕ → Option Yielded → Bool
receives o (receiver.Subscripts p) i t = is_given (subscript_in (dims_in (entry_at o p)) i) t
receives o (receiver.Parameters p) i t = is_given (declared_type (parameter o p i)) t
receives o (receiver.Function f) i t = is_argument f t

-- what it breaks at its place
abbrev pub received_faults : Outline → Receiver → ℕ → Option Yielded → ℕ → List Fault
received_faults o (receiver.Subscripts p) i t place =
    gives (subscript_in (dims_in (entry_at o p)) i) t place
received_faults o (receiver.Parameters p) i t place =
    gives (declared_type (parameter o p i)) t place
received_faults o (receiver.Function f) i t place = wants (argument_of f) t place

-- whether there are so many subscripts of these kinds
abbrev pub are_so_many : Option (List Kind) → ℕ → Bool
are_so_many None n = true
are_so_many (Some ks) n = nat_eq (length ks) n

-- whether so many are taken
abbrev pub takes_number : Outline → Receiver → ℕ → Bool
takes_number o (receiver.Subscripts p) n = are_so_many (dims_in (entry_at o p)) n
takes_number o (receiver.Parameters p) n = takes_so_many o p n
takes_number o (receiver.Function f) n = nat_eq 1 n

-- too few or too many, after a name at this place
abbrev pub number_faults : Outline → Receiver → ℕ → ℕ → List Fault
number_faults o r n place = if takes_number o r n then [] else broken place WrongNumber
