-- What variables of a routine begin with.
use Rattle.std.specs.Prelude.{Option, Some, None, Result, Ok}
use Rattle.est_syntax.specs.declared.kind.Kind.{Kind}
use Rattle.plain_declared.specs.mean_blocks.declared.fault.BlockFault.{BlockFault}
use Rattle.plain_declared.specs.mean_blocks.declared.frame.Slot.{Slot}
use Rattle.plain_declared.specs.mean_blocks.declared.frame.Slot.TheVariants as slot
use Rattle.plain_declared.specs.mean_blocks.FunctionCalls.{given, first_value}

-- what a parameter is given, or what a variable begins with that is given nothing
abbrev pub given_first : Option Kind → Option Slot → Result Slot BlockFault
given_first k None = Ok (slot.Value (first_value k))
given_first k (Some x) = given k x
