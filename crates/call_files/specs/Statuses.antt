-- The statuses of a call.
use Rattle.std.specs.Prelude.{ℕ}
use Rattle.call_files.specs.declared.status.Status.{Status}
use Rattle.call_files.specs.declared.status.Status.TheVariants.{Fine, Refused, BadSpec, BadTrace}
use Rattle.call_files.specs.declared.status.Status.TheVariants.{BadExplanation, OverBudget, TooLong}
use Rattle.call_files.specs.declared.status.Status.TheVariants.{Usage, ReadFault, WriteFault}
use Rattle.call_files.specs.declared.status.Status.TheVariants.{OutOfMemory, NoStart}

-- the exit status of the program
abbrev pub code_of : Status → ℕ
code_of Fine = 0
code_of Refused = 1
code_of BadSpec = 2
code_of BadTrace = 3
code_of BadExplanation = 4
code_of OverBudget = 5
code_of TooLong = 6
code_of Usage = 7
code_of ReadFault = 8
code_of WriteFault = 9
code_of OutOfMemory = 10
code_of NoStart = 11
