use Rattle.std.proofs.Common.{◌≡◌, false, take}
use Rattle.std.specs.List.{list_any}
use Rattle.est_trace.specs.PortNames.{passes}
use Rattle.est_trace.proofs.hints.first_passing.Given as goal

abbrev pub invariant-loop-number : goal.invariant-loop-number
invariant-loop-number l = list_any (passes l.direction) (take l.number l.signals) ≡ false
