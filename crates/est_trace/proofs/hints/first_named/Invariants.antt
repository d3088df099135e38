use Rattle.std.proofs.Common.{◌≡◌, false, take, bytes_eq}
use Rattle.std.specs.List.{list_any}
use Rattle.est_trace.specs.PortNames.{signal_name}
use Rattle.est_trace.proofs.hints.first_named.Given as goal

abbrev pub invariant-loop-number : goal.invariant-loop-number
invariant-loop-number l = list_any (λ x. bytes_eq (signal_name x) l.name) (take l.number l.signals)
    ≡ false
