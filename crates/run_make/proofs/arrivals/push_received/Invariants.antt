use Rattle.std.proofs.Common.{◌≡◌, ◌++◌, drop}
use Rattle.run_make.specs.Arrivals.{received_from}
use Rattle.run_make.proofs.arrivals.push_received.Given as goal

-- those from the next signal on are left
abbrev pub invariant-loop-i : goal.invariant-loop-i
invariant-loop-i l = l.into.items ++ received_from l.port l.i (drop l.i l.signals)
    ≡ l.fn.into.items ++ received_from l.port 0 l.signals
