use Rattle.std.proofs.Common.{◌≡◌, ◌++◌, drop}
use Rattle.run_make.specs.Arrivals.{arrivals_from, arrivals_of}
use Rattle.run_make.proofs.arrivals.arrivals.Given as goal

-- those from the next port on are left
abbrev pub invariant-loop-number : goal.invariant-loop-number
invariant-loop-number l =
    l.arrivals.items ++ arrivals_from l.number (drop l.number l.ports) ≡ arrivals_of l.ports
