use Rattle.std.proofs.Common.{◌≡◌, ◌++◌, take, drop, reverse}
use Rattle.est_ports.proofs.left.kept_list.Given as goal

abbrev pub invariant-loop-at : goal.invariant-loop-at
invariant-loop-at l =
    reverse l.list.items ≡ drop l.at l.best.tail.items ++ reverse (take l.common l.used)
