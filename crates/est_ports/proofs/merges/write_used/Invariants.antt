use Rattle.std.proofs.Common.{take, reverse}
use Rattle.est_ports.specs.inside.PortOrder.{HasWritten}
use Rattle.est_ports.proofs.merges.write_used.Given as goal

abbrev pub invariant-loop-at : goal.invariant-loop-at
invariant-loop-at l = HasWritten l.lists (reverse (take l.at l.used)) l.rest.phase
    l.rest.cursors.items l.fn.merge l.merge
