use Rattle.std.proofs.Common.{◌≡◌, take}
use Rattle.est_ports.specs.inside.Cursors.{ends}
use Rattle.est_ports.proofs.cursors.end_all.Given as goal

abbrev pub invariant-loop-list : goal.invariant-loop-list
invariant-loop-list l = l.cursors.items ≡ ends (take l.list-index l.lists)
