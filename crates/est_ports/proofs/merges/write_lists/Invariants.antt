use Rattle.std.proofs.Common.{◌≡◌, ◌++◌, drop, map}
use Rattle.est_meaning.specs.declared.trace.Expected.TheVariants.{Known}
use Rattle.est_ports.specs.inside.PortOrder.{in_order}
use Rattle.est_ports.proofs.merges.write_lists.Given as goal

abbrev pub invariant-loop-list : goal.invariant-loop-list
invariant-loop-list l = l.merge ++ map Known (in_order (drop l.list-index l.lists))
    ≡ l.fn.merge ++ map Known (in_order l.lists)
