use Rattle.std.proofs.Common.{◌≡◌, ◌+◌, ◌++◌, drop, map}
use Rattle.est_meaning.specs.declared.trace.Expected.TheVariants.{Known}
use Rattle.est_ports.specs.inside.PortOrder.{phases_in_order}
use Rattle.est_ports.proofs.merges.write_later.Given as goal

abbrev pub invariant-loop-at : goal.invariant-loop-at
invariant-loop-at l = l.merge
    ++ map Known (phases_in_order (drop (l.at + 1) l.lists.phases) (drop l.at l.lists.times))
    ≡ l.fn.merge
    ++ map Known (phases_in_order (drop (l.phase + 1) l.lists.phases) (drop l.phase l.lists.times))
