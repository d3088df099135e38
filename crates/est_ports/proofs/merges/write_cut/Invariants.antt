use Rattle.std.proofs.Common.{◌≡◌, ◌++◌, drop, map}
use Rattle.est_meaning.specs.declared.trace.Expected.TheVariants.{Known}
use Rattle.est_ports.specs.inside.Cursors.{cut}
use Rattle.est_ports.specs.inside.PortOrder.{in_order}
use Rattle.est_ports.proofs.merges.write_cut.Given as goal

abbrev pub invariant-loop-port : goal.invariant-loop-port
invariant-loop-port l = l.merge ++ map Known (in_order (drop l.port (cut l.cursors l.lists)))
    ≡ l.fn.merge ++ map Known (in_order (cut l.cursors l.lists))
