use Rattle.std.proofs.Common.{◌≡◌, ◌++◌, take, map}
use Rattle.est_meaning.specs.declared.trace.Expected.TheVariants.{Known}
use Rattle.est_ports.proofs.merges.write_list.Given as goal

abbrev pub invariant-loop-event : goal.invariant-loop-event
invariant-loop-event l = l.merge ≡ l.fn.merge ++ map Known (take l.event-index l.events)
