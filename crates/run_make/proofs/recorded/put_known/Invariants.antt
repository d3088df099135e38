use Rattle.std.proofs.Common.{◌≡◌, ◌++◌, map, reverse}
use Rattle.est_meaning.specs.declared.trace.Expected.TheVariants.{Known}
use Rattle.run_make.proofs.recorded.put_known.Given as goal

abbrev pub invariant-loop-event : goal.invariant-loop-event
invariant-loop-event l = l.expected.items ++ reverse (map Known l.events.items)
    ≡ l.fn.expected.items ++ reverse (map Known l.fn.events.items)

abbrev pub decreases-loop-event : goal.decreases-loop-event
decreases-loop-event l = goal.left-loop-event l
