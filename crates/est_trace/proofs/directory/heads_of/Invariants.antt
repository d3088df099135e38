use Rattle.std.proofs.Common.{◌-◌}
use Rattle.est_trace.specs.inside.Listing.{AreListed}
use Rattle.est_trace.proofs.directory.heads_of.Given as goal

abbrev pub invariant-loop-next : goal.invariant-loop-next
invariant-loop-next l = AreListed l.ports l.next l.heads

abbrev pub decreases-loop-next : goal.decreases-loop-next
decreases-loop-next l = l.count - l.next
