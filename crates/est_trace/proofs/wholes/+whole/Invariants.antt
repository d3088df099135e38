use Rattle.est_trace.proofs.SeenWholes.{AreWholeTo}
use Rattle.est_trace.proofs.wholes.+whole.Given as goal

-- so many values were seen whole
abbrev pub invariant-whole_values-loop-seen : goal.invariant-whole_values-loop-seen
invariant-whole_values-loop-seen l = AreWholeTo l.seen-index l.seens l.values
