use Rattle.std.proofs.Common.{◌<◌}
use Rattle.est_trace.proofs.written_subscripts.tuple_count.Given as goal

-- it is not 0
abbrev pub invariant-loop-kind : goal.invariant-loop-kind
invariant-loop-kind l = 0 < l.count
