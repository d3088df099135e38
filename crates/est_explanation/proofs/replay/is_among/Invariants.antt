use Rattle.std.proofs.Common.{drop}
use Rattle.est_syntax.specs.Least.{IsIn}
use Rattle.est_explanation.proofs.replay.is_among.Given as goal

abbrev pub invariant-loop-other : goal.invariant-loop-other
invariant-loop-other l = IsIn l.firing l.firings → IsIn l.firing (drop l.other-index l.firings)
