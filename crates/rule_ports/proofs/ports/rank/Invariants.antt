use Rattle.rule_ports.proofs.Ranks.{IsRankedFrom}
use Rattle.rule_ports.proofs.ports.rank.Given as goal

abbrev pub invariant-loop-i : goal.invariant-loop-i
invariant-loop-i l = IsRankedFrom l.kinds l.index l.i l.rank l.size
