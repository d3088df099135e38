use Rattle.std.proofs.Common.{length}
use Rattle.est_advice.proofs.waiting.push_items.Given as goal

-- one item less is left
abbrev pub decreases-loop-rest : goal.decreases-loop-rest
decreases-loop-rest l = length l.rest
