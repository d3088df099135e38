use Rattle.std.proofs.Common.{length}
use Rattle.est_show.proofs.effects.push_items.Given as goal

-- one item less is left
abbrev pub decreases-loop-rest : goal.decreases-loop-rest
decreases-loop-rest l = length l.rest
