use Rattle.std.proofs.Common.{length}
use Rattle.plain_queues.specs.ChangedQueues.{IsParted}
use Rattle.plain_queues.proofs.queues.withdraw.Given as goal

-- what was looked at stays or moves
abbrev pub invariant-loop-parted : goal.invariant-loop-parted
invariant-loop-parted l =
    IsParted l.from l.to l.fn.queue l.parted.rest l.parted.stay l.parted.moved

-- one item less is left
abbrev pub decreases-loop-parted : goal.decreases-loop-parted
decreases-loop-parted l = length l.parted.rest
