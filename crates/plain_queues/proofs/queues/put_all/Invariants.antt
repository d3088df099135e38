use Rattle.std.proofs.Common.{◌≡◌, ◌++◌, take}
use Rattle.plain_queues.proofs.queues.put_all.Given as goal

-- so many items were put
abbrev pub invariant-loop-item : goal.invariant-loop-item
invariant-loop-item l = l.queue ≡ l.fn.queue ++ take l.item-index l.items
