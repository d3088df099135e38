use Rattle.std.proofs.Common.{◌≡◌, take}
use Rattle.est_values.proofs.chunks.chunk_from.Given as goal

-- so many items were copied
abbrev pub invariant-loop-item : goal.invariant-loop-item
invariant-loop-item g l = l.items.items ≡ take l.item-index l.rest
