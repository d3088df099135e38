use Rattle.std.proofs.Common.{◌≡◌, take}
use Rattle.est_values.proofs.chunks.chunks_from.Given as goal

-- so many chunks are shared
abbrev pub invariant-loop-chunk : goal.invariant-loop-chunk
invariant-loop-chunk g l = l.items.items ≡ take l.chunk-index l.chunks
