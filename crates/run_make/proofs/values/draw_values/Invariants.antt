use Rattle.std.proofs.Common.{take}
use Rattle.run_make.specs.Words.{stream_at}
use Rattle.run_make.specs.DrawnValues.{DrawsValues}
use Rattle.run_make.proofs.values.draw_values.Given as goal

-- so many values are drawn
abbrev pub invariant-loop-kind : goal.invariant-loop-kind
invariant-loop-kind l =
    DrawsValues (take l.kind-index l.kinds) (stream_at l.fn.rng) l.values (stream_at l.rng)
