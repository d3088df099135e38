use Rattle.std.proofs.Common.{◌≡◌, replicate}
use Rattle.est_values.proofs.undefined.repeated.Given as goal

-- so many are there
abbrev pub invariant-loop-turn : goal.invariant-loop-turn
invariant-loop-turn l = l.values ≡ replicate l._turn l.value
