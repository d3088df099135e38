use Rattle.std.proofs.Common.{◌≡◌, take}
use Rattle.est_values.proofs.value.+same.Given as goal

-- so many values are one
abbrev pub invariant-are_same-loop-i : goal.invariant-are_same-loop-i
invariant-are_same-loop-i l = take l.i l.one ≡ take l.i l.other
