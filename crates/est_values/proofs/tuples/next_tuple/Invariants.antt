use Rattle.est_values.proofs.NextTuples.{IsCarried}
use Rattle.est_values.proofs.tuples.next_tuple.Given as goal

-- the ordinals from a place on are the first ones, and had no next
abbrev pub invariant-loop-i : goal.invariant-loop-i
invariant-loop-i l = IsCarried l.kinds l.fn.tuple l.tuple l.i

-- the place goes down
abbrev pub decreases-loop-i : goal.decreases-loop-i
decreases-loop-i l = l.i
