use Rattle.plain_transitions.specs.WrittenTransitions.{kinds_held}
use Rattle.plain_transitions.specs.inside.ChosenTuples.{IsDivided}
use Rattle.plain_transitions.proofs.tuples.tuple_at.Given as goal

abbrev pub invariant-loop-i : goal.invariant-loop-i
invariant-loop-i l = IsDivided (kinds_held l.kinds) l.tuple.items l.i l.number l.quotient
