use Rattle.plain_outside.specs.inside.NumberedTuples.{IsTupleFrom}
use Rattle.plain_outside.proofs.tuples.tuple_of.Given as goal

abbrev pub invariant-loop-i : goal.invariant-loop-i
invariant-loop-i l = IsTupleFrom l.kinds l.number l.i l.rest l.items.items
