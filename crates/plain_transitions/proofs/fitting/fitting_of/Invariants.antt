use Rattle.plain_transitions.specs.inside.StateNumbers.{AreByStates}
use Rattle.plain_transitions.proofs.fitting.fitting_of.Given as goal

abbrev pub invariant-loop-index : goal.invariant-loop-index
invariant-loop-index l = AreByStates l.written l.index l.fitting
