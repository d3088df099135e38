use Rattle.std.proofs.Common.{take}
use Rattle.plain_transitions.specs.inside.StateNumbers.{ArePut}
use Rattle.plain_transitions.proofs.fitting.put_states.Given as goal

abbrev pub invariant-loop-state : goal.invariant-loop-state
invariant-loop-state l = ArePut l.number (take l.state-index l.states) l.fn.named l.named
