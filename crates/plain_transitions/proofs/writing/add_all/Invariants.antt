use Rattle.std.proofs.Common.{◌≡◌, ◌++◌, drop}
use Rattle.plain_transitions.proofs.writing.add_all.Given as goal

abbrev pub invariant-loop-state : goal.invariant-loop-state
invariant-loop-state l = l.into ++ drop l.state-index l.states ≡ l.fn.into ++ l.states
