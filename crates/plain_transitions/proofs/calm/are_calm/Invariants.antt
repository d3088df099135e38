use Rattle.std.proofs.Common.{drop}
use Rattle.plain_transitions.specs.WrittenTransitions.{NeverPass}
use Rattle.plain_transitions.proofs.calm.are_calm.Given as goal

-- if the others never pass their limit, none does
abbrev pub invariant-loop-e : goal.invariant-loop-e
invariant-loop-e l = NeverPass l.outline (drop l.e-index l.es) → NeverPass l.outline l.es
