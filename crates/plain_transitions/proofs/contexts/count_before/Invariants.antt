use Rattle.std.proofs.Common.{◌≡◌, ◌+◌, drop}
use Rattle.plain_transitions.specs.inside.HeldClauses.{count_before}
use Rattle.plain_transitions.proofs.contexts.count_before.Given as goal

abbrev pub invariant-loop-other : goal.invariant-loop-other
invariant-loop-other l = (l.count ≡ l.other-index)
    × (l.count + count_before l.clause (drop l.other-index l.context)
    ≡ count_before l.clause l.context)
