use Rattle.std.proofs.Common.{◌≡◌, ◌++◌, drop}
use Rattle.std.specs.List.{flat_map}
use Rattle.plain_transitions.specs.WrittenTransitions.{referred}
use Rattle.plain_transitions.specs.inside.HeldClauses.{held, conditions_of, referred_by}
use Rattle.plain_transitions.proofs.conditions.referred.Given as goal

abbrev pub invariant-loop-clause : goal.invariant-loop-clause
invariant-loop-clause l = referred l.conditions.items
    ++ flat_map (referred_by (conditions_of l.given) (held l.context))
    (held (drop l.clause-index l.context))
    ≡ flat_map (referred_by (conditions_of l.given) (held l.context)) (held l.context)
