use Rattle.std.proofs.Common.{◌≡◌, ◌++◌, drop}
use Rattle.plain_transitions.specs.WrittenTransitions.{referred}
use Rattle.plain_transitions.specs.inside.HeldClauses.{conditions_of, conditions_before}
use Rattle.plain_transitions.proofs.conditions.add_before.Given as goal

abbrev pub invariant-loop-given : goal.invariant-loop-given
invariant-loop-given l = referred l.into.items
    ++ conditions_before l.under l.place (conditions_of (drop l.given-index l.given))
    ≡ referred l.fn.into.items ++ conditions_before l.under l.place (conditions_of l.given)
