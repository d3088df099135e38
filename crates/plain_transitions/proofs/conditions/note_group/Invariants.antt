use Rattle.std.proofs.Common.{◌≡◌, ◌++◌, drop}
use Rattle.est_meaning.specs.ClauseContexts.{given_after, clauses_of}
use Rattle.plain_transitions.specs.inside.HeldClauses.{held, conditions_of, given_conditions}
use Rattle.plain_transitions.proofs.conditions.note_group.Given as goal

abbrev pub invariant-loop-transition : goal.invariant-loop-transition
invariant-loop-transition l = conditions_of l.given.items
    ++ given_conditions (given_after (held l.context.items)
    (clauses_of (drop l.transition-index l.transitions)))
    ≡ conditions_of l.fn.given.items
    ++ given_conditions (given_after (held l.fn.context.items) (clauses_of l.transitions))
