use Rattle.std.proofs.Common.{◌≡◌, ◌++◌, drop}
use Rattle.est_meaning.specs.ClauseContexts.{context_after, given_after}
use Rattle.plain_transitions.specs.inside.HeldClauses.{held, conditions_of, given_conditions}
use Rattle.plain_transitions.proofs.conditions.note_all.Given as goal

abbrev pub invariant-loop-clause : goal.invariant-loop-clause
invariant-loop-clause l = record {
  context : context_after (held l.context.items) (drop l.clause-index l.clauses)
      ≡ context_after (held l.fn.context.items) l.clauses;
  given : conditions_of l.given.items
      ++ given_conditions (given_after (held l.context.items) (drop l.clause-index l.clauses))
      ≡ conditions_of l.fn.given.items
      ++ given_conditions (given_after (held l.fn.context.items) l.clauses);
}
