use Rattle.std.proofs.Common.{◌≡◌, drop}
use Rattle.est_meaning.specs.ClauseContexts.{context_after}
use Rattle.plain_transitions.specs.inside.HeldClauses.{held}
use Rattle.plain_transitions.proofs.contexts.give_all.Given as goal

abbrev pub invariant-loop-clause : goal.invariant-loop-clause
invariant-loop-clause l = context_after (held l.context.items) (drop l.clause-index l.clauses)
    ≡ context_after (held l.fn.context.items) l.clauses
