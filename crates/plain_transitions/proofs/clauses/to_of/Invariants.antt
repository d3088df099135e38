use Rattle.std.proofs.Common.{◌≡◌, drop}
use Rattle.est_meaning.specs.ClauseContexts.{given_by, state_in}
use Rattle.plain_transitions.specs.inside.HeldClauses.{held}
use Rattle.plain_transitions.proofs.clauses.to_of.Given as goal

abbrev pub invariant-loop-clause : goal.invariant-loop-clause
invariant-loop-clause l =
    given_by state_in (held (drop l.clause-index l.context))
    ≡ given_by state_in (held l.context)
