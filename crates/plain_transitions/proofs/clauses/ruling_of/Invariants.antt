use Rattle.std.proofs.Common.{◌≡◌, drop}
use Rattle.est_meaning.specs.ClauseContexts.{given_by}
use Rattle.plain_transitions.specs.inside.HeldClauses.{held, ruling_in}
use Rattle.plain_transitions.proofs.clauses.ruling_of.Given as goal

abbrev pub invariant-loop-clause : goal.invariant-loop-clause
invariant-loop-clause l =
    given_by ruling_in (held (drop l.clause-index l.context))
    ≡ given_by ruling_in (held l.context)
