use Rattle.std.proofs.Common.{◌≡◌, drop}
use Rattle.rule_ports.specs.GivenClauses.{with_clauses}
use Rattle.rule_ports.proofs.clauses.give_clauses.Given as goal

abbrev pub invariant-loop-clause : goal.invariant-loop-clause
invariant-loop-clause l = with_clauses l.context (drop l.clause-index l.clauses)
    ≡ with_clauses l.fn.context l.clauses
