use Rattle.std.proofs.Common.{◌≡◌, drop}
use Rattle.rule_declares.specs.Bodies.{clauses_declare}
use Rattle.rule_outline.proofs.transitions.clauses.Given as goal

abbrev pub invariant-loop-clause : goal.invariant-loop-clause
invariant-loop-clause l = clauses_declare l.within (drop l.clause-index l.clauses)
    (l.context, l.outline) ≡ clauses_declare l.within l.clauses (l.fn.context, l.fn.outline)
