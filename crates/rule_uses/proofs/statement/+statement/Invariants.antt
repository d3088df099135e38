use Rattle.std.proofs.Common.{◌≡◌, drop}
use Rattle.rule_uses.specs.Closed.{all_free}
use Rattle.rule_uses.specs.NamesInStatements.{statements_names, arms_names}
use Rattle.rule_uses.proofs.statement.+statement.Given as goal

abbrev pub invariant-statements-loop-one : goal.invariant-statements-loop-one
invariant-statements-loop-one l =
    all_free l.outline l.routine (statements_names (drop l.one-index l.statements))
    ≡ all_free l.outline l.routine (statements_names l.statements)

abbrev pub invariant-arms-loop-one : goal.invariant-arms-loop-one
invariant-arms-loop-one l =
    all_free l.outline l.routine (arms_names (drop l.one-index l.arms))
    ≡ all_free l.outline l.routine (arms_names l.arms)
