use Rattle.std.proofs.Common.{◌≡◌, drop}
use Rattle.rule_uses.specs.Closed.{all_free}
use Rattle.rule_uses.specs.NamesInStatements.{sendings_names}
use Rattle.rule_uses.proofs.statement.sendings.Given as goal

abbrev pub invariant-loop-one : goal.invariant-loop-one
invariant-loop-one l =
    all_free l.outline l.routine (sendings_names (drop l.one-index l.sendings))
    ≡ all_free l.outline l.routine (sendings_names l.sendings)
