use Rattle.std.proofs.Common.{ap, sym, ◌∙◌}
use Rattle.rule_uses.specs.NamesInExpressions.{end_names}
use Rattle.rule_uses.specs.NamesInStatements.{link_names}
use Rattle.rule_uses.proofs.Sequences.{both_free}
use Rattle.rule_uses.proofs.statement.link.Goals as goal

pub returns-then-end_point : goal.returns-then-end_point
returns-then-end_point c =
    both_free c.args.outline.now c.args.routine (link_names c.args.one.now)
    (end_names c.in-Connect.one) (end_names c.in-Connect.other) _ (ap link_names c.in-Connect.is)
    (sym c.if-end_point.true ∙ c.end_point.ensures) c.end_point-then-end_point.ensures
