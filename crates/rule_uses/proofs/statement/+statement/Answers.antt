use Rattle.std.proofs.Common.{sym, ◌∙◌, ◌++◌}
use Rattle.rule_uses.specs.Closed.{all_free}
use Rattle.rule_uses.specs.NamesInExpressions.{expr_names}
use Rattle.rule_uses.specs.NamesInStatements.{statement_names}
use Rattle.rule_uses.proofs.Sequences.{both_free, first_bound}
use Rattle.rule_uses.proofs.StatementRows.{if_at}
use Rattle.rule_uses.proofs.statement.+statement.Goals as goal

pub statement-returns-then-if_statement : goal.statement-returns-then-if_statement
statement-returns-then-if_statement t c =
    both_free c.args.outline.now c.args.routine _ _ _ _ (if_at _ _ _ _ _ c.in-If.is)
    (sym c.if-if_statement.true ∙ c.if_statement.ensures
    ∙ (λ i. all_free c.args.outline.now c.args.routine
    (expr_names (c.get-in-If.ensures i) ++ statement_names (c.get.ensures i))))
    c.else_part.ensures

pub statement-returns-else-if_statement : goal.statement-returns-else-if_statement
statement-returns-else-if_statement t c =
    c.if-if_statement.false
    ∙ first_bound c.args.outline.now c.args.routine _ _ _ (if_at _ _ _ _ _ c.in-If.is)
    (sym c.if-if_statement.false ∙ c.if_statement.ensures
    ∙ (λ i. all_free c.args.outline.now c.args.routine
    (expr_names (c.get-in-If.ensures i) ++ statement_names (c.get.ensures i))))
