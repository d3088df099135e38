use Rattle.plain_transitions.proofs.CalmLaws.{expression_calm}
use Rattle.plain_transitions.proofs.calm.is_calm.Goals as goal

pub returns-in-None : goal.returns-in-None
returns-in-None c = λ h.
    expression_calm c.args.outline.now c.args.e.now c.in-None.is (c.is_calm_sum.ensures h)
