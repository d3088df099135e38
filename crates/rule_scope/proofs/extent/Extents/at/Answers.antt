use Rattle.std.proofs.Common.{arith, ap, sym, ◌∙◌, subst}
use Rattle.rule_scope.specs.Outline.{extent_at}
use Rattle.rule_scope.proofs.Extents.{IsCount, at_none, at_last}
use Rattle.rule_scope.proofs.extent.Extents.at.Goals as goal

pub returns-then-count-eq0 : goal.returns-then-count-eq0
returns-then-count-eq0 c =
    let is = c.as_slice-extents.ensures ∙ c.self.view_is in
    sym (at_none c.args.self.now c.args.place
    (subst (λ n. IsCount c.args.self.now c.args.place n) (omega (arith, c.if-count-eq0.true))
    (subst (λ es. IsCount es c.args.place c.count_to-count.result) is
    c.count_to-count.ensures.count)))

pub returns-else-count-eq0 : goal.returns-else-count-eq0
returns-else-count-eq0 c =
    let is = c.as_slice-extents.ensures ∙ c.self.view_is in
    sym (ap (λ es. extent_at es c.args.place) (sym is)
    ∙ at_last _ c.args.place c.count_to-count.result _ c.index-extents-count.result
    c.count_to-count.ensures.bound c.count_to-count.ensures.count
    (omega (arith, c.if-count-eq0.false)) c.index-extents-count.is)
