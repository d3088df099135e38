use Rattle.std.proofs.Common.{◌+◌, drop, ap, sym, ◌∙◌, ◌∷◌}
use Rattle.std.proofs.lemmas.List.{drop_more, drop_all}
use Rattle.plain_transitions.proofs.CalmLaws.{no_more_pass, one_more_passes}
use Rattle.plain_transitions.proofs.calm.are_calm.Goals as goal

pub loop-e-preserved : goal.loop-e-preserved
loop-e-preserved c = λ h.
    let es = c.args.es.now in
    let e = c.e-item.result in
    let i = c.loop-e.e-index in
    c.loop-e.invariant (one_more_passes c.args.outline.now (drop i es) (drop (i + 1) es) e
    (drop_more es i e c.loop-e-test.true ∙ ap (λ x. x ∷ drop (i + 1) es) (sym c.e-item.is))
    (c.is_calm.ensures c.if-not-is_calm.false) h)

pub returns : goal.returns
returns c = λ h. c.loop-e.invariant (no_more_pass c.args.outline.now
    (drop c.loop-e.e-index c.args.es.now)
    (drop_all c.loop-e.e-index c.args.es.now c.loop-e-test.false))
