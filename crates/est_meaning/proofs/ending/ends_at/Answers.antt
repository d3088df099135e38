use Rattle.std.proofs.Common.{◌≡◌, length, sym, ap, ◌∙◌}
use Rattle.std.proofs.lemmas.Result.{IfOk-weaker}
use Rattle.mean_blocks.specs.TextByPlace.{text_of}
use Rattle.est_meaning.proofs.Endings.{not_all, ends_plain, ends_quiet}
use Rattle.est_meaning.proofs.ending.ends_at.Goals as goal

pub returns-then-events-all-clause-ends : goal.returns-then-events-all-clause-ends
returns-then-events-all-clause-ends g c spec speaks =
    let w = g.W.World in
    not_all c.args.trace.now (w.limit c.args.world.now) (text_of spec)
    (w.stack c.args.world.now spec).now c.args.events c.len-all.result
    (c.len-all.ensures ∙ ap length c.events.ensures) c.if-events-all.true

pub returns-then-not-is_quiet-clause-ends : goal.returns-then-not-is_quiet-clause-ends
returns-then-not-is_quiet-clause-ends g c spec speaks =
    let w = g.W.World in
    ends_plain c.args.trace.now (w.limit c.args.world.now) (text_of spec)
    (w.stack c.args.world.now spec).now c.args.events c.len-all.result
    (c.len-all.ensures ∙ ap length c.events.ensures) c.if-events-all.false
    (sym c.is_quiet.ensures ∙ c.if-not-is_quiet.true)

pub returns-clause-ends : goal.returns-clause-ends
returns-clause-ends g c =
    let w = g.W.World in
    IfOk-weaker c.stands_quiet.result _ _
    (λ quiet h spec speaks. ends_quiet c.args.trace.now (w.limit c.args.world.now) (text_of spec)
    (w.stack c.args.world.now spec).now c.args.events c.len-all.result
    (c.len-all.ensures ∙ ap length c.events.ensures) c.if-events-all.false
    (sym c.is_quiet.ensures ∙ c.if-not-is_quiet.false) quiet (h spec speaks))
    c.stands_quiet.ensures.quiet
