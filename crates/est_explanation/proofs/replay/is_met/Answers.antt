use Rattle.std.proofs.Common.{◌≡◌, ◌≤◌, ◌<◌, ◌+◌, length, sym, ap, subst, ◌∙◌}
use Rattle.std.proofs.lemmas.Result.{IfOk-weaker}
use Rattle.est_meaning.specs.mean_blocks.TextByPlace.{text_of}
use Rattle.est_explanation.proofs.Claims.{met_within, met_beyond, met_at_end}
use Rattle.est_explanation.proofs.replay.is_met.Goals as goal

pub returns-then-claim-all-clause-met : goal.returns-then-claim-all-clause-met
returns-then-claim-all-clause-met g c spec speaks =
    let w = g.W.World in
    let r = c.args.replaying.now in
    let many = c.len-all.ensures ∙ ap length c.events.ensures in
    met_within r.trace.now (w.limit c.args.world.now) (text_of spec)
    (w.stack c.args.world.now spec).now r.claim c.args.events
    (subst (λ n. r.claim ≤ n) many c.if-claim-all.true)

pub returns-then-claim-whole-clause-met : goal.returns-then-claim-whole-clause-met
returns-then-claim-whole-clause-met g c spec speaks =
    let w = g.W.World in
    let r = c.args.replaying.now in
    let many = c.len-all.ensures ∙ ap length c.events.ensures in
    met_beyond r.trace.now (w.limit c.args.world.now) (text_of spec)
    (w.stack c.args.world.now spec).now r.claim c.args.events
    (subst (λ n. n < r.claim) many c.if-claim-all.false)
    (λ e. c.if-claim-whole.true (e ∙ ap (λ n. n + 1) (sym many)))

pub returns-clause-met : goal.returns-clause-met
returns-clause-met g c =
    let w = g.W.World in
    let r = c.args.replaying.now in
    let many = c.len-all.ensures ∙ ap length c.events.ensures in
    IfOk-weaker c.ends_at.result _ _
    (λ ends h spec speaks. met_at_end r.trace.now (w.limit c.args.world.now) (text_of spec)
    (w.stack c.args.world.now spec).now r.claim c.args.events
    (subst (λ n. n < r.claim) many c.if-claim-all.false)
    (c.if-claim-whole.false ∙ ap (λ n. n + 1) many) ends (h spec speaks)) c.ends_at.ensures.ends
