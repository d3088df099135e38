use Rattle.std.proofs.Common.{◌≡◌, sym, ap, ◌∙◌}
use Rattle.est_meaning.specs.mean_blocks.TextByPlace.{text_of}
use Rattle.est_meaning.specs.OutsideEvents.{after_event, later}
use Rattle.est_meaning.specs.SituationStacks.{pushed}
use Rattle.est_meaning.proofs.ClockLaws.{after_passing}
use Rattle.est_watch.proofs.turn.happen.Goals as goal

pub returns-in_ok-pass-in-Passes-clause-happened :
    goal.returns-in_ok-pass-in-Passes-clause-happened
returns-in_ok-pass-in-Passes-clause-happened g c spec speaks =
    let stack = g.W.World.stack c.args.world.now spec in
    let t = text_of spec in
    let here : after_event t stack.now c.args.event.now ≡ later stack.now c.from.result =
    ap (after_event t stack.now) c.in-Passes.is
    ∙ after_passing t stack.now c.in-Passes.units ∙ ap (later stack.now) (sym c.from.ensures) in
    c.in_ok-pass-in-Passes.ensures.ok spec speaks ∙ ap (λ s. pushed s stack) (sym here)
