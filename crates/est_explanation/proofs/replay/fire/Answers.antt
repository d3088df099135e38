use Rattle.std.proofs.Common.{subst}
use Rattle.est_syntax.specs.Least.{IsIn}
use Rattle.est_explanation.specs.inside.Standing.{HasLanded}
use Rattle.est_explanation.proofs.Moving.{fired_lands}
use Rattle.est_explanation.proofs.replay.fire.Goals as goal

pub returns-in-Done-clause-moved : goal.returns-in-Done-clause-moved
returns-in-Done-clause-moved g c spec speaks events ready =
    let w = g.W.World in
    let offers = rw c.in-Settled.is at (c.in_ok-options.ensures.offers spec speaks) in
    let answer = rw c.in-Done.is at (c.in_ok-fire.ensures.answer spec
    (c.in_ok-options.ensures.keeps.forward spec speaks)) in
    let among : IsIn c.args.firing.now c.options.new.into.items = subst (IsIn c.args.firing.now)
    c.deref.ensures.value (c.is_among.ensures.0 c.if-not-is_among.false) in
    let landed : HasLanded c.args.checks.now.trace.now.events c.args.checks.now.silent
    c.args.checks.now.asked c.args.at c.fire.new.outs.items c.land.result =
    subst (λ es. HasLanded c.args.checks.now.trace.now.events c.args.checks.now.silent
    c.args.checks.now.asked c.args.at es c.land.result) c.deref-in-Done.ensures.value
    c.land.ensures in
    fired_lands (g.setup spec) spec (w.limit c.args.world.now) c.args.checks.now.silent
    c.args.checks.now.trace.now (w.stack c.args.world.now spec) c.args.at events ready
    c.args.checks.now.asked c.args.firing.now c.options.new.into.items
    (w.limit c.options.new.self) (w.stack c.options.new.self spec)
    (w.stack c.fire.new.self spec) c.fire.new.outs.items
    c.in_ok-options.ensures.keeps.limit_is (c.in_ok-options.ensures.stack spec speaks) offers among
    answer c.requires.1.0 c.land.result landed
