use Rattle.std.proofs.Common.{refl, sym, ◌∙◌, subst, Some}
use Rattle.plain_frames.specs.plain_systems.HeldSystems.{situation_of}
use Rattle.plain_guards.specs.plain_transitions.FittingTransitions.{AtState, IsTransition}
use Rattle.plain_steps.proofs.StampSteps.{timed_in, one_with, one_without}
use Rattle.plain_steps.proofs.stamping.stamp_transition.Goals as goal

-- it has a stamp
pub returns-in_ok-push-clause-stamps : goal.returns-in_ok-push-clause-stamps
returns-in_ok-push-clause-stamps c =
    let s = situation_of c.args.working.now.system in
    let there = subst (λ (x : AtState). IsTransition x.text x.body c.args.number
    (Some c.in-Some.transition)) c.requires.fits c.in-Some.ensures in
    one_with c.args.limit c.args.behaviour.now c.args.fired s
    (situation_of c.is_timed.new.working.system) c.args.living c.args.number
    c.since-since.result c.args.stamps.now c.push.new.self
    (sym (timed_in c.args.limit c.args.behaviour.now c.args.behaviour.now s c.args.living
    c.args.number there.0 c.in-Some.transition.now c.in_ok-is_timed.field-0
    refl c.requires.living there.1 there.2
    c.in_ok-is_timed.ensures.timed) ∙ c.if-branch.true)
    c.in_ok-is_timed.ensures.system c.since-since.ensures c.in_ok-push.ensures.ok

-- it has none
pub returns-else-branch-clause-stamps : goal.returns-else-branch-clause-stamps
returns-else-branch-clause-stamps c =
    let s = situation_of c.args.working.now.system in
    let there = subst (λ (x : AtState). IsTransition x.text x.body c.args.number
    (Some c.in-Some.transition)) c.requires.fits c.in-Some.ensures in
    one_without c.args.limit c.args.behaviour.now c.args.fired s c.args.living c.args.number
    c.args.stamps.now
    (sym (timed_in c.args.limit c.args.behaviour.now c.args.behaviour.now s c.args.living
    c.args.number there.0 c.in-Some.transition.now c.in_ok-is_timed.field-0
    refl c.requires.living there.1 there.2
    c.in_ok-is_timed.ensures.timed) ∙ c.if-branch.false)
