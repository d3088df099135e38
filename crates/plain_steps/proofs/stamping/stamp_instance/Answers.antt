use Rattle.std.proofs.Common.{ap, ◌∙◌, ◌++◌, subst, Some, None}
use Rattle.plain_frames.specs.plain_systems.HeldSystems.{situation_of, stamped}
use Rattle.est_meaning.specs.DelayStamps.{stamp_after}
use Rattle.plain_guards.specs.plain_transitions.FittingTransitions.{AtState, IsNextFitting}
use Rattle.plain_steps.specs.inside.StampLists.{clocked, stamp_list}
use Rattle.plain_steps.proofs.StampSteps.{up_to_next, up_to_last}
use Rattle.plain_steps.proofs.stamping.stamp_instance.Goals as goal

-- the next one that fits
pub loop-number-preserved : goal.loop-number-preserved
loop-number-preserved c =
    let k = clocked c.args.living.number c.in-Some.number in
    let next = subst (λ (x : AtState). IsNextFitting x.text x.body x.state c.loop-number.last
    (Some c.in-Some.number)) c.fits-fits.ensures c.in-Some.ensures in
    let same = c.loop-number.invariant.1 in (
      up_to_next c.args.limit c.args.behaviour.now c.args.fired
          (situation_of c.args.working.now.system) c.args.living c.loop-number.last c.in-Some.number
          (stamped c.args.stamps.now) c.loop-number.stamps c.requires.living
          c.loop-number.invariant.0 next.0 next.2
          c.stamp_transition.new.stamps
          (c.in_ok-stamp_transition.ensures.stamps ∙ ap (λ u. c.loop-number.stamps
          ++ stamp_list k (stamp_after c.args.limit c.args.behaviour.now c.args.fired u k)) same),
      c.in_ok-stamp_transition.ensures.system ∙ same,
    )

-- after the last one that fits
pub returns-clause-stamps : goal.returns-clause-stamps
returns-clause-stamps c = up_to_last c.args.limit c.args.behaviour.now c.args.fired
    (situation_of c.args.working.now.system) c.args.living c.loop-number.last
    (stamped c.args.stamps.now) (stamped c.loop-number.stamps) c.requires.living
    c.loop-number.invariant.0
    (subst (λ (x : AtState). IsNextFitting x.text x.body x.state c.loop-number.last None)
    c.fits-fits.ensures c.in_default.ensures)
