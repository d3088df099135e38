use Rattle.std.proofs.Common.{sym, refl}
use Rattle.plain_frames.specs.plain_systems.HeldSystems.{situation_of}
use Rattle.plain_steps.proofs.FiredSteps.{row_missing, transition_missing, transition_there}
use Rattle.plain_steps.proofs.firing.fire_in.Goals as goal

pub returns-in_default : goal.returns-in_default
returns-in_default c = row_missing c.args.limit c.args.behaviour.now
    (situation_of c.args.working.now.system) c.args.firing.now (sym c.in_default.ensures)

pub returns-in_default-transition : goal.returns-in_default-transition
returns-in_default-transition c = transition_missing c.args.limit c.args.behaviour.now
    (situation_of c.args.working.now.system) c.args.firing.now c.in-Some.row.now
    (sym c.in-Some.ensures) c.in_default-transition.ensures

pub returns : goal.returns
returns c = transition_there c.args.limit c.args.behaviour.now
    (situation_of c.args.working.now.system) c.args.firing.now c.args.behaviour.now
    c.in-Some.row.now c.in-Some-transition.ensures.0 c.in-Some-transition.transition.now
    c.fire_choice.result c.fire_choice.new.working refl (sym c.in-Some.ensures)
    c.in-Some-transition.ensures.1 c.in-Some-transition.ensures.2
    (λ n h. c.fire_choice.ensures c.args.firing.now c.in-Some.row.now
    c.in-Some-transition.ensures.0 n refl h)
