use Rattle.plain_frames.specs.plain_systems.HeldSystems.{situation_of}
use Rattle.plain_steps.proofs.FiredSteps.{numbered_after}
use Rattle.plain_steps.proofs.firing.fire.Goals as goal

pub end-requires-clause-numbered : goal.end-requires-clause-numbered
end-requires-clause-numbered c = numbered_after c.args.limit c.args.behaviour.now
    (situation_of c.args.system) c.args.firing.now c.fire_in.new.working c.requires.numbered
    c.in_ok-fire_in.ensures
