use Rattle.plain_frames.specs.plain_systems.HeldSystems.{situation_of}
use Rattle.plain_steps.proofs.FiredSteps.{begins_there}
use Rattle.plain_steps.proofs.choice.begin.Goals as goal

pub returns : goal.returns
returns c x h = begins_there c.args.limit c.args.text.now
    (situation_of c.args.working.now.system) (situation_of c.look.new.working.system) x
    c.in_ok-sight.sight (record c.look.new.working { system = c.take.new.system })
    (c.in_ok-sight.ensures.sight x h) c.if-not-sight.false c.in_ok-sight.ensures.system
    c.in_ok-take.ensures
