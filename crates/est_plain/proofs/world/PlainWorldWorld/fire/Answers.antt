use Rattle.plain_frames.specs.plain_systems.HeldSystems.{situation_of}
use Rattle.est_plain.proofs.WorldLaws.{next_numbered}
use Rattle.est_plain.proofs.world.PlainWorldWorld.fire.Goals as goal

pub step-requires : goal.step-requires
step-requires c = next_numbered c.args.self.now.limit _ (situation_of c.in_ok-system.system)
    (situation_of c.in-Ok.stepped.system) c.args.firing.now c.in-Ok.stepped.outs c.in-Ok.ensures
    c.in_ok-system.ensures.numbered
