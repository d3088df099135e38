use Rattle.plain_frames.specs.plain_systems.HeldSystems.{situation_of}
use Rattle.est_plain.proofs.WorldLaws.{start_numbered}
use Rattle.est_plain.proofs.world.PlainWorld.of_text.Goals as goal

pub new-requires-in-Ok : goal.new-requires-in-Ok
new-requires-in-Ok c = start_numbered c.args.statements _
    (situation_of c.in-Ok.stepped.system) c.in-Ok.stepped.outs c.in-Ok.ensures
