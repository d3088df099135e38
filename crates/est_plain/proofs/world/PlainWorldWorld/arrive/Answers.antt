use Rattle.plain_frames.specs.plain_systems.HeldSystems.{situation_of}
use Rattle.est_meaning.specs.declared.event.Event.TheVariants as event
use Rattle.est_plain.proofs.WorldLaws.{event_numbered}
use Rattle.est_plain.proofs.world.PlainWorldWorld.arrive.Goals as goal

pub step-requires : goal.step-requires
step-requires c = event_numbered _ (situation_of c.in_ok-system-in-Arrives.system)
    (situation_of c.arrive.new.system) (event.Arrives c.in-Arrives.interaction)
    c.in_ok-arrive-in-Arrives.ensures c.in_ok-system-in-Arrives.ensures.numbered
