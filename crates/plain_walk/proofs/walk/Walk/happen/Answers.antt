use Rattle.std.proofs.Common.{sym, subst}
use Rattle.est_meaning.specs.mean_blocks.KeepingLaws.{AreNumbered}
use Rattle.plain_frames.specs.plain_systems.declared.system.System.{System}
use Rattle.plain_frames.specs.plain_systems.HeldSystems.{situation_of}
use Rattle.est_meaning.specs.declared.event.Event.TheVariants as event
use Rattle.est_plain.proofs.WorldLaws.{event_numbered}
use Rattle.plain_walk.proofs.walk.Walk.happen.Goals as goal

pub invariant_of-self-in-Arrives : goal.invariant_of-self-in-Arrives
invariant_of-self-in-Arrives c =
    let w = c.args.self.now in
    record {
      outside_is = w.outside_is;
      numbered = event_numbered w.outside (situation_of c.in_ok-system-in-Arrives.system)
          (situation_of c.arrive.new.system) (event.Arrives c.in-Arrives.interaction)
          c.in_ok-arrive-in-Arrives.ensures (subst (λ (s : System). AreNumbered (situation_of s))
          (sym c.in_ok-system-in-Arrives.ensures) w.numbered);
    }
