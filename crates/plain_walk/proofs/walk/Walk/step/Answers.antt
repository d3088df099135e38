use Rattle.std.proofs.Common.{sym, subst}
use Rattle.est_meaning.specs.mean_blocks.KeepingLaws.{AreNumbered}
use Rattle.plain_frames.specs.plain_systems.declared.system.System.{System}
use Rattle.plain_frames.specs.plain_systems.HeldSystems.{situation_of}
use Rattle.est_plain.proofs.WorldLaws.{next_numbered}
use Rattle.plain_walk.proofs.walk.Walk.step.Goals as goal

pub invariant_of-self : goal.invariant_of-self
invariant_of-self c =
    let w = c.args.self.now in
    record {
      outside_is = w.outside_is;
      numbered = next_numbered w.limit w.behaviour (situation_of c.in_ok-system.system)
          (situation_of c.in-Ok.stepped.system) c.args.firing.now c.in-Ok.stepped.outs
          c.in-Ok.ensures (subst (λ (s : System). AreNumbered (situation_of s))
          (sym c.in_ok-system.ensures) w.numbered);
    }
