use Rattle.std.proofs.Common.{refl}
use Rattle.std.proofs.Math.Logic.{∥∥₁_elim}
use Rattle.std.specs.Coded.{le_prop}
use Rattle.est_explanation.proofs.replay.replay_in.Goals as goal

pub replay_moves-requires : goal.replay_moves-requires
replay_moves-requires g c κs within = (
  within,
  (
    c.requires.room,
    (
      c.requires.few,
      (
        ∥∥₁_elim (g.met.W.World.spoken c.args.world.now) le_prop
            (λ s. (c.requires.allowed s.0 s.1).few),
        λ spec speaks. record {
          suits = record {
            spec_is = refl;
            limit_is = refl;
            silent_is = refl;
            trace_is = refl;
            begun = c.requires.start spec speaks;
            allowed = c.requires.allowed spec speaks;
          };
          start_is = refl;
          outs_are = refl;
        },
      ),
    ),
  ),
)
