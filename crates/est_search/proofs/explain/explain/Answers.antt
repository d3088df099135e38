use Rattle.std.proofs.Common.{◌≡◌, refl, sym, subst}
use Rattle.std.proofs.Math.Logic.{∥∥₁_elim}
use Rattle.std.specs.Coded.{le_prop}
use Rattle.est_meaning.specs.mean_blocks.Outcome.{Done}
use Rattle.est_meaning.specs.mean_blocks.TextByPlace.{text_of}
use Rattle.est_meaning.specs.FiringSteps.{start_of}
use Rattle.est_search.proofs.explain.explain.Goals as goal

pub search-requires : goal.search-requires
search-requires g c κs within = (
  within,
  (
    c.requires.room,
    (
      ∥∥₁_elim (g.met.W.World.spoken c.args.world.now) le_prop
          (λ s. (c.requires.allowed s.0 s.1).few),
      λ spec speaks. record {
        setup = record {
          suits = record {
            spec_is = refl;
            limit_is = refl;
            silent_is = refl;
            trace_is = refl;
            begun = subst (λ l. start_of l (text_of spec)
                ≡ Done c.args.start_outs.now (g.W.World.stack c.args.world.now spec).now)
                (sym c.requires.limit) (c.requires.start spec speaks);
            allowed = c.requires.allowed spec speaks;
          };
          start_is = refl;
          outs_are = refl;
        };
        bottom = c.requires.bottom spec speaks;
      },
    ),
  ),
)
