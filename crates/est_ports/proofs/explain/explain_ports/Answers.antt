use Rattle.std.proofs.Common.{◌≡◌, refl, sym, subst}
use Rattle.est_meaning.specs.mean_blocks.Outcome.{Done}
use Rattle.est_meaning.specs.mean_blocks.TextByPlace.{text_of}
use Rattle.est_meaning.specs.FiringSteps.{start_of}
use Rattle.est_ports.proofs.explain.explain_ports.Goals as goal

pub search-requires : goal.search-requires
search-requires g c κs within = (
  within,
  (
    c.requires.room,
    λ spec speaks. record {
      suits = record {
        spec_is = refl;
        limit_is = refl;
        silent_is = refl;
        begun = subst (λ l. start_of l (text_of spec)
            ≡ Done c.args.start_outs.now (g.W.World.stack c.args.world.now spec).now)
            (sym c.requires.limit) (c.requires.start spec speaks);
        allowed = c.requires.allowed spec speaks;
      };
      start_is = refl;
      outs_are = refl;
      bottom = c.requires.bottom spec speaks;
    },
  ),
)
