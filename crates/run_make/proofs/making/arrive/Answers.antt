use Rattle.run_make.specs.Words.{stream_at}
use Rattle.run_make.proofs.Happening.{may_arrive}
use Rattle.run_make.proofs.making.arrive.Goals as goal

pub arrive-requires : goal.arrive-requires
arrive-requires g c spec speaks =
    may_arrive spec c.args.recipe.now.ports.now c.args.word (stream_at c.args.making.now.rng)
    (stream_at c.draw_interaction.new.rng) c.in_ok-interaction.interaction
    (c.requires.ports spec speaks) c.in_ok-interaction.ensures
