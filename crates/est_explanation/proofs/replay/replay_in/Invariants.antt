use Rattle.est_meaning.specs.Task.{setup_of}
use Rattle.est_explanation.proofs.replay.replay_in.Given as goal

abbrev pub ghost-replay_moves : goal.ghost-replay_moves
ghost-replay_moves g a = λ spec. setup_of (g.W.World.limit a.world.now) a.replaying.now.silent
    a.replaying.now.trace.now (g.W.World.stack a.world.now spec) a.start_outs.now spec
