use Rattle.est_meaning.specs.Task.{setup_of}
use Rattle.est_search.proofs.explain.explain.Given as goal

abbrev pub ghost-search : goal.ghost-search
ghost-search g a = λ spec. setup_of (g.W.World.limit a.world.now) a.task.now.silent
    a.task.now.trace.now (g.W.World.stack a.world.now spec) a.start_outs.now spec
