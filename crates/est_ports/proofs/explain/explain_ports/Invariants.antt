use Rattle.std.proofs.Common.{[]}
use Rattle.est_meaning.specs.RecordedTraces.{known_trace}
use Rattle.est_meaning.specs.Task.{setup_of}
use Rattle.est_ports.proofs.explain.explain_ports.Given as goal

abbrev pub ghost-search : goal.ghost-search
ghost-search g a = λ spec. setup_of (g.W.World.limit a.world.now) a.task.now.silent (known_trace [])
    (g.W.World.stack a.world.now spec) a.start_outs.now spec
