use Rattle.std.proofs.Common.{[]}
use Rattle.est_meaning.specs.RecordedTraces.{known_trace}
use Rattle.est_meaning.specs.Task.{setup_of}
use Rattle.est_tool.proofs.watch.watch_started.Given as goal

abbrev pub ghost-watch_from : goal.ghost-watch_from
ghost-watch_from g a = λ spec. setup_of a.limits.now.statements a.limits.now.silent
    (known_trace []) (g.W.World.stack a.world spec) a.outs spec
