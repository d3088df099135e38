use Rattle.std.proofs.Common.{◌≡◌, ◌++◌}
use Rattle.std.specs.Vec.Iter.{into_iter_items}
use Rattle.est_syntax.specs.declared.specification.Spec.{Spec}
use Rattle.est_meaning.specs.SituationStacks.{Keeps}
use Rattle.est_watch.specs.Watchers.{given_to}
use Rattle.call_watch.specs.inside.Recordings.{IsWaiting, watch_of}
use Rattle.call_watch.proofs.Answered.{AreSoFar}
use Rattle.call_watch.proofs.answering.give_all.Given as goal

abbrev pub ghost-give_one : goal.ghost-give_one
ghost-give_one g a = g.setup

abbrev pub invariant-loop-event : goal.invariant-loop-event
invariant-loop-event g l = record {
  waiting : IsWaiting g.W.World.speaks g.W.World.stack g.W.World.limit g.W.World.fired g.setup
      l.recording;
  keeps : Keeps g.W.World.speaks g.W.World.limit l.initial.recording.watcher.world
      l.recording.watcher.world;
  limits : l.recording.limits ≡ l.initial.recording.limits;
  sink : g.K.Sink.faults l.sink ≡ g.K.Sink.faults l.initial.sink;
  given : given_to l.recording.watcher ≡ given_to l.initial.recording.watcher ++ l.yielded;
  left : l.yielded ++ into_iter_items l.event-iterator ≡ l.fn.events;
  answers : (spec : Spec) → g.W.World.speaks l.initial.recording.watcher.world spec
      → AreSoFar (watch_of g.setup l.initial.recording.limits.budget spec)
      (given_to l.initial.recording.watcher) l.yielded (given_to l.recording.watcher)
      (g.K.Sink.written l.initial.sink) (g.K.Sink.written l.sink);
}
