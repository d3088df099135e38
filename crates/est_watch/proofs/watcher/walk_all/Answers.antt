use Rattle.est_watch.proofs.WatcherLaws.{step_many}
use Rattle.est_watch.proofs.watcher.walk_all.Goals as goal

pub returns-then-ne-clause-many : goal.returns-then-ne-clause-many
returns-then-ne-clause-many g c spec speaks = step_many (g.setup spec) c.args.task.now.exact
    (g.W.World.stack c.turn.new.world spec) c.in_ok-step.step c.turn.new.walk
    (c.in_ok-step.ensures.ok spec (c.walk.invariant.keeps.forward spec speaks))
