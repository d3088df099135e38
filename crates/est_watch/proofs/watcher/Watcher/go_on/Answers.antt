use Rattle.est_watch.proofs.WatcherLaws.{answer_is}
use Rattle.est_watch.proofs.watcher.Watcher.go_on.Goals as goal

pub returns-clause-ok : goal.returns-clause-ok
returns-clause-ok g c spec speaks = answer_is (g.setup spec) c.args.exact
    c.args.self.now.limits.budget (g.W.World.stack c.walk_all.new.world spec)
    c.in_ok-step.step c.walk_all.new.walk c.answer.result c.in_ok-step.ensures.going
    (c.in_ok-step.ensures.ok spec speaks) c.in_ok-step.ensures.over c.answer.ensures.found
    c.answer.ensures.over c.answer.ensures.none c.answer.ensures.passed
