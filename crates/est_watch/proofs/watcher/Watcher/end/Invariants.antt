use Rattle.mean_watch.specs.Watching.{so_far}
use Rattle.est_watch.proofs.watcher.Watcher.end.Given as goal

abbrev pub ghost-leave : goal.ghost-leave
ghost-leave g a = λ spec. so_far (g.setup spec) a.self.now.given.items
