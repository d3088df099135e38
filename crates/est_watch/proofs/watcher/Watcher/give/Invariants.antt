use Rattle.mean_watch.specs.Watching.{so_far}
use Rattle.est_watch.proofs.watcher.Watcher.give.Given as goal

abbrev pub ghost-go_on : goal.ghost-go_on
ghost-go_on g a = λ spec. so_far (g.setup spec) a.self.now.given.items

abbrev pub ghost-leave : goal.ghost-leave
ghost-leave g a = λ spec. so_far (g.setup spec) a.self.now.given.items
