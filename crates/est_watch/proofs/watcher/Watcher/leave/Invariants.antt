use Rattle.est_watch.proofs.watcher.Watcher.leave.Given as goal

abbrev pub ghost-go_back : goal.ghost-go_back
ghost-go_back g a = g.setup

abbrev pub ghost-go_on : goal.ghost-go_on
ghost-go_on g a = g.setup
