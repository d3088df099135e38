use Rattle.est_watch.proofs.watcher.Watcher.go_on.Given as goal

abbrev pub ghost-walk_all : goal.ghost-walk_all
ghost-walk_all g a = g.setup
