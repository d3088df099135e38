use Rattle.est_watch.proofs.watcher.Watcher.finish.Given as goal

abbrev pub ghost-end : goal.ghost-end
ghost-end g a = g.setup
