use Rattle.est_watch.proofs.watcher.Watcher.event.Given as goal

abbrev pub ghost-give : goal.ghost-give
ghost-give g a = g.setup
