use Rattle.est_tool.proofs.watch.watch_from.Given as goal

abbrev pub ghost-watch_text : goal.ghost-watch_text
ghost-watch_text g a = g.setup
