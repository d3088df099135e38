use Rattle.call_watch.proofs.answering.finish.Given as goal

abbrev pub ghost-finish : goal.ghost-finish
ghost-finish g a = g.setup
