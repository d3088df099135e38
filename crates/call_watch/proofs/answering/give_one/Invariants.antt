use Rattle.call_watch.proofs.answering.give_one.Given as goal

abbrev pub ghost-event : goal.ghost-event
ghost-event g a = g.setup
