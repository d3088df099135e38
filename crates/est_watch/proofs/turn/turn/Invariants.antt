use Rattle.est_watch.proofs.turn.turn.Given as goal

abbrev pub ghost-take_next : goal.ghost-take_next
ghost-take_next g a = g.setup

abbrev pub ghost-list_options : goal.ghost-list_options
ghost-list_options g a = g.setup

abbrev pub ghost-try_next : goal.ghost-try_next
ghost-try_next g a = g.setup
