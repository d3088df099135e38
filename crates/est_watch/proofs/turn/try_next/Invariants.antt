use Rattle.est_watch.proofs.turn.try_next.Given as goal

abbrev pub ghost-go_back : goal.ghost-go_back
ghost-go_back g a = g.setup

abbrev pub ghost-try_firing : goal.ghost-try_firing
ghost-try_firing g a = g.setup
