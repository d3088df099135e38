use Rattle.est_ports.proofs.turn.try_next.Given as goal

abbrev pub ghost-go_back : goal.ghost-go_back
ghost-go_back g a = g.setup

abbrev pub ghost-try_move : goal.ghost-try_move
ghost-try_move g a = g.setup
