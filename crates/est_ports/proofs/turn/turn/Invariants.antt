use Rattle.est_ports.proofs.turn.turn.Given as goal

abbrev pub ghost-list_moves : goal.ghost-list_moves
ghost-list_moves g a = g.setup

abbrev pub ghost-try_next : goal.ghost-try_next
ghost-try_next g a = g.setup
