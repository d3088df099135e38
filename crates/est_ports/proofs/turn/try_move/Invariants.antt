use Rattle.est_ports.proofs.turn.try_move.Given as goal

abbrev pub ghost-try_take : goal.ghost-try_take
ghost-try_take g a = g.setup

abbrev pub ghost-try_pass : goal.ghost-try_pass
ghost-try_pass g a = g.setup

abbrev pub ghost-try_firing : goal.ghost-try_firing
ghost-try_firing g a = g.setup
