use Rattle.est_ports.proofs.turn.land.Given as goal

abbrev pub ghost-depart : goal.ghost-depart
ghost-depart g a = g.setup
