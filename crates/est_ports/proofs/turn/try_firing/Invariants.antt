use Rattle.est_ports.proofs.turn.try_firing.Given as goal

abbrev pub ghost-land : goal.ghost-land
ghost-land g a = g.setup
