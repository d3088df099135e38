use Rattle.est_ports.proofs.explain.walk_on.Given as goal

abbrev pub ghost-walk_all : goal.ghost-walk_all
ghost-walk_all g a = g.setup
