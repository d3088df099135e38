use Rattle.est_ports.proofs.explain.search.Given as goal

abbrev pub ghost-walk_on : goal.ghost-walk_on
ghost-walk_on g a = g.setup
