use Rattle.est_search.proofs.explain.search_on.Given as goal

abbrev pub ghost-walk_all : goal.ghost-walk_all
ghost-walk_all g a = g.setup
