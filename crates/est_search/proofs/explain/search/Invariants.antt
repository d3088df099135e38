use Rattle.est_search.proofs.explain.search.Given as goal

abbrev pub ghost-search_on : goal.ghost-search_on
ghost-search_on g a = g.setup
