use Rattle.est_explanation.proofs.replay.make.Given as goal

abbrev pub ghost-take_next : goal.ghost-take_next
ghost-take_next g a = g.setup

abbrev pub ghost-fire : goal.ghost-fire
ghost-fire g a = g.setup
