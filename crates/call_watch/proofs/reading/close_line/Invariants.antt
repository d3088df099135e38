use Rattle.call_watch.proofs.reading.close_line.Given as goal

abbrev pub ghost-answer_line : goal.ghost-answer_line
ghost-answer_line g a = g.setup
