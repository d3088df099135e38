use Rattle.call_watch.proofs.reading.take_byte.Given as goal

abbrev pub ghost-close_line : goal.ghost-close_line
ghost-close_line g a = g.setup
