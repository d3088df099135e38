use Rattle.call_watch.proofs.line.read_line.Given as goal

abbrev pub ghost-read : goal.ghost-read
ghost-read g a = g.spec
