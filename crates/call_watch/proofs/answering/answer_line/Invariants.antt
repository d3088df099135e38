use Rattle.call_watch.proofs.answering.answer_line.Given as goal

abbrev pub ghost-finish : goal.ghost-finish
ghost-finish g a = g.setup

abbrev pub ghost-read_line : goal.ghost-read_line
ghost-read_line g a = a.recording.now.checked.now

abbrev pub ghost-give_all : goal.ghost-give_all
ghost-give_all g a = g.setup
