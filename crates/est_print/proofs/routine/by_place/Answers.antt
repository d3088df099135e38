use Rattle.std.proofs.Common.{refl}
use Rattle.text_printer.proofs.Printing.{last, opt_in, opt_out}
use Rattle.est_print.proofs.routine.by_place.Goals as goal

pub returns-then-given : goal.returns-then-given
returns-then-given c = rw c.if-given.true (opt_in (last refl c.word.ensures))

pub returns-else-given : goal.returns-else-given
returns-else-given c = rw c.if-given.false opt_out
