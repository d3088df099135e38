use Rattle.std.proofs.Common.{refl}
use Rattle.text_printer.proofs.Printing.{part}
use Rattle.est_print.proofs.routine.routine.Goals as goal

pub returns-in-None : goal.returns-in-None
returns-in-None c = part (rw c.in-None.is refl) (rw c.in-None.is refl) c.procedure.ensures

pub returns-in-Some : goal.returns-in-Some
returns-in-Some c = part (rw c.in-Some.is refl) (rw c.in-Some.is refl) c.function.ensures
