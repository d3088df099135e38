use Rattle.std.proofs.Common.{refl}
use Rattle.text_printer.proofs.Printing.{last, in_first, in_second}
use Rattle.text_printer.proofs.Single.{name_prints}
use Rattle.est_print.proofs.transition.next_state.Goals as goal

pub returns-in-Some : goal.returns-in-Some
returns-in-Some c = rw c.in-Some.is (in_first (name_prints _ c.name.ensures))

pub returns-in-None : goal.returns-in-None
returns-in-None c = rw c.in-None.is (in_second (last refl c.word.ensures))
