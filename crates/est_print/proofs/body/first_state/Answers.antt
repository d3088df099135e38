use Rattle.std.proofs.Common.{refl}
use Rattle.text_printer.proofs.Printing.{take, opt_in, opt_out}
use Rattle.text_printer.proofs.Single.{name_prints}
use Rattle.est_print.proofs.body.first_state.Goals as goal

pub returns-in-Some : goal.returns-in-Some
returns-in-Some c = rw c.in-Some.is (opt_in (take refl c.word.ensures (name_prints _
    c.name.ensures)))

pub returns-in-None : goal.returns-in-None
returns-in-None c = rw c.in-None.is opt_out
