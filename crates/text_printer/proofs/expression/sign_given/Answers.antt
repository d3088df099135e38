use Rattle.text_printer.proofs.Printing.{opt_in, opt_out}
use Rattle.text_printer.proofs.expression.sign_given.Goals as goal

pub returns-in-Some : goal.returns-in-Some
returns-in-Some c = rw c.in-Some.is (opt_in c.plus_or_minus.ensures)

pub returns-in-None : goal.returns-in-None
returns-in-None c = rw c.in-None.is opt_out
