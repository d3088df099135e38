use Rattle.std.proofs.Common.{refl}
use Rattle.text_printer.proofs.Printing.{take, opt_in, opt_out}
use Rattle.text_printer.proofs.access.access_given.Goals as goal

pub returns-in-Some : goal.returns-in-Some
returns-in-Some c = rw c.in-Some.is (opt_in (take refl c.symbol.ensures c.access.ensures))

pub returns-in-None : goal.returns-in-None
returns-in-None c = rw c.in-None.is opt_out
