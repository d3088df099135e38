use Rattle.std.proofs.Common.{refl}
use Rattle.text_printer.proofs.Printing.{take, last, in_second, opt_in}
use Rattle.est_print.proofs.transition.no_bound.Goals as goal

pub returns : goal.returns
returns c = opt_in (take refl c.symbol.ensures (in_second (last refl c.symbol-2.ensures)))
