use Rattle.std.proofs.Common.{refl}
use Rattle.text_printer.proofs.Printing.{take, in_first, opt_in}
use Rattle.est_print.proofs.transition.value_bound.Goals as goal

pub returns : goal.returns
returns c = opt_in (take refl c.symbol.ensures (in_first c.expr.ensures))
