use Rattle.std.proofs.Common.{refl}
use Rattle.text_printer.proofs.Printing.{opt_out, shown}
use Rattle.est_print.proofs.transition.later_bound.Goals as goal

pub returns-in-Same : goal.returns-in-Same
returns-in-Same c = rw c.in-Same.is opt_out

pub returns-in-Value : goal.returns-in-Value
returns-in-Value c = shown (rw (c.in-Value.is, c.get.ensures) refl) c.value_bound.ensures

pub returns-in-Never : goal.returns-in-Never
returns-in-Never c = rw c.in-Never.is c.no_bound.ensures
