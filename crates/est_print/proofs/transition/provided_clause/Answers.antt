use Rattle.std.proofs.Common.{refl}
use Rattle.text_printer.proofs.Printing.{take, in_first}
use Rattle.est_print.proofs.transition.provided_clause.Goals as goal

pub returns : goal.returns
returns c = take refl c.word.ensures (in_first c.expr.ensures)
