use Rattle.std.proofs.Common.{refl}
use Rattle.text_printer.proofs.Printing.{take, last, then}
use Rattle.est_print.proofs.transition.delay_clause.Goals as goal

pub returns : goal.returns
returns c = take refl c.word.ensures (take refl c.symbol.ensures (then c.expr.ensures (then
    c.later_bound.ensures (last refl c.symbol-2.ensures))))
