use Rattle.std.proofs.Common.{refl}
use Rattle.text_printer.proofs.Printing.{take, then, in_first, opt_in}
use Rattle.text_printer.proofs.Single.{name_prints}
use Rattle.est_print.proofs.statement.assignment.Goals as goal

pub returns : goal.returns
returns c = then (name_prints _ c.name.ensures) (opt_in (in_first (then c.path_given.ensures (take
    refl c.symbol.ensures c.expr.ensures))))
