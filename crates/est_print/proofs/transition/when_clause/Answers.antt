use Rattle.std.proofs.Common.{refl}
use Rattle.text_printer.proofs.Printing.{take, then}
use Rattle.text_printer.proofs.Single.{name_prints}
use Rattle.est_print.proofs.transition.when_clause.Goals as goal

pub returns : goal.returns
returns c = take refl c.word.ensures (then c.access.ensures (take refl c.symbol.ensures
    (name_prints _ c.name.ensures)))
