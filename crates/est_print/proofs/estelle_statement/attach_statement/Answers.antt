use Rattle.std.proofs.Common.{refl}
use Rattle.text_printer.proofs.Printing.{take, then}
use Rattle.est_print.proofs.estelle_statement.attach_statement.Goals as goal

pub returns : goal.returns
returns c = take refl c.word.ensures (then c.access.ensures (take refl c.word-2.ensures (then
    c.access-2.ensures (take refl c.symbol.ensures c.access-3.ensures))))
