use Rattle.std.proofs.Common.{refl}
use Rattle.text_printer.proofs.Printing.{take, then}
use Rattle.est_print.proofs.estelle_statement.connect_statement.Goals as goal

pub returns : goal.returns
returns c = take refl c.word.ensures (then c.end_point.ensures (take refl c.word-2.ensures
    c.end_point-2.ensures))
