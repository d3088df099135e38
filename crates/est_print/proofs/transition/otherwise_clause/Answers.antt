use Rattle.std.proofs.Common.{refl}
use Rattle.text_printer.proofs.Printing.{take, last, in_second}
use Rattle.est_print.proofs.transition.otherwise_clause.Goals as goal

pub returns : goal.returns
returns c = take refl c.word.ensures (in_second (last refl c.word-2.ensures))
