use Rattle.std.proofs.Common.{refl}
use Rattle.text_printer.proofs.Printing.{take, last, then}
use Rattle.est_print.proofs.transition.any_clause.Goals as goal

pub returns : goal.returns
returns c = take refl c.word.ensures (then c.params.ensures (last refl c.word-2.ensures))
