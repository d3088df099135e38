use Rattle.std.proofs.Common.{refl}
use Rattle.text_printer.proofs.Printing.{take}
use Rattle.est_print.proofs.transition.from_clause.Goals as goal

pub returns : goal.returns
returns c = take refl c.word.ensures c.idents.ensures
