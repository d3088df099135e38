use Rattle.std.proofs.Common.{refl}
use Rattle.text_printer.proofs.Printing.{take, last}
use Rattle.text_printer.proofs.header.individual_queue.Goals as goal

pub returns : goal.returns
returns c = take refl c.word.ensures (last refl c.word-2.ensures)
