use Rattle.std.proofs.Common.{refl}
use Rattle.text_printer.proofs.Printing.{last, in_first, in_second}
use Rattle.text_printer.proofs.header.attribute.Goals as goal

pub returns-then-system : goal.returns-then-system
returns-then-system c = rw c.if-system.true (in_first (last refl c.word.ensures))

pub returns-else-system : goal.returns-else-system
returns-else-system c = rw c.if-system.false (in_second (last refl c.word-else-system.ensures))
