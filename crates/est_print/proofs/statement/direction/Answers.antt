use Rattle.std.proofs.Common.{refl}
use Rattle.text_printer.proofs.Printing.{last, in_first, in_second}
use Rattle.est_print.proofs.statement.direction.Goals as goal

pub returns-then-down : goal.returns-then-down
returns-then-down c = rw c.if-down.true (in_second (last refl c.word.ensures))

pub returns-else-down : goal.returns-else-down
returns-else-down c = rw c.if-down.false (in_first (last refl c.word-else-down.ensures))
