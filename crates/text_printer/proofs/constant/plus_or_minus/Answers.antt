use Rattle.std.proofs.Common.{refl}
use Rattle.text_printer.proofs.Printing.{last, in_first, in_second}
use Rattle.text_printer.proofs.constant.plus_or_minus.Goals as goal

pub returns-in-Plus : goal.returns-in-Plus
returns-in-Plus c = rw c.in-Plus.is (in_first (last refl c.symbol.ensures))

pub returns-in-Minus : goal.returns-in-Minus
returns-in-Minus c = rw c.in-Minus.is (in_second (last refl c.symbol-in-Minus.ensures))
