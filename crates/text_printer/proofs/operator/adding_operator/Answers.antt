use Rattle.std.proofs.Common.{refl}
use Rattle.text_printer.proofs.Printing.{last, in_first, in_second}
use Rattle.text_printer.proofs.operator.adding_operator.Goals as goal

pub returns-in-Plus : goal.returns-in-Plus
returns-in-Plus c = rw c.in-Plus.is (in_first (last refl c.symbol.ensures))

pub returns-in-Minus : goal.returns-in-Minus
returns-in-Minus c = rw c.in-Minus.is (in_second (in_first (last refl c.symbol-in-Minus.ensures)))

pub returns-in-Or : goal.returns-in-Or
returns-in-Or c = rw c.in-Or.is (in_second (in_second (last refl c.word.ensures)))
