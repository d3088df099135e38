use Rattle.std.proofs.Common.{refl}
use Rattle.text_printer.proofs.Printing.{last, in_first, in_second}
use Rattle.text_printer.proofs.operator.relational_operator.Goals as goal

pub returns-in-Equal : goal.returns-in-Equal
returns-in-Equal c = rw c.in-Equal.is (in_first (last refl c.symbol.ensures))

pub returns-in-Unequal : goal.returns-in-Unequal
returns-in-Unequal c = rw c.in-Unequal.is (in_second (in_first (last refl
    c.symbol-in-Unequal.ensures)))

pub returns-in-Below : goal.returns-in-Below
returns-in-Below c = rw c.in-Below.is (in_second (in_second (in_first (last refl
    c.symbol-in-Below.ensures))))

pub returns-in-AtMost : goal.returns-in-AtMost
returns-in-AtMost c = rw c.in-AtMost.is (in_second (in_second (in_second (in_first (last refl
    c.symbol-in-AtMost.ensures)))))

pub returns-in-Above : goal.returns-in-Above
returns-in-Above c = rw c.in-Above.is (in_second (in_second (in_second (in_second (in_first (last
    refl c.symbol-in-Above.ensures))))))

pub returns-in-AtLeast : goal.returns-in-AtLeast
returns-in-AtLeast c = rw c.in-AtLeast.is (in_second (in_second (in_second (in_second (in_second
    (in_first (last refl c.symbol-in-AtLeast.ensures)))))))

pub returns-in-Within : goal.returns-in-Within
returns-in-Within c = rw c.in-Within.is (in_second (in_second (in_second (in_second (in_second
    (in_second (last refl c.word.ensures)))))))
