use Rattle.std.proofs.Common.{refl}
use Rattle.text_printer.proofs.Printing.{last, in_first, in_second}
use Rattle.text_printer.proofs.operator.multiplying_operator.Goals as goal

pub returns-in-Times : goal.returns-in-Times
returns-in-Times c = rw c.in-Times.is (in_first (last refl c.symbol.ensures))

pub returns-in-Div : goal.returns-in-Div
returns-in-Div c = rw c.in-Div.is (in_second (in_first (last refl c.word.ensures)))

pub returns-in-Mod : goal.returns-in-Mod
returns-in-Mod c = rw c.in-Mod.is (in_second (in_second (in_first (last refl
    c.word-in-Mod.ensures))))

pub returns-in-And : goal.returns-in-And
returns-in-And c = rw c.in-And.is (in_second (in_second (in_second (last refl
    c.word-in-And.ensures))))
