use Rattle.std.proofs.Common.{refl}
use Rattle.text_printer.proofs.Printing.{take, last, then, here_prints}
use Rattle.text_printer.proofs.type_text.enumeration.Goals as goal

pub returns : goal.returns
returns c = here_prints (take refl c.symbol.ensures (then c.idents.ensures (last refl
    c.symbol-2.ensures))) _
