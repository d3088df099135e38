use Rattle.std.proofs.Common.{refl}
use Rattle.text_printer.proofs.Printing.{take, last, then, rule_prints, part}
use Rattle.text_printer.proofs.header.export.Goals as goal

pub returns : goal.returns
returns c = part refl refl (rule_prints (then c.idents.ensures (take refl c.symbol.ensures (then
    (part refl refl c.shorttype.ensures) (last refl c.symbol-2.ensures)))))
