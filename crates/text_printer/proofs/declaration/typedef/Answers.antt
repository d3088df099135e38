use Rattle.std.proofs.Common.{refl}
use Rattle.text_printer.proofs.Printing.{take, last, then, rule_prints, part}
use Rattle.text_printer.proofs.Single.{name_prints}
use Rattle.text_printer.proofs.declaration.typedef.Goals as goal

pub returns : goal.returns
returns c = part refl refl (rule_prints (then (name_prints _ c.name.ensures) (take refl
    c.symbol.ensures (then c.typetext.ensures (last refl c.symbol-2.ensures)))))
