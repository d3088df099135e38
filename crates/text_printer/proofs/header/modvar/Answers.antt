use Rattle.std.proofs.Common.{refl}
use Rattle.text_printer.proofs.Printing.{take, last, then, here_prints, rule_prints, part}
use Rattle.text_printer.proofs.Single.{name_prints}
use Rattle.text_printer.proofs.header.modvar.Goals as goal

pub returns : goal.returns
returns c = part refl refl (rule_prints (here_prints (then c.idents.ensures (take refl
    c.symbol.ensures (then c.dimensions.ensures (then (name_prints _ c.name.ensures) (last refl
    c.symbol-2.ensures))))) _))
