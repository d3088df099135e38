use Rattle.std.proofs.Common.{refl}
use Rattle.text_printer.proofs.Printing.{take, then, rule_prints, part}
use Rattle.text_printer.proofs.declaration.param.Goals as goal

pub returns : goal.returns
returns c = part refl refl (rule_prints (then c.idents.ensures (take refl c.symbol.ensures (part
    refl refl c.shorttype.ensures))))
