use Rattle.std.proofs.Common.{refl}
use Rattle.text_printer.proofs.Printing.{take, then, in_first, rule_prints}
use Rattle.text_printer.proofs.type_text.unnamed_range.Goals as goal

pub returns : goal.returns
returns c = rule_prints (in_first (then c.unnamed.ensures (take refl c.symbol.ensures
    c.constant.ensures)))
