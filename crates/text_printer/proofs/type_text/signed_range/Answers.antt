use Rattle.std.proofs.Common.{refl}
use Rattle.text_printer.proofs.Printing.{take, then, here_prints, in_first, in_second, rule_prints}
use Rattle.text_printer.proofs.type_text.signed_range.Goals as goal

pub returns : goal.returns
returns c = λ place. rule_prints (in_first (then (here_prints (in_second (in_first
    c.signed_name.ensures)) place) (take refl c.symbol.ensures c.constant.ensures)))
