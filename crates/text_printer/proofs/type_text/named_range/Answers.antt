use Rattle.std.proofs.Common.{refl}
use Rattle.text_printer.proofs.Printing.{take, then, here_prints, in_second, opt_in, rule_prints}
use Rattle.text_printer.proofs.Single.{name_prints}
use Rattle.text_printer.proofs.type_text.named_range.Goals as goal

pub returns : goal.returns
returns c = λ place. rule_prints (in_second (here_prints (then (name_prints _ c.name.ensures)
    (opt_in (take refl c.symbol.ensures c.constant.ensures))) place))
