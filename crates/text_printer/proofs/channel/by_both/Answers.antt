use Rattle.std.proofs.Common.{refl}
use Rattle.text_printer.proofs.Printing.{take, then, opt_in, rule_prints}
use Rattle.text_printer.proofs.Single.{name_prints}
use Rattle.text_printer.proofs.channel.by_both.Goals as goal

pub returns : goal.returns
returns c = rule_prints (take refl c.word.ensures (then (name_prints _ c.name.ensures) (then
    (opt_in (take refl c.symbol.ensures (name_prints _ c.name-2.ensures))) (take refl
    c.symbol-2.ensures c.interactions.ensures))))
