use Rattle.std.proofs.Common.{refl}
use Rattle.text_printer.proofs.Printing.{take, then, rule_prints}
use Rattle.text_printer.proofs.Single.{name_prints}
use Rattle.text_printer.proofs.channel.channel_of.Goals as goal

pub returns : goal.returns
returns c = rule_prints (take refl c.word.ensures (then (name_prints _ c.name.ensures) (take refl
    c.symbol.ensures (then (name_prints _ c.name-2.ensures) (take refl c.symbol-2.ensures (then
    (name_prints _ c.name-3.ensures) (take refl c.symbol-3.ensures (take refl c.symbol-4.ensures
    c.by_parts.ensures))))))))
