use Rattle.std.proofs.Common.{refl}
use Rattle.text_printer.proofs.Printing.{take, then, opt_out, rule_prints}
use Rattle.text_printer.proofs.Single.{name_prints}
use Rattle.text_printer.proofs.channel.by_one.Goals as goal

pub returns : goal.returns
returns c = rule_prints (take refl c.word.ensures (then (name_prints _ c.name.ensures) (then
    opt_out (take refl c.symbol.ensures c.interactions.ensures))))
