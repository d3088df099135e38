use Rattle.std.proofs.Common.{refl}
use Rattle.text_printer.proofs.Printing.{last, then, rule_prints, part}
use Rattle.text_printer.proofs.Single.{name_prints}
use Rattle.text_printer.proofs.channel.interaction.Goals as goal

pub returns : goal.returns
returns c = part refl refl (rule_prints (then (name_prints _ c.name.ensures) (then
    c.parameters.ensures (last refl c.symbol.ensures))))
