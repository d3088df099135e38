use Rattle.std.proofs.Common.{refl}
use Rattle.text_printer.proofs.Printing.{take, then, rule_prints, part}
use Rattle.text_printer.proofs.Single.{name_prints}
use Rattle.est_print.proofs.estelle_statement.sending.Goals as goal

pub returns : goal.returns
returns c = part refl refl (rule_prints (then c.access.ensures (take refl c.symbol.ensures (then
    (name_prints _ c.name.ensures) c.arguments.ensures))))
