use Rattle.std.proofs.Common.{refl}
use Rattle.text_printer.proofs.Printing.{take, then, rule_prints}
use Rattle.text_printer.proofs.Single.{name_prints}
use Rattle.est_print.proofs.estelle_statement.init.Goals as goal

pub returns : goal.returns
returns c = rule_prints (take refl c.word.ensures (then c.access.ensures (take refl
    c.word-2.ensures (then (name_prints _ c.name.ensures) c.arguments.ensures))))
