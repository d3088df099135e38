use Rattle.std.proofs.Common.{refl}
use Rattle.text_printer.proofs.Printing.{take, then, rule_prints, part}
use Rattle.text_printer.proofs.Single.{name_prints}
use Rattle.est_print.proofs.specification.specification.Goals as goal

pub returns : goal.returns
returns c = part refl refl (rule_prints (take refl c.word.ensures (then (name_prints _
    c.name.ensures) (take refl c.symbol.ensures (then c.default_queue.ensures (then
    c.time_scale.ensures (then c.commons.ensures c.initialization.ensures)))))))
