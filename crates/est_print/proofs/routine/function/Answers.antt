use Rattle.std.proofs.Common.{refl}
use Rattle.text_printer.proofs.Printing.{take, last, then, begun, skipped, in_second, rule_prints}
use Rattle.text_printer.proofs.Single.{name_prints}
use Rattle.est_print.proofs.routine.function.Goals as goal

pub returns : goal.returns
returns c = rule_prints (in_second (begun (skipped (take refl c.word.ensures (then (name_prints _
    c.name.ensures) (then c.formal_part.ensures (take refl c.symbol.ensures (then (name_prints _
    c.name-2.ensures) (take refl c.symbol-2.ensures (then c.block.ensures (last refl
    c.symbol-3.ensures)))))))))))
