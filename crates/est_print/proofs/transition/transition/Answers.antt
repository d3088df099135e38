use Rattle.std.proofs.Common.{refl}
use Rattle.text_printer.proofs.Printing.{last, then, rule_prints, part}
use Rattle.est_print.proofs.transition.transition.Goals as goal

pub returns : goal.returns
returns c = part refl refl (rule_prints (then c.clauses.ensures (then c.transition_name.ensures
    (then c.block.ensures (last refl c.symbol.ensures)))))
