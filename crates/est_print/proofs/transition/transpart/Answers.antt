use Rattle.std.proofs.Common.{refl}
use Rattle.text_printer.proofs.Printing.{take, rule_prints, part}
use Rattle.est_print.proofs.transition.transpart.Goals as goal

pub returns : goal.returns
returns c = part refl refl (rule_prints (take refl c.word.ensures c.transitions.ensures))
