use Rattle.std.proofs.Common.{refl}
use Rattle.text_printer.proofs.Printing.{then, rule_prints, part}
use Rattle.text_printer.proofs.access.end_point.Goals as goal

pub returns : goal.returns
returns c = part refl refl (rule_prints (then c.access.ensures c.access_given.ensures))
