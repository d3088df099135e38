use Rattle.std.proofs.Common.{refl, arith}
use Rattle.text_printer.proofs.Printing.{then, opt_in, opt_out, rule_prints, part, shown}
use Rattle.text_printer.proofs.Single.{name_prints}
use Rattle.text_printer.proofs.Given.{some_exprs, no_exprs}
use Rattle.text_printer.proofs.access.access.Goals as goal

pub returns-then-len-gt0 : goal.returns-then-len-gt0
returns-then-len-gt0 c = part refl refl (rule_prints (then (name_prints _ c.name.ensures) (shown
    (some_exprs c.args.named.now.index (omega arith)) (opt_in c.subscripts.ensures))))

pub returns-else-len-gt0 : goal.returns-else-len-gt0
returns-else-len-gt0 c = part refl refl (rule_prints (then (name_prints _ c.name.ensures) (shown
    (no_exprs c.args.named.now.index (omega arith)) opt_out)))
