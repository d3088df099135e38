use Rattle.std.proofs.Common.{arith}
use Rattle.text_printer.proofs.Printing.{then, in_second, opt_in, opt_out, shown}
use Rattle.text_printer.proofs.Single.{name_prints}
use Rattle.text_printer.proofs.Given.{some_call, no_call}
use Rattle.est_print.proofs.statement.call.Goals as goal

pub returns-then-len-gt0 : goal.returns-then-len-gt0
returns-then-len-gt0 c = then (name_prints _ c.name.ensures) (shown (some_call
    c.args.arguments.now (omega arith)) (opt_in (in_second c.called.ensures)))

pub returns-else-len-gt0 : goal.returns-else-len-gt0
returns-else-len-gt0 c = then (name_prints _ c.name.ensures) (shown (no_call c.args.arguments.now
    (omega arith)) opt_out)
