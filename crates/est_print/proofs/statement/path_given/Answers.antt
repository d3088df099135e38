use Rattle.std.proofs.Common.{arith}
use Rattle.text_printer.proofs.Printing.{opt_in, opt_out, shown}
use Rattle.text_printer.proofs.Given.{some_path, no_path}
use Rattle.est_print.proofs.statement.path_given.Goals as goal

pub returns-then-len-gt0 : goal.returns-then-len-gt0
returns-then-len-gt0 c = shown (some_path c.args.items.now (omega arith)) (opt_in
    c.selectors.ensures)

pub returns-else-len-gt0 : goal.returns-else-len-gt0
returns-else-len-gt0 c = shown (no_path c.args.items.now (omega arith)) opt_out
