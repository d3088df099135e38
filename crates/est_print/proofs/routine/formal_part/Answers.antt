use Rattle.std.proofs.Common.{refl, arith}
use Rattle.text_printer.proofs.Printing.{take, last, then, opt_in, opt_out, shown}
use Rattle.text_printer.proofs.Given.{some_formals, no_formals}
use Rattle.est_print.proofs.routine.formal_part.Goals as goal

pub returns-then-len-gt0 : goal.returns-then-len-gt0
returns-then-len-gt0 c = shown (some_formals c.args.items.now (omega arith)) (opt_in (take refl
    c.symbol.ensures (then c.formals.ensures (last refl c.symbol-then-len-gt0.ensures))))

pub returns-else-len-gt0 : goal.returns-else-len-gt0
returns-else-len-gt0 c = shown (no_formals c.args.items.now (omega arith)) opt_out
