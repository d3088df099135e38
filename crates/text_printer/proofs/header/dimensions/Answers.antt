use Rattle.std.proofs.Common.{refl, arith}
use Rattle.text_printer.proofs.Printing.{take, last, then, here_prints, opt_in, opt_out}
use Rattle.text_printer.proofs.Printing.{rule_prints, shown}
use Rattle.text_printer.proofs.Given.{some_dims, no_dims}
use Rattle.text_printer.proofs.header.dimensions.Goals as goal

pub returns-then-len-gt0 : goal.returns-then-len-gt0
returns-then-len-gt0 c = shown (some_dims c.args.place c.args.items.now (omega arith)) (opt_in
    (here_prints (rule_prints (take refl c.word.ensures (take refl c.symbol.ensures (then
    c.shorttypes.ensures (take refl c.symbol-then-len-gt0.ensures (last refl
    c.word-then-len-gt0.ensures)))))) _))

pub returns-else-len-gt0 : goal.returns-else-len-gt0
returns-else-len-gt0 c = shown (no_dims c.args.place c.args.items.now (omega arith)) opt_out
