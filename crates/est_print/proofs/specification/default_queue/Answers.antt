use Rattle.std.proofs.Common.{refl}
use Rattle.text_printer.proofs.Printing.{take, last, then, opt_in, opt_out}
use Rattle.est_print.proofs.specification.default_queue.Goals as goal

pub returns-in-Some : goal.returns-in-Some
returns-in-Some c = rw c.in-Some.is (opt_in (take refl c.word.ensures (then c.queue.ensures (last
    refl c.symbol.ensures))))

pub returns-in-None : goal.returns-in-None
returns-in-None c = rw c.in-None.is opt_out
