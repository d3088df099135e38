use Rattle.std.proofs.Common.{refl, sym, ap}
use Rattle.text_printer.proofs.Printing.{take, last, then, begun, skipped, here_prints, shown}
use Rattle.text_reader.specs.Shown.{pair, empty}
use Rattle.est_print.proofs.Others.{initialization_never}
use Rattle.est_grammar.proofs.Made as made
use Rattle.est_print.proofs.specification.initialization.Goals as goal

pub returns-in-Init : goal.returns-in-Init
returns-in-Init c = shown (rw c.in-Init.is (ap (λ v. pair v (pair empty empty)) (sym
    (made.first_made _ _ _ _)))) (take refl c.word.ensures (take refl c.word-in-Init.ensures (then
    (here_prints c.init.ensures c.in-Init.place) (begun (skipped (take refl
    c.word-in-Init-2.ensures (take refl c.symbol.ensures (take refl c.word-in-Init-3.ensures (last
    refl c.symbol-in-Init.ensures)))))))))

pub returns-in_default : goal.returns-in_default
returns-in_default c = initialization_never c.args.first.now c.in_default.not-Init
