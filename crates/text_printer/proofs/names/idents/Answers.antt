use Rattle.std.proofs.Common.{refl, sym, ◌∙◌}
use Rattle.text_printer.proofs.Printing.{take, part}
use Rattle.text_printer.proofs.Single.{name_prints}
use Rattle.text_printer.proofs.Lists.{one_turn, all_items, list_prints}
use Rattle.text_printer.specs.Turns.{no_turn}
use Rattle.text_productions.specs.Nodes as view
use Rattle.text_printer.proofs.names.idents.Goals as goal

pub loop-next-init : goal.loop-next-init
loop-next-init c = no_turn

pub loop-next-preserved : goal.loop-next-preserved
loop-next-preserved c = one_turn view.a_use c.in-Some.rest.now c.loop-next.next-index
    c.next-item.result c.loop-next-test.true (sym c.next-item.is) c.loop-next.invariant (take refl
    c.symbol.ensures (part refl refl (name_prints _ c.name-in-loop-next.ensures)))

pub returns-after-loop-next : goal.returns-after-loop-next
returns-after-loop-next c = list_prints view.a_use c.args.items.now c.in-Some.rest.now
    c.in-Some.first.now (sym c.as_slice.ensures ∙ c.in-Some.ensures.cases.0) (part refl refl
    (name_prints _ c.name.ensures)) (all_items view.a_use c.in-Some.rest.now c.in-Some.rest.now
    c.loop-next.next-index refl c.loop-next-test.false c.loop-next.invariant)
