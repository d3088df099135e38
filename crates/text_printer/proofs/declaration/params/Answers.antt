use Rattle.std.proofs.Common.{refl, sym, ◌∙◌}
use Rattle.text_printer.proofs.Printing.{take}
use Rattle.text_printer.proofs.Lists.{one_turn, all_items, list_prints}
use Rattle.text_printer.specs.Turns.{no_turn}
use Rattle.text_productions.specs.Nodes as view
use Rattle.text_printer.proofs.declaration.params.Goals as goal

pub loop-next-init : goal.loop-next-init
loop-next-init c = no_turn

pub loop-next-preserved : goal.loop-next-preserved
loop-next-preserved c = one_turn view.a_parameter c.in-Some.rest.now c.loop-next.next-index
    c.next-item.result c.loop-next-test.true (sym c.next-item.is) c.loop-next.invariant (take refl
    c.symbol.ensures c.param-in-loop-next.ensures)

pub returns-after-loop-next : goal.returns-after-loop-next
returns-after-loop-next c = list_prints view.a_parameter c.args.items.now c.in-Some.rest.now
    c.in-Some.first.now (sym c.as_slice.ensures ∙ c.in-Some.ensures.cases.0) c.param.ensures
    (all_items view.a_parameter c.in-Some.rest.now c.in-Some.rest.now c.loop-next.next-index refl
    c.loop-next-test.false c.loop-next.invariant)
