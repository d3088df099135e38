use Rattle.std.proofs.Common.{refl, sym}
use Rattle.text_printer.proofs.Printing.{part}
use Rattle.text_printer.proofs.Lists.{one_turn, all_items}
use Rattle.text_printer.specs.Turns.{no_turn}
use Rattle.text_productions.specs.Nodes as view
use Rattle.est_print.proofs.specification.commons.Goals as goal

pub loop-next-init : goal.loop-next-init
loop-next-init c = no_turn

pub loop-next-preserved : goal.loop-next-preserved
loop-next-preserved c = one_turn view.a_common_part c.as_slice-next-items.result.now
    c.loop-next.next-index c.next-item.result c.loop-next-test.true (sym c.next-item.is)
    c.loop-next.invariant (part refl refl c.common.ensures)

pub returns : goal.returns
returns c = all_items view.a_common_part c.as_slice-next-items.result.now c.args.items.now
    c.loop-next.next-index c.as_slice-next-items.ensures c.loop-next-test.false
    c.loop-next.invariant
