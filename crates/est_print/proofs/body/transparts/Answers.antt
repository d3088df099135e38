use Rattle.std.proofs.Common.{sym}
use Rattle.text_printer.proofs.Lists.{one_turn, all_items}
use Rattle.text_printer.specs.Turns.{no_turn}
use Rattle.text_productions.specs.Nodes as view
use Rattle.est_print.proofs.body.transparts.Goals as goal

pub loop-next-init : goal.loop-next-init
loop-next-init c = no_turn

pub loop-next-preserved : goal.loop-next-preserved
loop-next-preserved c = one_turn view.a_group c.as_slice-next-items.result.now
    c.loop-next.next-index c.next-item.result c.loop-next-test.true (sym c.next-item.is)
    c.loop-next.invariant c.transpart.ensures

pub returns : goal.returns
returns c = all_items view.a_group c.as_slice-next-items.result.now c.args.items.now
    c.loop-next.next-index c.as_slice-next-items.ensures c.loop-next-test.false
    c.loop-next.invariant
