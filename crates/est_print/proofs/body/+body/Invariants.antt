use Rattle.std.proofs.Common.{map, take}
use Rattle.text_printer.specs.Turns.{Turns}
use Rattle.text_printer.specs.PlainNodes.{estelle}
use Rattle.text_productions.specs.Nodes as view
use Rattle.text_productions.specs.Productions as grammar
use Rattle.est_print.proofs.body.+body.Given as goal

abbrev pub invariant-body_parts-loop-next : goal.invariant-body_parts-loop-next
invariant-body_parts-loop-next l = Turns estelle grammar.body_part (map view.a_body_part (take
    l.next-index l.next-items)) l.fn.printer l.printer
