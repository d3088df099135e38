use Rattle.std.proofs.Common.{map, take}
use Rattle.text_printer.specs.Turns.{Turns}
use Rattle.text_printer.specs.PlainNodes.{estelle}
use Rattle.text_productions.specs.Nodes as view
use Rattle.text_productions.specs.Productions as grammar
use Rattle.est_print.proofs.block.block_parts.Given as goal

abbrev pub invariant-loop-next : goal.invariant-loop-next
invariant-loop-next l = Turns estelle grammar.block_part (map view.a_block_part (take l.next-index
    l.next-items)) l.fn.printer l.printer
