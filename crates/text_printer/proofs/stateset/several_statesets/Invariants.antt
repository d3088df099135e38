use Rattle.std.proofs.Common.{map, take}
use Rattle.text_printer.specs.Turns.{Turns}
use Rattle.text_printer.specs.PlainNodes.{estelle}
use Rattle.text_reader.specs.Grammar.{rule}
use Rattle.text_productions.specs.Nodes as view
use Rattle.text_productions.specs.Productions as grammar
use Rattle.text_printer.proofs.stateset.several_statesets.Given as goal

abbrev pub invariant-loop-next : goal.invariant-loop-next
invariant-loop-next l = Turns estelle (rule grammar.stateset) (map view.a_state_set (take
    l.next-index l.next-items)) l.fn.printer l.printer
