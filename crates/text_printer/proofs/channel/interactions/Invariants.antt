use Rattle.std.proofs.Common.{map, take}
use Rattle.text_printer.specs.Turns.{Turns}
use Rattle.text_printer.specs.PlainNodes.{estelle}
use Rattle.text_reader.specs.Grammar.{rule}
use Rattle.text_productions.specs.Nodes as view
use Rattle.text_productions.specs.Productions as grammar
use Rattle.text_printer.proofs.channel.interactions.Given as goal

abbrev pub invariant-loop-next : goal.invariant-loop-next
invariant-loop-next l = Turns estelle (rule grammar.interaction) (map view.an_interaction (take
    l.next-index l.next-items)) l.fn.printer l.printer
