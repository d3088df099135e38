use Rattle.std.proofs.Common.{map, take}
use Rattle.text_printer.specs.Turns.{Turns}
use Rattle.text_printer.specs.PlainNodes.{estelle}
use Rattle.text_reader.specs.Grammar.{rule}
use Rattle.text_productions.specs.Nodes as view
use Rattle.text_productions.specs.Productions as grammar
use Rattle.text_printer.proofs.declaration.constdefs.Given as goal

abbrev pub invariant-loop-next : goal.invariant-loop-next
invariant-loop-next l = Turns estelle (rule grammar.constdef) (map view.a_constant_definition
    (take l.next-index l.next-items)) l.fn.printer l.printer
