use Rattle.std.proofs.Common.{map, take}
use Rattle.text_printer.specs.Turns.{Turns}
use Rattle.text_printer.specs.PlainNodes.{estelle}
use Rattle.text_reader.specs.Grammar.{rule}
use Rattle.text_productions.specs.Nodes as view
use Rattle.text_productions.specs.Productions as grammar
use Rattle.est_lexer.specs.declared.kind.Symbol.TheVariants as symbols
use Rattle.est_print.proofs.statement.+statement.Given as goal

abbrev pub invariant-statements-loop-next : goal.invariant-statements-loop-next
invariant-statements-loop-next l = Turns estelle (grammar.symbol symbols.Semicolon (rule
    grammar.statement)) (map view.a_statement (take l.next-index l.rest)) l.initial.printer
    l.printer

abbrev pub invariant-arms-loop-next : goal.invariant-arms-loop-next
invariant-arms-loop-next l = Turns estelle (grammar.symbol symbols.Semicolon (rule grammar.arm))
    (map view.an_arm (take l.next-index l.rest)) l.initial.printer l.printer
