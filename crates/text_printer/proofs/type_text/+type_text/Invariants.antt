use Rattle.std.proofs.Common.{map, take}
use Rattle.text_printer.specs.Turns.{Turns}
use Rattle.text_printer.specs.PlainNodes.{estelle}
use Rattle.text_reader.specs.Grammar.{rule}
use Rattle.text_productions.specs.Nodes as view
use Rattle.text_productions.specs.Productions as grammar
use Rattle.est_lexer.specs.declared.kind.Symbol.TheVariants as symbols
use Rattle.text_printer.proofs.type_text.+type_text.Given as goal

abbrev pub invariant-typetexts-loop-next : goal.invariant-typetexts-loop-next
invariant-typetexts-loop-next l = Turns estelle (grammar.symbol symbols.Comma (rule
    grammar.typetext)) (map view.a_type (take l.next-index l.rest)) l.initial.printer l.printer

abbrev pub invariant-fields-loop-next : goal.invariant-fields-loop-next
invariant-fields-loop-next l = Turns estelle (grammar.symbol symbols.Semicolon grammar.field) (map
    view.a_field (take l.next-index l.rest)) l.initial.printer l.printer
