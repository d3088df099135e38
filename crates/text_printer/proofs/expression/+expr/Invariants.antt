use Rattle.std.proofs.Common.{map, take}
use Rattle.text_printer.specs.Turns.{Turns}
use Rattle.text_printer.specs.PlainNodes.{estelle}
use Rattle.text_reader.specs.Grammar.{rule}
use Rattle.text_productions.specs.Nodes as view
use Rattle.text_productions.specs.Productions as grammar
use Rattle.est_lexer.specs.declared.kind.Symbol.TheVariants as symbols
use Rattle.text_printer.proofs.expression.+expr.Given as goal

abbrev pub invariant-exprs-loop-next : goal.invariant-exprs-loop-next
invariant-exprs-loop-next l = Turns estelle (grammar.symbol symbols.Comma (rule grammar.expr))
    (map view.an_expr (take l.next-index l.rest)) l.initial.printer l.printer

abbrev pub invariant-members-loop-next : goal.invariant-members-loop-next
invariant-members-loop-next l = Turns estelle (grammar.symbol symbols.Comma (rule grammar.member))
    (map view.a_member (take l.next-index l.rest)) l.initial.printer l.printer

abbrev pub invariant-product_steps-loop-next : goal.invariant-product_steps-loop-next
invariant-product_steps-loop-next l = Turns estelle grammar.product_step (map view.a_product_step
    (take l.next-index l.next-items)) l.fn.printer l.printer

abbrev pub invariant-sum_steps-loop-next : goal.invariant-sum_steps-loop-next
invariant-sum_steps-loop-next l = Turns estelle grammar.sum_step (map view.a_sum_step (take
    l.next-index l.next-items)) l.fn.printer l.printer

abbrev pub invariant-selectors-loop-next : goal.invariant-selectors-loop-next
invariant-selectors-loop-next l = Turns estelle (rule grammar.selector) (map view.a_selector (take
    l.next-index l.next-items)) l.fn.printer l.printer
