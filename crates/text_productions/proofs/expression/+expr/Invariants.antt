use Rattle.std.proofs.Common.{◌+◌, ◌*◌, map}
use Rattle.est_lexer.specs.declared.kind.Symbol.TheVariants as symbols
use Rattle.text_reader.specs.Grammar.{rule, rep}
use Rattle.text_reader.specs.Moving.{weight}
use Rattle.text_reader.proofs.Steps.{left_of}
use Rattle.text_reader.proofs.Turns.{Turning, Each}
use Rattle.text_productions.specs.Productions as grammar
use Rattle.text_productions.specs.Nodes as node
use Rattle.text_productions.proofs.Fits.{K}
use Rattle.text_productions.proofs.expression.+expr.Given as goal

abbrev pub invariant-exprs-loop-reader : goal.invariant-exprs-loop-reader
invariant-exprs-loop-reader l = Turning K (grammar.separated symbols.Comma (rule grammar.expr))
    (rep (grammar.symbol symbols.Comma (rule grammar.expr))) l.fn.reader
    (Each K (map node.an_expr l.items)) l.reader

abbrev pub decreases-exprs-loop-reader : goal.decreases-exprs-loop-reader
decreases-exprs-loop-reader l = left_of l.reader

abbrev pub invariant-sum_steps-loop-reader : goal.invariant-sum_steps-loop-reader
invariant-sum_steps-loop-reader l = Turning K (rep grammar.sum_step) (rep grammar.sum_step)
    l.fn.reader (Each K (map node.a_sum_step l.items)) l.reader

abbrev pub decreases-sum_steps-loop-reader : goal.decreases-sum_steps-loop-reader
decreases-sum_steps-loop-reader l = left_of l.reader

abbrev pub invariant-product_steps-loop-reader : goal.invariant-product_steps-loop-reader
invariant-product_steps-loop-reader l = Turning K (rep grammar.product_step)
    (rep grammar.product_step) l.fn.reader (Each K (map node.a_product_step l.items)) l.reader

abbrev pub decreases-product_steps-loop-reader : goal.decreases-product_steps-loop-reader
decreases-product_steps-loop-reader l = left_of l.reader

abbrev pub invariant-members-loop-reader : goal.invariant-members-loop-reader
invariant-members-loop-reader l = Turning K (grammar.separated symbols.Comma (rule grammar.member))
    (rep (grammar.symbol symbols.Comma (rule grammar.member))) l.fn.reader
    (Each K (map node.a_member l.items)) l.reader

abbrev pub decreases-members-loop-reader : goal.decreases-members-loop-reader
decreases-members-loop-reader l = left_of l.reader

abbrev pub invariant-selectors-loop-reader : goal.invariant-selectors-loop-reader
invariant-selectors-loop-reader l = Turning K (grammar.several (rule grammar.selector))
    (rep (rule grammar.selector)) l.fn.reader (Each K (map node.a_selector l.items)) l.reader

abbrev pub decreases-selectors-loop-reader : goal.decreases-selectors-loop-reader
decreases-selectors-loop-reader l = left_of l.reader

abbrev pub decreases-called : goal.decreases-called
decreases-called l = weight l.reader.now * 24 + 0

abbrev pub decreases-subscripts : goal.decreases-subscripts
decreases-subscripts l = weight l.reader.now * 24 + 1

abbrev pub decreases-group : goal.decreases-group
decreases-group l = weight l.reader.now * 24 + 2

abbrev pub decreases-negation : goal.decreases-negation
decreases-negation l = weight l.reader.now * 24 + 3

abbrev pub decreases-set : goal.decreases-set
decreases-set l = weight l.reader.now * 24 + 4

abbrev pub decreases-index : goal.decreases-index
decreases-index l = weight l.reader.now * 24 + 5

abbrev pub decreases-selector : goal.decreases-selector
decreases-selector l = weight l.reader.now * 24 + 6

abbrev pub decreases-selectors : goal.decreases-selectors
decreases-selectors l = weight l.reader.now * 24 + 7

abbrev pub decreases-variable_or_call : goal.decreases-variable_or_call
decreases-variable_or_call l = weight l.reader.now * 24 + 8

abbrev pub decreases-factor : goal.decreases-factor
decreases-factor l = weight l.reader.now * 24 + 9

abbrev pub decreases-product_step : goal.decreases-product_step
decreases-product_step l = weight l.reader.now * 24 + 10

abbrev pub decreases-product_steps : goal.decreases-product_steps
decreases-product_steps l = weight l.reader.now * 24 + 11

abbrev pub decreases-term : goal.decreases-term
decreases-term l = weight l.reader.now * 24 + 12

abbrev pub decreases-sum_step : goal.decreases-sum_step
decreases-sum_step l = weight l.reader.now * 24 + 13

abbrev pub decreases-sum_steps : goal.decreases-sum_steps
decreases-sum_steps l = weight l.reader.now * 24 + 14

abbrev pub decreases-simple : goal.decreases-simple
decreases-simple l = weight l.reader.now * 24 + 15

abbrev pub decreases-relation : goal.decreases-relation
decreases-relation l = weight l.reader.now * 24 + 16

abbrev pub decreases-expr : goal.decreases-expr
decreases-expr l = weight l.reader.now * 24 + 17

abbrev pub decreases-later_end : goal.decreases-later_end
decreases-later_end l = weight l.reader.now * 24 + 18

abbrev pub decreases-member : goal.decreases-member
decreases-member l = weight l.reader.now * 24 + 19

abbrev pub decreases-members : goal.decreases-members
decreases-members l = weight l.reader.now * 24 + 20

abbrev pub decreases-members_given : goal.decreases-members_given
decreases-members_given l = weight l.reader.now * 24 + 21

abbrev pub decreases-exprs : goal.decreases-exprs
decreases-exprs l = weight l.reader.now * 24 + 22
