use Rattle.std.proofs.Common.{refl, sym, arith, ◌∙◌}
use Rattle.text_printer.proofs.Printing.{take, last, then, here_prints, in_first, in_second, opt_in}
use Rattle.text_printer.proofs.Printing.{opt_out, deep, rule_prints, part, shown}
use Rattle.text_printer.proofs.Single.{name_prints, number_prints, character_prints}
use Rattle.text_printer.proofs.Lists.{one_turn, all_items, all_several, list_prints}
use Rattle.text_printer.specs.Turns.{no_turn}
use Rattle.text_printer.proofs.Given.{some_members, some_selectors, no_members, no_selectors}
use Rattle.text_productions.proofs.Made as made
use Rattle.text_productions.specs.Nodes as view
use Rattle.text_printer.proofs.expression.+expr.Goals as goal

pub called-returns : goal.called-returns
called-returns t c = deep (take refl c.symbol.ensures (then c.exprs.ensures (last refl
    c.symbol-2.ensures)))

pub subscripts-returns : goal.subscripts-returns
subscripts-returns t c = deep (take refl c.symbol.ensures (then c.exprs.ensures (last refl
    c.symbol-2.ensures)))

pub group-returns : goal.group-returns
group-returns t c = deep (take refl c.symbol.ensures (then c.expr.ensures (last refl
    c.symbol-2.ensures)))

pub set-returns : goal.set-returns
set-returns t c = deep (take refl c.symbol.ensures (then c.members_given.ensures (last refl
    c.symbol-2.ensures)))

pub expr-returns : goal.expr-returns
expr-returns t c = part refl refl (rule_prints (here_prints (then c.simple.ensures
    c.relation.ensures) _))

pub factor-returns-in-Number : goal.factor-returns-in-Number
factor-returns-in-Number t c = part (rw c.in-Number.is (sym (made.number_made _ _))) (rw
    c.in-Number.is (sym (made.number_made _ _))) (rule_prints (here_prints (in_first
    (number_prints _ c.number.ensures)) c.in-Number.place))

pub factor-returns-in-Character : goal.factor-returns-in-Character
factor-returns-in-Character t c = part (rw c.in-Character.is (sym (made.character_made _ _))) (rw
    c.in-Character.is (sym (made.character_made _ _))) (rule_prints (here_prints (in_second
    (in_first (character_prints _ c.character.ensures))) c.in-Character.place))

pub factor-returns-in-Group : goal.factor-returns-in-Group
factor-returns-in-Group t c = part (rw (c.in-Group.is, c.get.ensures) (sym (made.group_made _ _)))
    (rw (c.in-Group.is, c.get.ensures) (sym (made.group_made _ _))) (rule_prints (here_prints
    (in_second (in_second (in_first c.group.ensures))) c.in-Group.place))

pub factor-returns-in-Not : goal.factor-returns-in-Not
factor-returns-in-Not t c = part (rw (c.in-Not.is, c.get-in-Not.ensures) (sym (made.not_made _
    _))) (rw (c.in-Not.is, c.get-in-Not.ensures) (sym (made.not_made _ _))) (rule_prints
    (here_prints (in_second (in_second (in_second (in_first (deep (take refl c.word.ensures
    c.factor.ensures)))))) c.in-Not.place))

pub factor-returns-in-Set : goal.factor-returns-in-Set
factor-returns-in-Set t c = part (rw c.in-Set.is (sym (made.set_of_made _ _))) (rw c.in-Set.is
    (sym (made.set_of_made _ _))) (rule_prints (here_prints (in_second (in_second (in_second
    (in_second (in_first c.set.ensures))))) c.in-Set.place))

pub factor-returns-in-Variable : goal.factor-returns-in-Variable
factor-returns-in-Variable t c = part (rw c.in-Variable.is (sym (made.variable_of_made _ _ _)))
    (rw c.in-Variable.is (sym (made.variable_of_made _ _ _))) (rule_prints (here_prints (in_second
    (in_second (in_second (in_second (in_second (then (name_prints c.in-Variable.name
    c.name.ensures) c.selectors_given.ensures)))))) c.in-Variable.place))

pub factor-returns-in-Call : goal.factor-returns-in-Call
factor-returns-in-Call t c = part (rw c.in-Call.is (sym (made.call_made _ _ _))) (rw c.in-Call.is
    (sym (made.call_made _ _ _))) (rule_prints (here_prints (in_second (in_second (in_second
    (in_second (in_second (then (name_prints c.in-Call.name c.name-in-Call.ensures) (opt_in
    (in_first c.called.ensures)))))))) c.in-Call.place))

pub later_end-returns-in-Some : goal.later_end-returns-in-Some
later_end-returns-in-Some t c = rw c.in-Some.is (opt_in (take refl c.symbol.ensures
    c.expr.ensures))

pub member-returns : goal.member-returns
member-returns t c = part refl refl (rule_prints (then c.expr.ensures c.later_end.ensures))

pub members_given-returns-then-len-gt0 : goal.members_given-returns-then-len-gt0
members_given-returns-then-len-gt0 t c = shown (some_members c.args.items.now (omega arith))
    (opt_in c.members.ensures)

pub members_given-returns-else-len-gt0 : goal.members_given-returns-else-len-gt0
members_given-returns-else-len-gt0 t c = shown (no_members c.args.items.now (omega arith)) opt_out

pub selectors_given-returns-then-len-gt0 : goal.selectors_given-returns-then-len-gt0
selectors_given-returns-then-len-gt0 t c = shown (some_selectors c.args.items.now (omega arith))
    (opt_in (in_second c.selectors.ensures))

pub selectors_given-returns-else-len-gt0 : goal.selectors_given-returns-else-len-gt0
selectors_given-returns-else-len-gt0 t c = shown (no_selectors c.args.items.now (omega arith))
    opt_out

pub product_step-returns : goal.product_step-returns
product_step-returns t c = part refl refl (then c.multiplying_operator.ensures c.factor.ensures)

pub sum_step-returns : goal.sum_step-returns
sum_step-returns t c = part refl refl (then c.adding_operator.ensures c.term.ensures)

pub relation-returns-in-Some : goal.relation-returns-in-Some
relation-returns-in-Some t c = rw c.in-Some.is (opt_in (then c.relational_operator.ensures
    c.simple.ensures))

pub selector-returns-in-Field : goal.selector-returns-in-Field
selector-returns-in-Field t c = part (rw c.in-Field.is (sym (made.field_of_made _))) (rw
    c.in-Field.is (sym (made.field_of_made _))) (rule_prints (in_first (take refl c.symbol.ensures
    (name_prints c.in-Field.name c.name.ensures))))

pub selector-returns-in-Index : goal.selector-returns-in-Index
selector-returns-in-Index t c = part (rw c.in-Index.is (sym (made.index_made _ _))) (rw
    c.in-Index.is (sym (made.index_made _ _))) (rule_prints (in_second (here_prints
    c.subscripts.ensures c.in-Index.place)))

pub simple-returns : goal.simple-returns
simple-returns t c = part refl refl (rule_prints (then c.sign_given.ensures (then c.term.ensures
    c.sum_steps.ensures)))

pub term-returns : goal.term-returns
term-returns t c = part refl refl (rule_prints (then c.factor.ensures c.product_steps.ensures))

pub exprs-loop-next-init : goal.exprs-loop-next-init
exprs-loop-next-init t c = no_turn

pub exprs-loop-next-preserved : goal.exprs-loop-next-preserved
exprs-loop-next-preserved t c = one_turn view.an_expr c.in-Some.rest.now c.loop-next.next-index
    c.next-item.result c.loop-next-test.true (sym c.next-item.is) c.loop-next.invariant (take refl
    c.symbol.ensures c.expr-in-loop-next.ensures)

pub exprs-returns-after-loop-next : goal.exprs-returns-after-loop-next
exprs-returns-after-loop-next t c = list_prints view.an_expr c.args.items.now c.in-Some.rest.now
    c.in-Some.first.now (sym c.as_slice.ensures ∙ c.in-Some.ensures.cases.0) c.expr.ensures
    (all_items view.an_expr c.in-Some.rest.now c.in-Some.rest.now c.loop-next.next-index refl
    c.loop-next-test.false c.loop-next.invariant)

pub members-loop-next-init : goal.members-loop-next-init
members-loop-next-init t c = no_turn

pub members-loop-next-preserved : goal.members-loop-next-preserved
members-loop-next-preserved t c = one_turn view.a_member c.in-Some.rest.now c.loop-next.next-index
    c.next-item.result c.loop-next-test.true (sym c.next-item.is) c.loop-next.invariant (take refl
    c.symbol.ensures c.member-in-loop-next.ensures)

pub members-returns-after-loop-next : goal.members-returns-after-loop-next
members-returns-after-loop-next t c = list_prints view.a_member c.args.items.now
    c.in-Some.rest.now c.in-Some.first.now (sym c.as_slice.ensures ∙ c.in-Some.ensures.cases.0)
    c.member.ensures (all_items view.a_member c.in-Some.rest.now c.in-Some.rest.now
    c.loop-next.next-index refl c.loop-next-test.false c.loop-next.invariant)

pub product_steps-loop-next-init : goal.product_steps-loop-next-init
product_steps-loop-next-init t c = no_turn

pub product_steps-loop-next-preserved : goal.product_steps-loop-next-preserved
product_steps-loop-next-preserved t c = one_turn view.a_product_step
    c.as_slice-next-items.result.now c.loop-next.next-index c.next-item.result
    c.loop-next-test.true (sym c.next-item.is) c.loop-next.invariant c.product_step.ensures

pub product_steps-returns : goal.product_steps-returns
product_steps-returns t c = all_items view.a_product_step c.as_slice-next-items.result.now
    c.args.items.now c.loop-next.next-index c.as_slice-next-items.ensures c.loop-next-test.false
    c.loop-next.invariant

pub sum_steps-loop-next-init : goal.sum_steps-loop-next-init
sum_steps-loop-next-init t c = no_turn

pub sum_steps-loop-next-preserved : goal.sum_steps-loop-next-preserved
sum_steps-loop-next-preserved t c = one_turn view.a_sum_step c.as_slice-next-items.result.now
    c.loop-next.next-index c.next-item.result c.loop-next-test.true (sym c.next-item.is)
    c.loop-next.invariant c.sum_step.ensures

pub sum_steps-returns : goal.sum_steps-returns
sum_steps-returns t c = all_items view.a_sum_step c.as_slice-next-items.result.now
    c.args.items.now c.loop-next.next-index c.as_slice-next-items.ensures c.loop-next-test.false
    c.loop-next.invariant

pub selectors-loop-next-init : goal.selectors-loop-next-init
selectors-loop-next-init t c = no_turn

pub selectors-loop-next-preserved : goal.selectors-loop-next-preserved
selectors-loop-next-preserved t c = one_turn view.a_selector c.as_slice-next-items.result.now
    c.loop-next.next-index c.next-item.result c.loop-next-test.true (sym c.next-item.is)
    c.loop-next.invariant c.selector.ensures

pub selectors-returns : goal.selectors-returns
selectors-returns t c = all_several view.a_selector c.as_slice-next-items.result.now
    c.args.items.now c.loop-next.next-index c.as_slice-next-items.ensures c.loop-next-test.false
    c.loop-next.invariant

pub relation-returns-in-None : goal.relation-returns-in-None
relation-returns-in-None t c = rw c.in-None.is opt_out

pub later_end-returns-in-None : goal.later_end-returns-in-None
later_end-returns-in-None t c = rw c.in-None.is opt_out
