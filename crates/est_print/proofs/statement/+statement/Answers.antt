use Rattle.std.proofs.Common.{refl, sym, ◌∙◌}
use Rattle.text_printer.proofs.Printing.{take, take_sure, last, then, then_closed, here_prints}
use Rattle.text_printer.proofs.Printing.{in_first, in_second, opt_in, opt_out, deep, rule_prints}
use Rattle.text_printer.proofs.Printing.{part, before_else, else_in, else_out}
use Rattle.text_printer.proofs.Single.{name_prints}
use Rattle.text_printer.proofs.Lists.{one_turn, all_items, list_prints, closed_prints, all_closed}
use Rattle.text_printer.specs.Turns.{no_turn}
use Rattle.est_print.proofs.Others.{no_if, no_loop}
use Rattle.est_grammar.proofs.Made as made
use Rattle.text_productions.specs.Nodes as view
use Rattle.est_syntax.specs.declared.statement.Statement.TheViews as views
use Rattle.est_print.proofs.statement.+statement.Goals as goal

pub else_part-returns-in-None : goal.else_part-returns-in-None
else_part-returns-in-None t c = rw c.in-None.is else_out

pub statements-loop-next-init : goal.statements-loop-next-init
statements-loop-next-init t c = no_turn

pub statements-loop-next-preserved : goal.statements-loop-next-preserved
statements-loop-next-preserved t c = one_turn view.a_statement c.in-Some.rest.now
    c.loop-next.next-index c.next-item.result c.loop-next-test.true (sym c.next-item.is)
    c.loop-next.invariant (take refl c.symbol.ensures c.statement-in-loop-next.ensures)

pub statements-returns-after-loop-next : goal.statements-returns-after-loop-next
statements-returns-after-loop-next t c = list_prints view.a_statement c.args.items.now
    c.in-Some.rest.now c.in-Some.first.now (sym c.as_slice.ensures ∙ c.in-Some.ensures.cases.0)
    c.statement.ensures (all_items view.a_statement c.in-Some.rest.now c.in-Some.rest.now
    c.loop-next.next-index refl c.loop-next-test.false c.loop-next.invariant)

pub statement-returns-in-Empty : goal.statement-returns-in-Empty
statement-returns-in-Empty t c = part (rw c.in-Empty.is (sym (made.empty_made _))) (rw
    c.in-Empty.is (sym (made.empty_made _))) (rule_prints (here_prints opt_out c.in-Empty.place))

pub statement-returns-in-Compound : goal.statement-returns-in-Compound
statement-returns-in-Compound t c = part (rw c.in-Compound.is (sym (made.compound_made _ _))) (rw
    c.in-Compound.is (sym (made.compound_made _ _))) (rule_prints (here_prints (opt_in (in_first
    c.compound.ensures)) c.in-Compound.place))

pub statement-returns-in-Assign : goal.statement-returns-in-Assign
statement-returns-in-Assign t c = part (rw (c.in-Assign.is, c.get.ensures) (sym (made.assign_made
    _ _ _ _))) (rw (c.in-Assign.is, c.get.ensures) (sym (made.assign_made _ _ _ _))) (rule_prints
    (here_prints (opt_in (in_second (in_first c.assignment.ensures))) c.in-Assign.place))

pub statement-returns-in-Call : goal.statement-returns-in-Call
statement-returns-in-Call t c = part (rw c.in-Call.is (sym (made.call_made _ _ _))) (rw
    c.in-Call.is (sym (made.call_made _ _ _))) (rule_prints (here_prints (opt_in (in_second
    (in_first c.call.ensures))) c.in-Call.place))

pub statement-returns-in-If : goal.statement-returns-in-If
statement-returns-in-If t c = c.if_statement.ensures (rw (c.in-If.is, views.outs-If) tt)

pub statement-returns-in-Case : goal.statement-returns-in-Case
statement-returns-in-Case t c = part (rw (c.in-Case.is, c.get-in-Case.ensures) (sym
    (made.case_made _ _ _))) (rw (c.in-Case.is, c.get-in-Case.ensures) (sym (made.case_made _ _
    _))) (rule_prints (here_prints (opt_in (in_second (in_second (in_second (in_first
    c.case_statement.ensures))))) c.in-Case.place))

pub statement-returns-in-While : goal.statement-returns-in-While
statement-returns-in-While t c = c.loop_statement.ensures (rw (c.in-While.is, views.outs-While)
    tt)

pub statement-returns-in-Repeat : goal.statement-returns-in-Repeat
statement-returns-in-Repeat t c = c.loop_statement-in-Repeat.ensures (rw (
  c.in-Repeat.is,
  views.outs-Repeat,
) tt)

pub statement-returns-in-For : goal.statement-returns-in-For
statement-returns-in-For t c = c.loop_statement-in-For.ensures (rw (c.in-For.is, views.outs-For)
    tt)

pub statement-returns-in-All : goal.statement-returns-in-All
statement-returns-in-All t c = c.loop_statement-in-All.ensures (rw (c.in-All.is, views.outs-All)
    tt)

pub statement-estelle_statement-requires : goal.statement-estelle_statement-requires
statement-estelle_statement-requires t c = rw (c.in-Output.is, views.outs-Output) tt

pub statement-estelle_statement-requires-in-Init : goal.statement-estelle_statement-requires-in-Init
statement-estelle_statement-requires-in-Init t c = rw (c.in-Init.is, views.outs-Init) tt

pub statement-estelle_statement-requires-in-Release :
    goal.statement-estelle_statement-requires-in-Release
statement-estelle_statement-requires-in-Release t c = rw (c.in-Release.is, views.outs-Release) tt

pub statement-estelle_statement-requires-in-Connect :
    goal.statement-estelle_statement-requires-in-Connect
statement-estelle_statement-requires-in-Connect t c = rw (c.in-Connect.is, views.outs-Connect) tt

pub statement-estelle_statement-requires-in-Disconnect :
    goal.statement-estelle_statement-requires-in-Disconnect
statement-estelle_statement-requires-in-Disconnect t c = rw (
  c.in-Disconnect.is,
  views.outs-Disconnect,
) tt

pub statement-estelle_statement-requires-in-Attach :
    goal.statement-estelle_statement-requires-in-Attach
statement-estelle_statement-requires-in-Attach t c = rw (c.in-Attach.is, views.outs-Attach) tt

pub statement-estelle_statement-requires-in-Detach :
    goal.statement-estelle_statement-requires-in-Detach
statement-estelle_statement-requires-in-Detach t c = rw (c.in-Detach.is, views.outs-Detach) tt

pub loop_statement-returns-in-While : goal.loop_statement-returns-in-While
loop_statement-returns-in-While t c = λ _. part (rw (
  c.in-While.is,
  c.get.ensures,
  c.get-in-While.ensures,
) (sym (made.while_made _ _ _))) (rw (
  c.in-While.is,
  c.get.ensures,
  c.get-in-While.ensures,
) (sym (made.while_made _ _ _))) (rule_prints (here_prints (opt_in
    (in_second (in_second (in_second (in_second (in_first c.while_statement.ensures))))))
    c.in-While.place))

pub loop_statement-returns-in-Repeat : goal.loop_statement-returns-in-Repeat
loop_statement-returns-in-Repeat t c = λ _. part (rw (c.in-Repeat.is, c.get-in-Repeat.ensures)
    (sym (made.repeat_made _ _ _))) (rw (c.in-Repeat.is, c.get-in-Repeat.ensures) (sym
    (made.repeat_made _ _ _))) (rule_prints (here_prints (opt_in (in_second (in_second (in_second
    (in_second (in_second (in_first c.repeat_statement.ensures))))))) c.in-Repeat.place))

pub loop_statement-returns-in-For : goal.loop_statement-returns-in-For
loop_statement-returns-in-For t c = λ _. part (rw (
  c.in-For.is,
  c.get-in-For.ensures,
  c.get-in-For-2.ensures,
  c.get-in-For-3.ensures,
) (sym (made.for_made _ _ _ _ _ _))) (rw
    (c.in-For.is, c.get-in-For.ensures, c.get-in-For-2.ensures, c.get-in-For-3.ensures) (sym
    (made.for_made _ _ _ _ _ _))) (rule_prints (here_prints (opt_in (in_second (in_second
    (in_second (in_second (in_second (in_second (in_first c.for_statement.ensures))))))))
    c.in-For.place))

pub loop_statement-returns-in-All : goal.loop_statement-returns-in-All
loop_statement-returns-in-All t c = λ _. part (rw (
  c.in-All.is,
  c.get-in-All.ensures,
  c.get-in-All-2.ensures,
) (sym (made.all_made _ _ _ _))) (rw (
  c.in-All.is,
  c.get-in-All.ensures,
  c.get-in-All-2.ensures,
) (sym (made.all_made _ _ _ _))) (rule_prints (here_prints (opt_in
    (in_second (in_second (in_second (in_second (in_second (in_second (in_second (in_first
    c.all_statement.ensures))))))))) c.in-All.place))

pub compound-returns : goal.compound-returns
compound-returns t c = deep (take refl c.word.ensures (then c.statements.ensures (last refl
    c.word-2.ensures)))

pub if_statement-returns-in-If : goal.if_statement-returns-in-If
if_statement-returns-in-If t c = λ _. part (rw (c.in-If.is, c.get.ensures, c.get-in-If.ensures)
    (sym (made.if_made _ _ _ _))) (rw (c.in-If.is, c.get.ensures, c.get-in-If.ensures) (sym
    (made.if_made _ _ _ _))) (rule_prints (here_prints (opt_in (in_second (in_second (in_first
    (deep (take refl c.word.ensures (then c.expr.ensures (before_else refl c.word-in-If.ensures
    c.statement.ensures c.else_part.ensures)))))))) c.in-If.place))

pub if_statement-returns-in_default : goal.if_statement-returns-in_default
if_statement-returns-in_default t c = λ h. absurd (no_if c.args.done.now h c.in_default.not-If)

pub else_part-returns-in-Some : goal.else_part-returns-in-Some
else_part-returns-in-Some t c = rw (c.in-Some.is, ← c.get.ensures) (else_in c.word.ensures
    c.statement.ensures)

pub case_statement-returns : goal.case_statement-returns
case_statement-returns t c = deep (take refl c.word.ensures (then c.expr.ensures (take_sure refl
    c.word-2.ensures (then_closed c.arms.ensures (last refl c.word-3.ensures)))))

pub arms-loop-next-init : goal.arms-loop-next-init
arms-loop-next-init t c = no_turn

pub arms-loop-next-preserved : goal.arms-loop-next-preserved
arms-loop-next-preserved t c = one_turn view.an_arm c.in-Some.rest.now c.loop-next.next-index
    c.next-item.result c.loop-next-test.true (sym c.next-item.is) c.loop-next.invariant (take refl
    c.symbol.ensures c.arm-in-loop-next.ensures)

pub arms-returns-after-loop-next : goal.arms-returns-after-loop-next
arms-returns-after-loop-next t c = closed_prints view.an_arm c.args.items.now c.in-Some.rest.now
    c.in-Some.first.now (sym c.as_slice.ensures ∙ c.in-Some.ensures.cases.0) c.arm.ensures
    (all_closed view.an_arm c.in-Some.rest.now c.in-Some.rest.now c.loop-next.next-index refl
    c.loop-next-test.false c.loop-next.invariant)

pub arm-returns : goal.arm-returns
arm-returns t c = part refl refl (rule_prints (then c.constants.ensures (take refl
    c.symbol.ensures c.statement.ensures)))

pub while_statement-returns : goal.while_statement-returns
while_statement-returns t c = deep (take refl c.word.ensures (then c.expr.ensures (take refl
    c.word-2.ensures c.statement.ensures)))

pub repeat_statement-returns : goal.repeat_statement-returns
repeat_statement-returns t c = deep (take refl c.word.ensures (then c.statements.ensures (take
    refl c.word-2.ensures c.expr.ensures)))

pub for_statement-returns : goal.for_statement-returns
for_statement-returns t c = deep (take refl c.word.ensures (then (name_prints _ c.name.ensures)
    (take refl c.symbol.ensures (then c.expr.ensures (then c.direction.ensures (then
    c.expr-2.ensures (take refl c.word-2.ensures c.statement.ensures)))))))

pub all_statement-returns : goal.all_statement-returns
all_statement-returns t c = deep (take refl c.word.ensures (then (name_prints _ c.name.ensures)
    (take refl c.symbol.ensures (then (part refl refl c.shorttype.ensures) (take refl
    c.word-2.ensures c.statement.ensures)))))

pub loop_statement-returns-in_default : goal.loop_statement-returns-in_default
loop_statement-returns-in_default t c = λ h. absurd (no_loop c.args.done.now h
    c.in_default.not-While c.in_default.not-Repeat c.in_default.not-For c.in_default.not-All)
