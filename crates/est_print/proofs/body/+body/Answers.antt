use Rattle.std.proofs.Common.{refl, sym, ap}
use Rattle.text_printer.proofs.Printing.{take, last, then, in_first, in_second, deep, rule_prints}
use Rattle.text_printer.proofs.Printing.{part, shown}
use Rattle.text_printer.proofs.Single.{name_prints}
use Rattle.text_printer.proofs.Lists.{one_turn, all_items}
use Rattle.text_printer.specs.Turns.{no_turn}
use Rattle.text_productions.specs.Nodes as view
use Rattle.est_syntax.specs.declared.body.Part.TheViews as forms
use Rattle.est_print.proofs.body.+body.Goals as goal

pub common-returns-in-Consts : goal.common-returns-in-Consts
common-returns-in-Consts t c = shown (rw c.in-Consts.is (sym (ap view.common_part
    (forms.outs-Consts _)))) (rule_prints (in_first c.consts.ensures))

pub body_part-returns-in-Consts : goal.body_part-returns-in-Consts
body_part-returns-in-Consts t c = part (rw (c.in-Consts.is, forms.outs-Consts) refl) (rw
    (c.in-Consts.is, forms.outs-Consts) refl) (in_first c.common.ensures)

pub common-returns-in-Types : goal.common-returns-in-Types
common-returns-in-Types t c = shown (rw c.in-Types.is (sym (ap view.common_part (forms.outs-Types
    _)))) (rule_prints (in_second (in_first c.types.ensures)))

pub body_part-returns-in-Types : goal.body_part-returns-in-Types
body_part-returns-in-Types t c = part (rw (c.in-Types.is, forms.outs-Types) refl) (rw
    (c.in-Types.is, forms.outs-Types) refl) (in_first c.common-in-Types.ensures)

pub common-returns-in-Channel : goal.common-returns-in-Channel
common-returns-in-Channel t c = shown (rw c.in-Channel.is (sym (ap view.common_part
    (forms.outs-Channel _)))) (rule_prints (in_second (in_second (in_first c.channel.ensures))))

pub body_part-returns-in-Channel : goal.body_part-returns-in-Channel
body_part-returns-in-Channel t c = part (rw (c.in-Channel.is, forms.outs-Channel) refl) (rw
    (c.in-Channel.is, forms.outs-Channel) refl) (in_first c.common-in-Channel.ensures)

pub common-returns-in-Header : goal.common-returns-in-Header
common-returns-in-Header t c = shown (rw c.in-Header.is (sym (ap view.common_part
    (forms.outs-Header _)))) (rule_prints (in_second (in_second (in_second (in_first
    c.header.ensures)))))

pub body_part-returns-in-Header : goal.body_part-returns-in-Header
body_part-returns-in-Header t c = part (rw (c.in-Header.is, forms.outs-Header) refl) (rw
    (c.in-Header.is, forms.outs-Header) refl) (in_first c.common-in-Header.ensures)

pub common-returns-in-Body : goal.common-returns-in-Body
common-returns-in-Body t c = shown (rw c.in-Body.is (sym (ap view.common_part (forms.outs-Body
    _)))) (rule_prints (in_second (in_second (in_second (in_second (in_first c.body.ensures))))))

pub body_part-returns-in-Body : goal.body_part-returns-in-Body
body_part-returns-in-Body t c = part (rw (c.in-Body.is, forms.outs-Body) refl) (rw (
  c.in-Body.is,
  forms.outs-Body,
) refl) (in_first c.common-in-Body.ensures)

pub common-returns-in-Routine : goal.common-returns-in-Routine
common-returns-in-Routine t c = shown (rw c.in-Routine.is (sym (ap view.common_part
    (forms.outs-Routine _)))) (rule_prints (in_second (in_second (in_second (in_second (in_second
    (in_first c.routine.ensures)))))))

pub body_part-returns-in-Routine : goal.body_part-returns-in-Routine
body_part-returns-in-Routine t c = part (rw (c.in-Routine.is, forms.outs-Routine) refl) (rw
    (c.in-Routine.is, forms.outs-Routine) refl) (in_first c.common-in-Routine.ensures)

pub common-returns-in-Modvars : goal.common-returns-in-Modvars
common-returns-in-Modvars t c = shown (rw c.in-Modvars.is (sym (ap view.common_part
    (forms.outs-Modvars _)))) (rule_prints (in_second (in_second (in_second (in_second (in_second
    (in_second c.modvars.ensures)))))))

pub body_part-returns-in-Modvars : goal.body_part-returns-in-Modvars
body_part-returns-in-Modvars t c = part (rw (c.in-Modvars.is, forms.outs-Modvars) refl) (rw
    (c.in-Modvars.is, forms.outs-Modvars) refl) (in_first c.common-in-Modvars.ensures)

pub body_part-returns-in-Points : goal.body_part-returns-in-Points
body_part-returns-in-Points t c = part (rw (c.in-Points.is, forms.outs-Points) refl) (rw
    (c.in-Points.is, forms.outs-Points) refl) (in_second c.own.ensures)

pub body_part-returns-in-Vars : goal.body_part-returns-in-Vars
body_part-returns-in-Vars t c = part (rw (c.in-Vars.is, forms.outs-Vars) refl) (rw (
  c.in-Vars.is,
  forms.outs-Vars,
) refl) (in_second c.own-in-Vars.ensures)

pub body_part-returns-in-States : goal.body_part-returns-in-States
body_part-returns-in-States t c = part (rw (c.in-States.is, forms.outs-States) refl) (rw
    (c.in-States.is, forms.outs-States) refl) (in_second c.own-in-States.ensures)

pub body_part-returns-in-StateSets : goal.body_part-returns-in-StateSets
body_part-returns-in-StateSets t c = part (rw (c.in-StateSets.is, forms.outs-StateSets) refl) (rw
    (c.in-StateSets.is, forms.outs-StateSets) refl) (in_second c.own-in-StateSets.ensures)

pub body-returns : goal.body-returns
body-returns t c = part refl refl (rule_prints (deep (take refl c.word.ensures (then (name_prints
    _ c.name.ensures) (take refl c.word-2.ensures (then (name_prints _ c.name-2.ensures) (take
    refl c.symbol.ensures (then c.body_parts.ensures (then c.first_part.ensures (then
    c.transparts.ensures (take refl c.word-3.ensures (last refl c.symbol-2.ensures))))))))))))

pub body_parts-loop-next-init : goal.body_parts-loop-next-init
body_parts-loop-next-init t c = no_turn

pub body_parts-loop-next-preserved : goal.body_parts-loop-next-preserved
body_parts-loop-next-preserved t c = one_turn view.a_body_part c.as_slice-next-items.result.now
    c.loop-next.next-index c.next-item.result c.loop-next-test.true (sym c.next-item.is)
    c.loop-next.invariant c.body_part.ensures

pub body_parts-returns : goal.body_parts-returns
body_parts-returns t c = all_items view.a_body_part c.as_slice-next-items.result.now
    c.args.items.now c.loop-next.next-index c.as_slice-next-items.ensures c.loop-next-test.false
    c.loop-next.invariant
