use Rattle.std.proofs.Common.{◌-◌, ◌/◌, ap, sym, subst, ◌∙◌, Some, arith, rules, w32}
use Rattle.std.proofs.Common.{FitsSigned}
use Rattle.std.proofs.lemmas.Int.{to_z-of_z}
use Rattle.std.proofs.lemmas.Option.{slice_get-get_or}
use Rattle.plain_outside.specs.inside.NumberedTuples.{IsTupleFrom}
use Rattle.plain_outside.proofs.NumberSteps.{tuple_step, tuple_past, no_tuples}
use Rattle.plain_outside.proofs.tuples.tuple_of.Goals as goal

pub returns-then-values-eq0 : goal.returns-then-values-eq0
returns-then-values-eq0 c =
    no_tuples c.args.kinds.now c.args.number (c.loop-i.i - 1) c.index-kinds-i.result
    (slice_get-get_or c.args.kinds.now (c.loop-i.i - 1) c.index-kinds-i.result (omega arith)
    ∙ ap Some (sym c.index-kinds-i.is)) (sym c.count-values.ensures ∙ c.if-values-eq0.true)

pub loop-i-preserved : goal.loop-i-preserved
loop-i-preserved c =
    let low_fits : FitsSigned w32 c.first_value.result = search rules in
    let fits : FitsSigned w32 c.in_ok-above.field-0 = search rules in
    subst (IsTupleFrom c.args.kinds.now c.args.number (c.loop-i.i - 1)
    (c.loop-i.rest / c.count-values.result)) (sym (simp to_z-of_z at c.in_ok-push.ensures.items))
    (tuple_step c.args.kinds.now c.args.number c.loop-i.i c.loop-i.rest c.loop-i.items.items
    c.index-kinds-i.result c.count-values.result _ _
    (omega arith) (omega arith) c.index-kinds-i.is
    c.count-values.ensures c.if-values-eq0.false c.first_value.ensures
    (simp to_z-of_z at c.in_ok-above.ensures.ok)
    c.loop-i.invariant)

pub returns-then-rest-ne0 : goal.returns-then-rest-ne0
returns-then-rest-ne0 c =
    tuple_past c.args.kinds.now c.args.number c.loop-i.i c.loop-i.rest c.loop-i.items.items
    c.loop-i-test.false (omega arith) c.loop-i.invariant
