use Rattle.run_make.specs.Words.{stream_at}
use Rattle.run_make.proofs.Drawing.{values_none, one_component, one_field, set_drawn}
use Rattle.run_make.proofs.Drawing.{array_drawn, record_drawn}
use Rattle.run_make.proofs.values.+drawing.Goals as goal

pub draw_components-loop-turn-init : goal.draw_components-loop-turn-init
draw_components-loop-turn-init t c =
    values_none (stream_at c.args.rng.now) c.in_ok-parts.parts c.in_ok-parts.ensures

pub draw_components-loop-turn-preserved : goal.draw_components-loop-turn-preserved
draw_components-loop-turn-preserved t c =
    one_component c.loop-turn._turn c.args.of.now (stream_at c.args.rng.now)
    (stream_at c.loop-turn.rng) (stream_at c.draw_value.new.rng) c.loop-turn.parts c.push.new.self
    c.in_ok-part.part c.loop-turn.invariant c.in_ok-part.ensures c.in_ok-push.ensures.ok

pub draw_fields-loop-field-init : goal.draw_fields-loop-field-init
draw_fields-loop-field-init t c =
    values_none (stream_at c.args.rng.now) c.in_ok-parts.parts c.in_ok-parts.ensures

pub draw_fields-loop-field-preserved : goal.draw_fields-loop-field-preserved
draw_fields-loop-field-preserved t c =
    one_field c.args.fields.now c.as_slice-field-items.result.now c.loop-field.field-index
    c.field-item.result
    (stream_at c.args.rng.now) (stream_at c.loop-field.rng) (stream_at c.draw_value.new.rng)
    c.loop-field.parts c.push.new.self c.in_ok-part.part c.as_slice-field-items.ensures
    c.loop-field-test.true c.field-item.is
    c.loop-field.invariant c.in_ok-part.ensures c.in_ok-push.ensures.ok

pub draw_value-returns-in_ok-members-in-SetOf-2 :
    goal.draw_value-returns-in_ok-members-in-SetOf-2
draw_value-returns-in_ok-members-in-SetOf-2 t c =
    set_drawn _ _ _ (stream_at c.args.rng.now)
    (stream_at c.draw_members.new.rng) c.in_ok-members-in-SetOf.members
    c.in_ok-members-in-SetOf-2.members c.in-SetOf.is c.get.ensures
    c.in_ok-members-in-SetOf.ensures c.in_ok-members-in-SetOf-2.ensures

pub draw_value-returns-in_ok-parts-in-ArrayOf : goal.draw_value-returns-in_ok-parts-in-ArrayOf
draw_value-returns-in_ok-parts-in-ArrayOf t c =
    array_drawn _ _ _ _ _ c.ordinal_count.result _ _ c.in_ok-parts-in-ArrayOf.parts
    c.in-ArrayOf.is c.get-in-ArrayOf.ensures c.get-in-ArrayOf-2.ensures c.ordinal_count.ensures
    c.in_ok-parts-in-ArrayOf.ensures

pub draw_value-returns-in_ok-parts-in-Fields : goal.draw_value-returns-in_ok-parts-in-Fields
draw_value-returns-in_ok-parts-in-Fields t c =
    record_drawn _ _ _ _ _ c.in_ok-parts-in-Fields.parts c.in-Fields.is c.get-in-Fields.ensures
    c.in_ok-parts-in-Fields.ensures
