use Rattle.plain_transitions.specs.inside.BodyTables.{bodies_held}
use Rattle.plain_transitions.proofs.BodyLaws.{body_listed, part_next, held_push}
use Rattle.plain_transitions.proofs.bodies.+bodies.Goals as goal

pub add_part-returns-in_ok-add_parts-in-Body : goal.add_part-returns-in_ok-add_parts-in-Body
add_part-returns-in_ok-add_parts-in-Body t c =
    body_listed c.args.part.now c.in-Body.body (bodies_held c.args.into.now.items)
    (bodies_held c.push.new.self.items) (bodies_held c.add_parts.new.into.items)
    c.as_slice.result.now c.in-Body.is c.as_slice.ensures
    (held_push c.args.into.now.items c.push.new.self.items _
    c.in_ok-push-in-Body.ensures.items) c.in_ok-add_parts-in-Body.ensures

pub add_parts-loop-part-preserved : goal.add_parts-loop-part-preserved
add_parts-loop-part-preserved t c = part_next c.args.parts.now c.loop-part.part-index
    c.part-item.result _ (bodies_held c.loop-part.into.items)
    (bodies_held c.add_part.new.into.items) c.loop-part-test.true c.part-item.is
    c.loop-part.invariant c.in_ok-add_part.ensures
