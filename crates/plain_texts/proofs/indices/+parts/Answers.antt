use Rattle.plain_texts.proofs.PartLaws.{body_noted, noted_more}
use Rattle.plain_texts.proofs.indices.+parts.Goals as goal

pub add_part-returns-in_ok-add_parts-in-Body : goal.add_part-returns-in_ok-add_parts-in-Body
add_part-returns-in_ok-add_parts-in-Body t c =
    body_noted c.args.part.now c.in-Body.body c.args.index.now
    c.add_body.new.index c.add_parts.new.index c.as_slice.result.now c.in-Body.is c.as_slice.ensures
    c.in_ok-add_body-in-Body.ensures c.in_ok-add_parts-in-Body.ensures

pub add_parts-loop-part-preserved : goal.add_parts-loop-part-preserved
add_parts-loop-part-preserved t c = noted_more c.args.parts.now c.loop-part.part-index
    c.part-item.result c.args.index.now c.loop-part.index c.add_part.new.index
    c.loop-part-test.true c.part-item.is c.loop-part.invariant c.in_ok-add_part.ensures
