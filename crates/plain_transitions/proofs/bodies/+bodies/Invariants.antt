use Rattle.std.proofs.Common.{◌≡◌, ◌++◌, drop}
use Rattle.std.specs.List.{flat_map}
use Rattle.est_meaning.specs.mean_blocks.TextByPlace.{parts_within}
use Rattle.plain_transitions.specs.inside.BodyTables.{bodies_held, bodies_in}
use Rattle.plain_transitions.proofs.bodies.+bodies.Given as goal

abbrev pub invariant-add_parts-loop-part : goal.invariant-add_parts-loop-part
invariant-add_parts-loop-part l = bodies_held l.into.items
    ++ bodies_in (flat_map parts_within (drop l.part-index l.parts))
    ≡ bodies_held l.fn.into.items ++ bodies_in (flat_map parts_within l.parts)
