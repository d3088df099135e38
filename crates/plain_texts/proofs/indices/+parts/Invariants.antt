use Rattle.std.proofs.Common.{take}
use Rattle.std.specs.List.{flat_map}
use Rattle.plain_declared.specs.mean_blocks.TextByPlace.{parts_within}
use Rattle.plain_texts.specs.PartIndices.{IsNoted}
use Rattle.plain_texts.proofs.indices.+parts.Given as goal

abbrev pub invariant-add_parts-loop-part : goal.invariant-add_parts-loop-part
invariant-add_parts-loop-part l =
    IsNoted (flat_map parts_within (take l.part-index l.parts)) l.fn.index l.index
