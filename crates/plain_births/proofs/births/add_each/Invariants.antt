use Rattle.std.proofs.Common.{◌≡◌, ◌++◌, map, take}
use Rattle.plain_texts.specs.mean_blocks.InstanceEffects.{empty_element}
use Rattle.plain_births.proofs.births.add_each.Given as goal

-- so many elements are added
abbrev pub invariant-loop-index : goal.invariant-loop-index
invariant-loop-index l =
    l.holdings ≡ l.fn.holdings ++ map (empty_element l.declared) (take l.index-index l.indices)
