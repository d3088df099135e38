use Rattle.std.proofs.Common.{◌≡◌, ◌∷◌, [], drop}
use Rattle.plain_texts.specs.mean_blocks.InstanceEffects.{descendants}
use Rattle.plain_births.proofs.losses.descendants.Given as goal

-- the rows that are left lead to where all lead
abbrev pub invariant-loop-row : goal.invariant-loop-row
invariant-loop-row l =
    descendants l.gone (drop l.row-index l.row-items) ≡ descendants (l.instance ∷ []) l.rows
