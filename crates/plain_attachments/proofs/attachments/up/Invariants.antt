use Rattle.std.proofs.Common.{◌≡◌}
use Rattle.plain_texts.specs.mean_blocks.Attachments.{above, follow, up}
use Rattle.plain_systems.specs.HeldSystems.{situation_of}
use Rattle.plain_attachments.proofs.attachments.up.Given as goal

-- the steps that are left lead to the top
abbrev pub invariant-loop-left : goal.invariant-loop-left
invariant-loop-left l =
    follow (above l.text (situation_of l.system)) l.left l.at
    ≡ up l.text (situation_of l.system) l.point

-- one step less is left
abbrev pub decreases-loop-left : goal.decreases-loop-left
decreases-loop-left l = l.left
