use Rattle.std.proofs.Common.{◌≡◌}
use Rattle.plain_texts.specs.mean_blocks.Attachments.{follow}
use Rattle.plain_systems.specs.HeldSystems.{linked}
use Rattle.plain_attachments.proofs.attachments.followed.Given as goal

-- the steps that are left lead to the end
abbrev pub invariant-loop-left : goal.invariant-loop-left
invariant-loop-left l =
    follow (linked l.links) l.left l.at ≡ follow (linked l.links) l.steps l.point

-- one step less is left
abbrev pub decreases-loop-left : goal.decreases-loop-left
decreases-loop-left l = l.left
