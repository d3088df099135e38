-- Climbs and descents along attachments end.
use Rattle.std.specs.Prelude.{◌≡◌, ◌<◌, Some, None}
use Rattle.mean_blocks.specs.declared.situation.InteractionPoint.{InteractionPoint}
use Rattle.mean_blocks.specs.TextByPlace.{Text}
use Rattle.mean_blocks.specs.GlobalSituation.{Situation}
use Rattle.mean_blocks.specs.Attachments.{above, up, bottom}
use Rattle.law_runs.specs.AncestorLaws.{AreInAge}
use Rattle.law_runs.specs.OrderLaws.{LinkTheLiving}

-- Where parents are older than their children, a climb ends at an interaction point that is
-- attached to none of a parent.
abbrev pub ClimbsEnd : Type 0
ClimbsEnd = (t : Text) (s : Situation) (p : InteractionPoint) → AreInAge s.rows
    → above t s (up t s p) ≡ None

-- each attachment leads to a younger instance, as a child is
abbrev pub LeadToYounger : Situation → Type 0
LeadToYounger s = (p q : InteractionPoint) → s.down p ≡ Some q → p.instance < q.instance

-- Where attachments link living instances and lead to younger ones, a descent ends at an
-- interaction point to which none of a child is attached.
abbrev pub DescentsEnd : Type 0
DescentsEnd = (s : Situation) (p : InteractionPoint) → LinkTheLiving s.rows s.down
    → LeadToYounger s → s.down (bottom s p) ≡ None
