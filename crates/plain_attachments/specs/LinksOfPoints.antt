-- Links between interaction points, and those that attach them.
use Rattle.plain_texts.specs.mean_blocks.declared.situation.InteractionPoint.{InteractionPoint}
use Rattle.plain_systems.specs.declared.system.Link.{Link}
use Rattle.std.specs.Prelude.{ℕ, find, Option}
use Rattle.plain_texts.specs.mean_blocks.TextByPlace.{Text}
use Rattle.plain_texts.specs.mean_blocks.GlobalSituation.{Situation}
use Rattle.plain_texts.specs.mean_blocks.InstancePoints.{external_of}
use Rattle.plain_texts.specs.mean_blocks.Attachments.{leads_to}

-- a link between two interaction points
abbrev pub link_between : InteractionPoint → InteractionPoint → Link
link_between p q = record { from = p; to = q }

-- the external interaction point of an instance that is attached to one of a child
abbrev pub above_in : Text → Situation → ℕ → InteractionPoint → Option InteractionPoint
above_in t s n p = find (λ e. leads_to p (s.down e)) (external_of t.outline s n)
