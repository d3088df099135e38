-- Attachments of the interaction points of parents to those of children (ISO 9074, 5: attachments).
use Rattle.std.specs.Prelude.{ℕ, zero, suc, Bool, false, length, find, Option}
use Rattle.std.specs.Prelude.{option_and_then}
use Rattle.std.specs.Option.{option_map, option_map_or}
use Rattle.mean_blocks.specs.declared.situation.InteractionPoint.{InteractionPoint}
use Rattle.mean_blocks.specs.declared.situation.Row.{Row}
use Rattle.mean_blocks.specs.TextByPlace.{Text}
use Rattle.mean_blocks.specs.GlobalSituation.{is_point, Situation, row_of}
use Rattle.mean_blocks.specs.InstancePoints.{external_of}

-- whether an attachment, if there is one, leads to an interaction point
abbrev pub leads_to : InteractionPoint → Option InteractionPoint → Bool
leads_to p q = option_map_or (is_point p) q false

-- the parent of a living instance
abbrev pub parent_of : Situation → ℕ → Option ℕ
parent_of s n = option_map (λ (r : Row). r.parent) (row_of s n)

-- the interaction point of the parent that is attached to one of a child, if there is one
abbrev pub above : Text → Situation → InteractionPoint → Option InteractionPoint
above t s p = option_and_then
    (λ (n : ℕ). find (λ e. leads_to p (s.down e)) (external_of t.outline s n))
    (parent_of s p.instance)

-- from an interaction point along at most n steps, as long as there is one
abbrev pub follow : (InteractionPoint → Option InteractionPoint) → ℕ → InteractionPoint
    → InteractionPoint
follow next zero p = p
follow next (suc n) p = option_map_or (follow next n) (next p) p

-- up from an interaction point as long as it can; no chain has more steps than there are instances
abbrev pub up : Text → Situation → InteractionPoint → InteractionPoint
up t s p = follow (above t s) (length s.rows) p

-- down from an interaction point as long as it can, to the innermost one
abbrev pub bottom : Situation → InteractionPoint → InteractionPoint
bottom s p = follow s.down (length s.rows) p
