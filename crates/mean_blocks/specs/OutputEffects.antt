-- What an output does (ISO 9074, output-statement).
use Rattle.std.specs.Prelude.{Bool, List, [], ◌∷◌, ◌++◌, Option, Some, None, if◌then◌else◌}
use Rattle.std.specs.List.{list_any}
use Rattle.mean_blocks.specs.declared.situation.InteractionPoint.{InteractionPoint}
use Rattle.mean_blocks.specs.declared.situation.Item.{Item}
use Rattle.mean_blocks.specs.TextByPlace.{Text}
use Rattle.mean_blocks.specs.GlobalSituation.{is_point, Situation}
use Rattle.mean_blocks.specs.InstancePoints.{external_of}
use Rattle.mean_blocks.specs.Attachments.{up, bottom}
use Rattle.mean_blocks.specs.QueueEffects.{appended, passed_to}

-- a situation, with what was sent out of the system so far
pub record Sent : Type 0 where
  pub situation : Situation
  pub outs : List Item

-- whether an interaction point is an external one of the root, which is instance 1
abbrev pub is_outside : Text → Situation → InteractionPoint → Bool
is_outside t s p = list_any (is_point p) (external_of t.outline s 1)

-- an item goes into the queue of the innermost interaction point below one
abbrev pub delivered_at : Text → InteractionPoint → Item → Situation → Situation
delivered_at t p i s = appended t (bottom s p) (passed_to (bottom s p) i ∷ []) s

-- An interaction that arrives at an external interaction point of the root goes down from it as one
-- that is sent does.
abbrev pub arrived : Text → InteractionPoint → Item → Situation → Situation
arrived t p i s = delivered_at t p i s

-- An output from the top of its climb: it crosses a connection, where there is one, and goes down;
-- else it leaves at an external interaction point of the root, and is lost elsewhere.
abbrev pub crossed : Text → Item → InteractionPoint → Option InteractionPoint → Sent → Sent
crossed t i q (Some other) x = record x { situation = delivered_at t other i x.situation }
crossed t i q None x = if is_outside t x.situation q
    then record x { outs = x.outs ++ passed_to q i ∷ [] } else x

-- an output, which climbs from the interaction point that its item is at
abbrev pub sent : Text → Item → Sent → Sent
sent t i x = let q = up t x.situation i.at in crossed t i q (x.situation.peer q) x
