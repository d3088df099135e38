-- Links that are made and undone (ISO 9074, connect-, disconnect-, attach- and detach-statement).
use Rattle.std.specs.Prelude.{ℕ, Bool, ◌||◌, nat_eq, List, Option, Some, None, is_some}
use Rattle.std.specs.Prelude.{Result, Ok, Err, if◌then◌else◌}
use Rattle.std.specs.List.{fold}
use Rattle.mean_blocks.specs.declared.fault.BlockFault.{BlockFault}
use Rattle.mean_blocks.specs.declared.fault.BlockFault.TheVariants.{LinkTaken, SelfLink}
use Rattle.mean_blocks.specs.declared.situation.InteractionPoint.{InteractionPoint}
use Rattle.mean_blocks.specs.TextByPlace.{Text}
use Rattle.mean_blocks.specs.GlobalSituation.{Map, is_point, Situation}
use Rattle.mean_blocks.specs.Attachments.{above, bottom}
use Rattle.mean_blocks.specs.QueueEffects.{moved}

-- links of which that of one interaction point leads to another, or nowhere
abbrev pub with_point : InteractionPoint → Option InteractionPoint
    → Map InteractionPoint InteractionPoint → Map InteractionPoint InteractionPoint
with_point p q m = λ x. if is_point p x then q else m x

-- whether an end is taken: it has a connection, or an attachment to its parent
abbrev pub is_taken : Text → Situation → InteractionPoint → Bool
is_taken t s p = is_some (s.peer p) || is_some (above t s p)

-- two interaction points are connected
abbrev pub connected : Text → InteractionPoint → InteractionPoint → Situation
    → Result Situation BlockFault
connected t p q s = if is_point p q then Err SelfLink else
    (if is_taken t s p || is_taken t s q then Err LinkTaken else
    Ok (record s { peer = with_point p (Some q) (with_point q (Some p) s.peer) }))

-- An interaction point of this instance is attached to one of a child: its items go to the
-- innermost point below that.
abbrev pub attached : Text → InteractionPoint → InteractionPoint → Situation
    → Result Situation BlockFault
attached t e c s = if is_some (s.down e) || is_taken t s c then Err LinkTaken else
    Ok (record (moved t e (bottom s c) s) { down = with_point e (Some c) s.down })

-- an interaction point and that to which it is connected, if it is, are connected no more
abbrev pub parted : InteractionPoint → Option InteractionPoint → Situation → Situation
parted p None s = s
parted p (Some q) s = record s { peer = with_point p None (with_point q None s.peer) }

-- an interaction point has no connection any more
abbrev pub disconnected : InteractionPoint → Situation → Situation
disconnected p s = parted p (s.peer p) s

-- an attachment ends, if there is one: the items of the innermost point below come back
abbrev pub loosened : Text → InteractionPoint → Option InteractionPoint → Situation → Situation
loosened t e None s = s
loosened t e (Some c) s = record (moved t (bottom s e) e s) { down = with_point e None s.down }

-- an interaction point is attached to none of a child any more
abbrev pub detached : Text → InteractionPoint → Situation → Situation
detached t e s = loosened t e (s.down e) s

-- the interaction point of the parent, if there is one, is attached no more
abbrev pub detached_from : Text → Option InteractionPoint → Situation → Situation
detached_from t None s = s
detached_from t (Some e) s = detached t e s

-- that of the parent that is attached to an interaction point
abbrev pub detached_above : Text → InteractionPoint → Situation → Situation
detached_above t p s = detached_from t (above t s p) s

-- an interaction point of this instance, or one of a child, is detached
abbrev pub detached_end : Text → ℕ → InteractionPoint → Situation → Situation
detached_end t n p s = if nat_eq n p.instance then detached t p s else detached_above t p s

-- each interaction point is changed in order
abbrev pub each : (InteractionPoint → Situation → Situation) → List InteractionPoint → Situation
    → Situation
each change ps s = fold (λ s p. change p s) s ps
