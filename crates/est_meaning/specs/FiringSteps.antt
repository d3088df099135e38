-- Steps, and how a system begins (ISO 9074, 5: next-situation relation, initial situations).
use Rattle.std.specs.Prelude.{◌≡◌, ℕ, List, [], ◌∷◌, ◌++◌, map, Option, Some, None, option_and_then}
use Rattle.std.specs.Option.{option_map_or}
use Rattle.est_syntax.specs.declared.body.Block.{out-Block}
use Rattle.mean_blocks.specs.rule_scope.declared.declaration.Sort.TheVariants as sort
use Rattle.mean_blocks.specs.rule_scope.Outline.{Outline}
use Rattle.mean_blocks.specs.declared.fault.BlockFault.TheVariants.{Undefined}
use Rattle.mean_blocks.specs.declared.situation.InteractionPoint.{InteractionPoint}
use Rattle.mean_blocks.specs.Outcome.{Outcome, Done, Fault, Limit}
use Rattle.mean_blocks.specs.TextByPlace.{Text}
use Rattle.mean_blocks.specs.GlobalSituation.{Frame, Situation, with_row}
use Rattle.mean_blocks.specs.NamesInRuns.{declared_at, places_of}
use Rattle.mean_blocks.specs.WorkingState.{View}
use Rattle.mean_blocks.specs.FunctionCalls.{unset}
use Rattle.mean_blocks.specs.QueueEffects.{without_head}
use Rattle.mean_blocks.specs.OutputEffects.{Sent}
use Rattle.mean_blocks.specs.InstanceEffects.{in_state}
use Rattle.mean_blocks.specs.BlockLevels.{block_meaning}
use Rattle.mean_blocks.specs.StartMeaning.{start_before}
use Rattle.est_meaning.specs.declared.event.Event.{Event}
use Rattle.est_meaning.specs.declared.firing.Firing.{Firing}
use Rattle.est_meaning.specs.ClauseContexts.{FullTransition, when_of, to_of}
use Rattle.est_meaning.specs.TransitionChoices.{Choice, choice_of}
use Rattle.est_meaning.specs.GuardParts.{awaited_point, view_of}
use Rattle.est_meaning.specs.TransitionSelection.{IsPossible}
use Rattle.est_meaning.specs.DelayStamps.{restamped}
use Rattle.est_meaning.specs.OutsideEvents.{departures}

-- THE EXECUTION OF A TRANSITION

-- the interaction point at which a choice awaits an interaction, if it does. Its subscripts count
-- nothing in the block.
abbrev pub taking_point : ℕ → Text → Situation → Choice → Option InteractionPoint
taking_point limit t s c = option_and_then (awaited_point limit t s c) (when_of c.transition)

-- the situation without the item that a choice awaits, if it awaits one
abbrev pub without_awaited : ℕ → Text → Situation → Choice → Situation
without_awaited limit t s c = option_map_or (λ p. without_head t p s) (taking_point limit t s c) s

-- the variables of the block of a transition, which begin undefined
abbrev pub block_frame : Outline → FullTransition → Frame
block_frame o x = map (unset o) (places_of o sort.Variable (out-Block x.block).place)

-- what the block of a choice does, which sees what its guard does and its own variables, under a
-- limit of statements for itself
abbrev pub performed_in : ℕ → Text → Situation → Choice → View → Outcome Sent (Unit {0})
performed_in limit t s c v = block_meaning t c.row.number
    (v.frames ++ block_frame t.outline c.transition ∷ [])
    (out-Block c.transition.block).statements limit (without_awaited limit t s c)

-- the situation with the next state of an instance, if the transition names one
abbrev pub with_next_state : Text → Choice → Situation → Situation
with_next_state t c s = with_row c.row.number
    (in_state (option_and_then (declared_at t.outline) (to_of c.transition))) s

-- after the block of a firing the next state is set, and then the stamps are brought up to date
abbrev pub completed : ℕ → Text → Firing → Choice → Situation → Situation
completed limit t f c s = restamped limit t (Some f) (with_next_state t c s)

-- what comes of a block whose situation is brought to an end: that, and the events of what was sent
-- out of the system
abbrev pub finished : Text → (Situation → Situation) → Outcome Sent (Unit {0})
    → Outcome Situation (List Event)
finished t finish (Done u x) = Done (departures t x.outs) (finish x.situation)
finished t finish (Fault f) = Fault f
finished t finish Limit = Limit

-- what comes of a choice whose `from` and `when` hold (ISO 9074, 5: execution of a transition)
abbrev pub fired_in : ℕ → Text → Situation → Firing → Choice → View → Outcome Situation (List Event)
fired_in limit t s f c v = finished t (completed limit t f c) (performed_in limit t s c v)

-- what comes of a choice; of one whose `from` or `when` fails nothing is meant
abbrev pub fired_by : ℕ → Text → Situation → Firing → Choice → Outcome Situation (List Event)
fired_by limit t s f c =
    option_map_or (fired_in limit t s f c) (view_of limit t s c) (Fault Undefined)

-- what comes of a firing; of one that is not possible nothing is meant
unfoldable pub outcome : ℕ → Text → Situation → Firing → Outcome Situation (List Event)
outcome limit t s f = option_map_or (fired_by limit t s f) (choice_of t s f) (Fault Undefined)

-- a step: a possible firing whose block is done, with the next situation and the outside events
-- (ISO 9074, 5: next-situation relation)
pub record IsStep (limit : ℕ) (t : Text) (s : Situation) (f : Firing) (next : Situation)
    (outs : List Event) : Type 0 where
  pub possible : IsPossible limit t s f
  pub done : outcome limit t s f ≡ Done outs next

-- THE START

-- what comes of the one `init` of a specification, under one limit of statements for all that it
-- begins, and with the stamps that are made then (ISO 9074, 5: initial situations)
unfoldable pub start_of : ℕ → Text → Outcome Situation (List Event)
start_of limit t = finished t (restamped limit t None) (start_before t limit)
