-- Runs of a specification along a trace.
--
-- These definitions read a run from its last move back to its first, so that `m ∷ earlier` is the
-- run `earlier` with one more move m.
use Rattle.std.specs.Prelude.{◌≡◌, ℕ, ◌+◌, ◌≤◌, ◌⊎◌, IsTrue, List, [], ◌∷◌, ◌++◌, length, take}
use Rattle.est_syntax.specs.declared.specification.Spec.{Spec}
use Rattle.mean_blocks.specs.GlobalSituation.{Situation}
use Rattle.mean_blocks.specs.Outcome.{Done}
use Rattle.mean_blocks.specs.TextByPlace.{text_of}
use Rattle.est_meaning.specs.declared.event.Event.{Event}
use Rattle.est_meaning.specs.declared.event.Event.TheVariants as event
use Rattle.est_meaning.specs.declared.firing.Firing.{Firing}
use Rattle.est_meaning.specs.declared.trace.Expected.{Expected}
use Rattle.est_meaning.specs.declared.trace.Expected.TheVariants.{Known}
use Rattle.est_meaning.specs.Agreement.{AgreeAll, AgreeFirst}
use Rattle.est_meaning.specs.FiringSteps.{IsStep, start_of}
use Rattle.est_meaning.specs.OutsideEvents.{after_event}
use Rattle.est_meaning.specs.QuietSituations.{IsQuiet}
use Rattle.est_meaning.specs.RecordedTraces.{Recorded}
use Rattle.est_meaning.specs.declared.run.Move.{Move}
use Rattle.est_meaning.specs.declared.run.Move.TheVariants.{Take, Fire}

-- what a run is a run of; it is one of the specification where the setup is begun (`IsBegun`)
pub record Setup : Type 0 where
  pub spec : Spec
  -- the limit of statements
  pub limit : ℕ
  -- how many silent firings may stand in a row
  pub silent : ℕ
  pub trace : Recorded
  -- the situation and the events after the start
  pub start : Situation
  pub start_outs : List Event

-- the start is that of the specification, and it is ready
abbrev pub IsBegun : Setup → Type 0
IsBegun c = start_of c.limit (text_of c.spec) ≡ Done c.start_outs c.start

-- where a run stands
pub record Place : Type 0 where
  pub situation : Situation
  -- of the start and of the moves so far, in order
  pub events : List Event
  -- how many silent firings stand last, in a row
  pub silent_in_row : ℕ

-- where the run without moves stands
abbrev pub first_place : Setup → Place
first_place c = record { situation = c.start; events = c.start_outs; silent_in_row = 0 }

-- MOVES

-- an arrival or a passing of time
abbrev pub IsFromOutside : Event → Type 0
IsFromOutside (event.Arrives i) = Unit {0}
IsFromOutside (event.Leaves i) = ⊥
IsFromOutside (event.Passes units) = Unit {0}

-- where a run stands after a taken event
abbrev pub after_taking : Setup → Place → Event → Place
after_taking c p e = record {
  situation = after_event (text_of c.spec) p.situation e;
  events = p.events ++ e ∷ [];
  silent_in_row = 0;
}

-- after a front that the events so far agree with, the trace goes on with a known arrival or
-- passing of time, and this event happens
pub record Takes (c : Setup) (p q : Place) : Type 0 where
  pub event : Event
  pub front : List Expected
  pub rest : List Expected
  pub outside : IsFromOutside event
  pub agree : AgreeAll front p.events
  pub next : c.trace.events ≡ front ++ Known event ∷ rest
  pub leads : q ≡ after_taking c p event

-- how many silent firings stand last after one more firing: a silent one adds one, and one with an
-- outside event leaves none
abbrev pub silent_after : ℕ → List Event → ℕ
silent_after many [] = many + 1
silent_after many (e ∷ es) = 0

-- where a run stands after a step
abbrev pub after_firing : Place → Situation → List Event → Place
after_firing p s outs = record
    { situation = s; events = p.events ++ outs; silent_in_row = silent_after p.silent_in_row outs }

-- the firing is a step
pub record Fires (c : Setup) (p : Place) (f : Firing) (q : Place) : Type 0 where
  pub situation : Situation
  pub outs : List Event
  pub step : IsStep c.limit (text_of c.spec) p.situation f situation outs
  pub leads : q ≡ after_firing p situation outs

-- a move leads from one place to another
abbrev pub Moves : Setup → Place → Move → Place → Type 0
Moves c p Take q = Takes c p q
Moves c p (Fire f) q = Fires c p f q

-- RUNS

-- the moves lead from the start to the place (ISO 9074, 5, computations)
abbrev pub IsRun : Setup → List Move → Place → Type 0
IsRun c [] p = p ≡ first_place c
IsRun c (m ∷ earlier) p = (q : Place) × IsRun c earlier q × Moves c q m p

-- a run in which nowhere too many silent firings stand in a row
abbrev pub IsBoundedRun : Setup → List Move → Place → Type 0
IsBoundedRun c [] p = p ≡ first_place c
IsBoundedRun c (m ∷ earlier) p =
    (q : Place) × IsBoundedRun c earlier q × Moves c q m p × (p.silent_in_row ≤ c.silent)

-- the trace begins with the events so far
abbrev pub Follows : Setup → Place → Type 0
Follows c p = AgreeFirst c.trace.events p.events

-- the events so far are the whole trace, and where it ends quiet, the situation is quiet
pub record IsWhole (c : Setup) (p : Place) : Type 0 where
  pub events : AgreeAll c.trace.events p.events
  pub quiet : IsTrue c.trace.quiet → IsQuiet c.limit (text_of c.spec) p.situation

-- a bounded run that is whole
pub record Explains (c : Setup) (run : List Move) : Type 0 where
  pub place : Place
  pub is_run : IsBoundedRun c run place
  pub whole : IsWhole c place

-- the run without its last move follows the trace
abbrev pub FollowsBefore : Setup → List Move → Type 0
FollowsBefore c [] = Unit {0}
FollowsBefore c (m ∷ earlier) = (p : Place) × IsBoundedRun c earlier p × Follows c p

-- the first k events are those of the trace
pub record YieldsFirst (c : Setup) (run : List Move) (k : ℕ) : Type 0 where
  pub place : Place
  pub is_run : IsBoundedRun c run place
  pub before : FollowsBefore c run
  pub many : k ≤ length place.events
  pub within : k ≤ length c.trace.events
  pub agree : AgreeAll (take k c.trace.events) (take k place.events)

-- a bounded run yields the first k events of the trace, or one more than it has where it explains
-- the trace
abbrev pub Yields : Setup → List Move → ℕ → Type 0
Yields c run k = YieldsFirst c run k ⊎ ((k ≡ length c.trace.events + 1) × Explains c run)
