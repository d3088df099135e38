-- Runs along one trace for each port.
--
-- These definitions read a run from its last move back to its first, so that `m ∷ earlier` is the
-- run `earlier` with one more move m.
use Rattle.std.specs.Prelude.{◌≡◌, ℕ, ◌≤◌, List, [], ◌∷◌, ◌++◌}
use Rattle.est_meaning.specs.mean_blocks.GlobalSituation.{Situation}
use Rattle.est_meaning.specs.mean_blocks.TextByPlace.{text_of}
use Rattle.est_meaning.specs.declared.event.Event.{Event}
use Rattle.est_meaning.specs.declared.event.Event.TheVariants as event
use Rattle.est_meaning.specs.declared.event.Interaction.{Interaction}
use Rattle.est_meaning.specs.declared.firing.Firing.{Firing}
use Rattle.est_meaning.specs.FiringSteps.{IsStep}
use Rattle.est_meaning.specs.OutsideEvents.{after_event}
use Rattle.est_meaning.specs.RecordedTraces.{Recorded}
use Rattle.est_meaning.specs.Run.{Setup, silent_after}
use Rattle.mean_ports.specs.declared.lists.PortLists.{PortLists}
use Rattle.mean_ports.specs.declared.moves.PortMove.{PortMove}
use Rattle.mean_ports.specs.declared.moves.PortMove.TheVariants.{TakeAt, Pass, Fire}
use Rattle.mean_ports.specs.Merges.{IsNextOf, IsAt, AreUsedUp}

-- WHAT IS LEFT

-- what is left of the lists: of the current phase, and after it
pub record Left : Type 0 where
  pub now : List (List Event)
  pub later : List (List (List Event))
  pub times : List ℕ

-- all of the lists, which have one phase at least
abbrev pub all_left : List (List (List Event)) → List ℕ → Left
all_left [] times = record { now = []; later = []; times = times }
all_left (p ∷ ps) times = record { now = p; later = ps; times = times }

-- nothing is left
pub record IsAllUsed (left : Left) : Type 0 where
  pub now : AreUsedUp left.now
  pub later : left.later ≡ []
  pub times : left.times ≡ []

-- the event is the next one of its port in the current phase
pub record IsNextAt (left : Left) (e : Event) (after : Left) : Type 0 where
  pub port : ℕ
  pub at : IsAt port e
  pub lists : List (List Event)
  pub next : IsNextOf left.now port e lists
  pub after_is : after ≡ record left { now = lists }

-- the events are these, in order: each is the next one of its port
pub data AreNext : Left → List Event → Left → Type 0 where
  none : {left : Left} → AreNext left [] left
  more : {left middle after : Left} {e : Event} {es : List Event} → IsNextAt left e middle
      → AreNext middle es after → AreNext left (e ∷ es) after

-- MOVES

-- where a port run stands
pub record PortPlace : Type 0 where
  pub situation : Situation
  -- of the start and of the moves so far, in order
  pub events : List Event
  pub left : Left
  -- how many silent firings stand last, in a row
  pub silent_in_row : ℕ

-- where a port run stands after an event from outside, with this left
abbrev pub after_outside : Setup → PortPlace → Event → Left → PortPlace
after_outside c p e left = record {
  situation = after_event (text_of c.spec) p.situation e;
  events = p.events ++ e ∷ [];
  left = left;
  silent_in_row = 0;
}

-- an arrival at the port of this number is the next event there, and it happens
pub record TakesAt (c : Setup) (p : PortPlace) (port : ℕ) (q : PortPlace) : Type 0 where
  pub interaction : Interaction
  pub left : Left
  pub here : interaction.port ≡ port
  pub next : IsNextAt p.left (event.Arrives interaction) left
  pub leads : q ≡ after_outside c p (event.Arrives interaction) left

-- the phase is used up, a time follows, and it passes
pub record PassesOn (c : Setup) (p q : PortPlace) : Type 0 where
  pub units : ℕ
  pub phase : List (List Event)
  pub phases : List (List (List Event))
  pub times : List ℕ
  pub used_up : AreUsedUp p.left.now
  pub phases_are : p.left.later ≡ phase ∷ phases
  pub times_are : p.left.times ≡ units ∷ times
  pub leads : q ≡ after_outside c p (event.Passes units)
      (record { now = phase; later = phases; times = times })

-- the firing is a step, and its events are the next ones of their ports
pub record FiresOn (c : Setup) (p : PortPlace) (f : Firing) (q : PortPlace) : Type 0 where
  pub situation : Situation
  pub outs : List Event
  pub left : Left
  pub step : IsStep c.limit (text_of c.spec) p.situation f situation outs
  pub next : AreNext p.left outs left
  pub leads : q ≡ record {
    situation = situation;
    events = p.events ++ outs;
    left = left;
    silent_in_row = silent_after p.silent_in_row outs;
  }

-- a move leads from one place to another
abbrev pub MovesOn : Setup → PortPlace → PortMove → PortPlace → Type 0
MovesOn c p (TakeAt port) q = TakesAt c p port q
MovesOn c p Pass q = PassesOn c p q
MovesOn c p (Fire f) q = FiresOn c p f q

-- RUNS

-- where the run without moves stands: the events of the start are the next ones of their ports
pub record IsPortStart (c : Setup) (lists : PortLists) (p : PortPlace) : Type 0 where
  pub left : Left
  pub next : AreNext (all_left lists.phases lists.times) c.start_outs left
  pub place_is : p ≡ record {
    situation = c.start;
    events = c.start_outs;
    left = left;
    silent_in_row = 0;
  }

-- A bounded port run that follows the lists: start and moves, after none of which too many silent
-- firings stand in a row. The trace of the setup plays no part.
abbrev pub IsPortRun : Setup → PortLists → List PortMove → PortPlace → Type 0
IsPortRun c lists [] p = IsPortStart c lists p
IsPortRun c lists (m ∷ earlier) p =
    (q : PortPlace) × IsPortRun c lists earlier q × MovesOn c q m p
    × (p.silent_in_row ≤ c.silent)

-- the same runs along a trace
abbrev pub along : Setup → Recorded → Setup
along c trace = record c { trace = trace }
