-- Events phase by phase, and in each phase port by port.
use Rattle.std.specs.Prelude.{◌≡◌, ℕ, List, [], ◌∷◌, ◌++◌, Option, Some, None, map, drop, slice_get}
use Rattle.est_meaning.specs.declared.event.Event.{Event}
use Rattle.est_meaning.specs.declared.event.Event.TheVariants as event
use Rattle.est_meaning.specs.declared.trace.Expected.{Expected}
use Rattle.est_meaning.specs.declared.trace.Expected.TheVariants.{Known}
use Rattle.mean_ports.specs.declared.lists.PortLists.{PortLists}
use Rattle.mean_ports.specs.PortRuns.{Left}
use Rattle.est_ports.specs.declared.left.Used.{Used}
use Rattle.est_ports.specs.declared.left.Used.TheVariants.{At, Time}
use Rattle.est_ports.specs.inside.Cursors.{cut, first_at}
use Rattle.est_ports.specs.inside.Leftover.{Stand, LeadsTo, lists_of, left_at}

-- the events of lists, one list after the other
abbrev pub in_order : List (List Event) → List Event
in_order [] = []
in_order (es ∷ lists) = es ++ in_order lists

-- the first list, if there is one
abbrev pub first_list : List (List Event) → List Event
first_list [] = []
first_list (es ∷ lists) = es

-- an event, if there is one
abbrev pub event_of : Option Event → List Event
event_of None = []
event_of (Some e) = e ∷ []

-- the event that so many units pass, if there are any
abbrev pub time_of : Option ℕ → List Event
time_of None = []
time_of (Some units) = event.Passes units ∷ []

-- those of phases, with the time before each
abbrev pub phases_in_order : List (List (List Event)) → List ℕ → List Event
phases_in_order [] times = []
phases_in_order (p ∷ ps) times =
    time_of (slice_get times 0) ++ (in_order p ++ phases_in_order ps (drop 1 times))

-- what is left
abbrev pub left_in_order : Left → List Event
left_in_order left = in_order left.now ++ phases_in_order left.later left.times

-- the event that comes next
abbrev pub next_events : PortLists → ℕ → List ℕ → Used → List Event
next_events lists phase cursors (At port) =
    event_of (first_at (cut cursors (lists_of lists phase)) port)
next_events lists phase cursors Time = time_of (slice_get lists.times phase)

-- known events were written behind others, and where they were used up leads here
pub record HasWritten (lists : PortLists) (used : List Used) (phase : ℕ) (cursors : List ℕ)
    (old new : List Expected) : Type 0 where
  pub events : List Event
  pub new_is : new ≡ old ++ map Known events
  pub leads : (t : Stand) → LeadsTo lists used t
      → record { phase = phase; cursors = cursors; events = events } ≡ t

-- so were what was used up, and what is left
pub record HasWrittenAll (lists : PortLists) (used : List Used) (new : List Expected) : Type 0
  where
    pub events : List Event
    pub new_is : new ≡ map Known events
    pub are : (t : Stand) → LeadsTo lists used t
        → events ≡ t.events ++ left_in_order (left_at lists t.phase t.cursors)
