-- What is left of lists, shown by a phase and by how far each of its lists is used up.
use Rattle.std.specs.Prelude.{◌≡◌, ℕ, ◌+◌, ◌-◌, ◌<◌, ◌≤◌, List, [], ◌∷◌, ◌++◌, length, take}
use Rattle.std.specs.Prelude.{drop, reverse, Some, slice_get, slice_set}
use Rattle.est_meaning.specs.RecordedTraces.{Recorded, known_trace}
use Rattle.est_meaning.specs.declared.event.Event.{Event}
use Rattle.est_meaning.specs.declared.event.Event.TheVariants as event
use Rattle.est_meaning.specs.declared.event.Interaction.{Interaction}
use Rattle.run_paths.specs.declared.path.Best.{Best}
use Rattle.mean_ports.specs.declared.lists.PortLists.{PortLists}
use Rattle.mean_ports.specs.Merges.{IsAt, IsMerge, AreUsedUp}
use Rattle.mean_ports.specs.PortRuns.{Left, all_left, IsNextAt, AreNext}
use Rattle.est_ports.specs.inside.Cursors.{cut, starts, ends}
use Rattle.est_ports.specs.declared.left.Used.{Used}
use Rattle.est_ports.specs.declared.left.Used.TheVariants.{At, Time}
use Rattle.est_ports.specs.declared.left.Rest.{Rest}

-- WHERE THE LISTS ARE CUT

-- the lists of the phase with this number; past the last phase there are none
abbrev pub lists_of : PortLists → ℕ → List (List Event)
lists_of lists phase = (all_left (drop phase lists.phases) (drop phase lists.times)).now

-- what is left where a phase is used up so far
abbrev pub left_at : PortLists → ℕ → List ℕ → Left
left_at lists phase cursors =
    let left = all_left (drop phase lists.phases) (drop phase lists.times) in
    record { now = cut cursors left.now; later = left.later; times = left.times }

-- WHAT WAS USED UP

-- a phase, how far each of its lists is used up, and the events that were used up so far, in order
pub record Stand : Type 0 where
  pub phase : ℕ
  pub cursors : List ℕ
  pub events : List Event

-- nothing was used up
abbrev pub first_stand : PortLists → Stand
first_stand lists = record { phase = 0; cursors = starts (lists_of lists 0); events = [] }

-- the next event of this port is used up, and is one of the port
pub record UsesAt (lists : PortLists) (s : Stand) (port : ℕ) (t : Stand) : Type 0 where
  pub cursor : ℕ
  pub list : List Event
  pub event : Event
  pub cursor_is : slice_get s.cursors port ≡ Some cursor
  pub list_is : slice_get (lists_of lists s.phase) port ≡ Some list
  pub event_is : slice_get list cursor ≡ Some event
  pub at : IsAt port event
  pub leads : t ≡ record {
    phase = s.phase;
    cursors = slice_set s.cursors port (cursor + 1);
    events = s.events ++ event ∷ [];
  }

-- the time that ends a used up phase is used up
pub record UsesTime (lists : PortLists) (s t : Stand) : Type 0 where
  pub units : ℕ
  pub ended : s.cursors ≡ ends (lists_of lists s.phase)
  pub more : s.phase + 1 < length lists.phases
  pub units_is : slice_get lists.times s.phase ≡ Some units
  pub leads : t ≡ record {
    phase = s.phase + 1;
    cursors = starts (lists_of lists (s.phase + 1));
    events = s.events ++ event.Passes units ∷ [];
  }

-- one thing more is used up
abbrev pub Uses : PortLists → Stand → Used → Stand → Type 0
Uses lists s (At port) t = UsesAt lists s port t
Uses lists s Time t = UsesTime lists s t

-- these were used up, read from the last one back
abbrev pub LeadsTo : PortLists → List Used → Stand → Type 0
LeadsTo lists [] t = t ≡ first_stand lists
LeadsTo lists (u ∷ used) t = (s : Stand) × LeadsTo lists used s × Uses lists s u t

-- These were used up, read from the last one back: each the next one of its port, or the time of a
-- used up phase. They are these events, and this is left.
pub record HasUsedUp (lists : PortLists) (used : List Used) (left : Left) (events : List Event)
    : Type 0 where
  pub stand : Stand
  pub leads : LeadsTo lists used stand
  pub left_is : left ≡ left_at lists stand.phase stand.cursors
  pub events_are : events ≡ stand.events

-- what was used up, from the last one back
abbrev pub used_of : Rest → List Used
used_of rest = reverse rest.used.items

-- where it stands
abbrev pub stand_of : Rest → List Event → Stand
stand_of rest events =
    record { phase = rest.phase; cursors = rest.cursors.items; events = events }

-- what was used up are these events, and this is left
pub record Stands (lists : PortLists) (rest : Rest) (left : Left) (events : List Event) : Type 0
  where
    pub leads : LeadsTo lists (used_of rest) (stand_of rest events)
    pub left_is : left ≡ left_at lists rest.phase rest.cursors.items

-- WHAT COMES NEXT

-- the event is an arrival at this port, and the next one there
pub record ArrivesNext (left : Left) (port : ℕ) (e : Event) : Type 0 where
  pub interaction : Interaction
  pub after : Left
  pub here : interaction.port ≡ port
  pub event_is : e ≡ event.Arrives interaction
  pub next : IsNextAt left (event.Arrives interaction) after

-- the phase is used up, and so many units of time follow
pub record PassesNext (left : Left) (units : ℕ) (after : Left) : Type 0 where
  pub phase : List (List Event)
  pub phases : List (List (List Event))
  pub times : List ℕ
  pub used_up : AreUsedUp left.now
  pub phases_are : left.later ≡ phase ∷ phases
  pub times_are : left.times ≡ units ∷ times
  pub after_is : after ≡ record { now = phase; later = phases; times = times }

-- Of these events so many were the next ones of their ports, one by one, and are used up; the one
-- after them is not.
pub record HasUsed (lists : PortLists) (rest : Rest) (left : Left) (events outs : List Event)
    (many : ℕ) : Type 0 where
  pub after : Left
  pub next : AreNext left (take many outs) after
  pub stands : Stands lists rest after (events ++ take many outs)
  pub no_more : (e : Event) (beyond : Left) → slice_get outs many ≡ Some e
      → IsNextAt after e beyond → ⊥

-- the event is the next one of its port, and is used up
pub record UsedNext (lists : PortLists) (old new : Rest) (e : Event) : Type 0 where
  pub port : ℕ
  pub used : used_of new ≡ At port ∷ used_of old
  pub stands : (left : Left) (events : List Event) → Stands lists old left events
      → (after : Left) × IsNextAt left e after × Stands lists new after (events ++ e ∷ [])

-- the event is not the next one of its port, and nothing is used up
pub record NotNext (lists : PortLists) (old new : Rest) (e : Event) : Type 0 where
  pub same : new ≡ old
  pub not : (left after : Left) (events : List Event) → Stands lists old left events
      → IsNextAt left e after → ⊥

-- so many more are used up
pub record UsesMore (before after : List Used) (many : ℕ) : Type 0 where
  pub front : List Used
  pub count : length front ≡ many
  pub after_is : after ≡ front ++ before

-- GOING BACK

-- the first so many of what was used up, from the last one back
abbrev pub lower : ℕ → List Used → List Used
lower height used = drop (length used - height) used

-- what the best run uses up, from the last one back: the first of what is used up now, and then the
-- tail
abbrev pub kept : Best Used → List Used → List Used
kept best used = best.tail.items ++ lower best.common used

-- the best run uses up the same as before
pub record KeepsBest (old : Best Used) (before : List Used) (new : Best Used) (after : List Used)
    : Type 0 where
  pub yields : new.yields ≡ old.yields
  pub common : new.common ≤ length after
  pub same : kept new after ≡ kept old before

-- MERGES

-- a merge that begins with these events
pub record MergesFrom (lists : PortLists) (events : List Event) (merge : Recorded) : Type 0 where
  pub rest : List Event
  pub merge_is : merge ≡ known_trace (events ++ rest)
  pub is_merge : IsMerge lists merge
