-- Merges: whole traces, each an order of the events that one trace for each port tells.
use Rattle.std.specs.Prelude.{◌≡◌, ℕ, ◌+◌, ◌≤◌, List, [], ◌∷◌, ◌++◌, All, Some, length}
use Rattle.std.specs.Prelude.{slice_get, slice_set}
use Rattle.est_syntax.specs.Kinds.{maxint}
use Rattle.est_syntax.specs.declared.specification.Spec.{Spec}
use Rattle.est_meaning.specs.rule_declares.PortList.{ports_of}
use Rattle.est_meaning.specs.AllowedEvents.{IsAllowed, most_events}
use Rattle.est_meaning.specs.RecordedTraces.{Recorded, known_trace}
use Rattle.est_meaning.specs.declared.event.Event.{Event}
use Rattle.est_meaning.specs.declared.event.Event.TheVariants as event
use Rattle.mean_ports.specs.declared.lists.PortLists.{PortLists}

-- INTERLEAVINGS

-- nothing is left of any list
abbrev pub AreUsedUp : List (List Event) → Type 0
AreUsedUp lists = All (λ (es : List Event). es ≡ []) lists

-- the event is the next one of the list with this number, and the lists are left without it
pub record IsNextOf (lists : List (List Event)) (port : ℕ) (e : Event)
    (left : List (List Event)) : Type 0 where
  pub rest : List Event
  pub begins : slice_get lists port ≡ Some (e ∷ rest)
  pub left_is : left ≡ slice_set lists port rest

-- the events use the lists up, each of them the next one of some list
pub data Interleaves : List (List Event) → List Event → Type 0 where
  used_up : {lists : List (List Event)} → AreUsedUp lists → Interleaves lists []
  next : {lists left : List (List Event)} {e : Event} {es : List Event} (port : ℕ)
      → IsNextOf lists port e left → Interleaves left es → Interleaves lists (e ∷ es)

-- MERGES

-- the events are those of phases in order, with the time that passes between each and the next
abbrev pub MergesOf : List (List (List Event)) → List ℕ → List Event → Type 0
MergesOf [] times es = ⊥
MergesOf (p ∷ ps) [] es = (ps ≡ []) × Interleaves p es
MergesOf (p ∷ ps) (u ∷ us) es = (front : List Event) × (rest : List Event)
    × (es ≡ front ++ event.Passes u ∷ rest) × Interleaves p front × MergesOf ps us rest

-- The trace is a merge of the lists. Its events are known and it does not end quiet; they are those
-- of the phases in order, with the times between these; and in each phase the events of a port keep
-- their order.
pub record IsMerge (lists : PortLists) (trace : Recorded) : Type 0 where
  pub events : List Event
  pub known : trace ≡ known_trace events
  pub merges : MergesOf lists.phases lists.times events

-- HOW MANY EVENTS

-- how many events the lists of a phase have
abbrev pub phase_count : List (List Event) → ℕ
phase_count [] = 0
phase_count (es ∷ lists) = length es + phase_count lists

-- and those of all phases
abbrev pub list_count : List (List (List Event)) → ℕ
list_count [] = 0
list_count (p ∷ ps) = phase_count p + list_count ps

-- how many events the lists have, where each time is one
abbrev pub event_count : PortLists → ℕ
event_count lists = list_count lists.phases + length lists.times

-- LISTS WITHIN THEIR LIMITS

-- the event arrives or leaves at the port of this number
abbrev pub IsAt : ℕ → Event → Type 0
IsAt port (event.Arrives i) = i.port ≡ port
IsAt port (event.Leaves i) = i.port ≡ port
IsAt port (event.Passes units) = ⊥

-- the events may stand in a trace, and are all at the port of this number
pub record IsListOf (spec : Spec) (port : ℕ) (es : List Event) : Type 0 where
  pub here : All (IsAt port) es
  pub each : All (IsAllowed spec) es

-- a phase has one list for each port
pub record IsPhaseOf (spec : Spec) (phase : List (List Event)) : Type 0 where
  pub many : length phase ≡ length (ports_of spec)
  pub each : (port : ℕ) (es : List Event) → slice_get phase port ≡ Some es
      → IsListOf spec port es

-- the lists are those of the ports of the specification, within the limits of a trace (profile)
pub record AreAllowedLists (spec : Spec) (lists : PortLists) : Type 0 where
  pub many : length lists.phases ≡ length lists.times + 1
  pub phases : All (IsPhaseOf spec) lists.phases
  pub times : All (λ u. u ≤ maxint) lists.times
  pub few : event_count lists ≤ most_events
