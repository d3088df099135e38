-- The lists of events that are told in some order: at each port its own.
use Rattle.std.specs.Prelude.{◌≡◌, ℕ, List, All, Some, length, slice_get}
use Rattle.est_meaning.specs.declared.event.Event.{Event}
use Rattle.mean_ports.specs.declared.lists.PortLists.{PortLists}
use Rattle.mean_ports.specs.Merges.{IsAt, MergesOf}

-- a phase has so many lists, each of events at its port
pub record IsPhaseAt (many : ℕ) (phase : List (List Event)) : Type 0 where
  pub many_are : length phase ≡ many
  pub each : (port : ℕ) (es : List Event) → slice_get phase port ≡ Some es → All (IsAt port) es

-- the lists, for so many ports, that these events are one merge of
pub record AreListsOf (many : ℕ) (lists : PortLists) (events : List Event) : Type 0 where
  pub merges : MergesOf lists.phases lists.times events
  pub phases : All (IsPhaseAt many) lists.phases

-- events are a merge of one choice of lists at most
abbrev pub EventsTellTheirLists : Type 0
EventsTellTheirLists = (many : ℕ) (lists other : PortLists) (events : List Event)
    → AreListsOf many lists events → AreListsOf many other events → other ≡ lists
