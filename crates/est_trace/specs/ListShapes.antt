-- Which shapes the texts of one trace for each port have, and which lists they are.
use Rattle.std.specs.Prelude.{◌≡◌, ℕ, List, [], ◌∷◌, Option, Some, None, length, slice_get}
use Rattle.est_syntax.specs.declared.ports.Port.{Port}
use Rattle.est_syntax.specs.declared.ports.Signal.{Signal}
use Rattle.text_reader.specs.Going.{Shape}
use Rattle.text_reader.specs.Grammar.{nothing, leaf, both, left, right, some, pick}
use Rattle.text_reader.specs.Tests.{value}
use Rattle.text_values.specs.ValueShapes.{AreBracketed, ShowsOrdinal, ShowsValue}
use Rattle.est_meaning.specs.declared.event.Event.{Event}
use Rattle.est_meaning.specs.declared.event.Event.TheVariants.{Arrives, Leaves, Passes}
use Rattle.est_meaning.specs.declared.event.Interaction.{Interaction}
use Rattle.mean_ports.specs.declared.lists.PortLists.{PortLists}
use Rattle.mean_ports.specs.ListsOfEvents.{AreListsOf}

-- EVENTS AT A PORT

-- a port that is named: its number, and the signals of its head
pub record Named : Type 0 where
  pub number : ℕ
  pub signals : List Signal

-- a signal at the port, with its values, has this shape
pub record ShowsSignalAt (n : Named) (i : Interaction) (t : Shape) : Type 0 where
  pub signal : Signal
  pub values_shape : Shape
  pub port_is : i.port ≡ n.number
  pub shape : t ≡ pick i.signal values_shape
  pub signal_is : slice_get n.signals i.signal ≡ Some signal
  pub values_shown : AreBracketed ShowsValue signal.kinds i.values values_shape

-- an event at the port has this shape (`port_event`)
abbrev pub ShowsPortEvent : Named → Event → Shape → Type 0
ShowsPortEvent n (Arrives i) (left t) = ShowsSignalAt n i t
ShowsPortEvent n (Leaves i) (right t) = ShowsSignalAt n i t
ShowsPortEvent n _ _ = ⊥

-- LISTS

-- A port has this shape: which head among the ports, and the subscripts of the port.
pub record ShowsPort (ports : List Port) (n : Named) (first : ℕ) (t : Shape) : Type 0 where
  pub head : Port
  pub port : Port
  pub head_is : slice_get ports first ≡ Some head
  pub port_is : slice_get ports n.number ≡ Some port
  pub named : port.name.bytes ≡ head.name.bytes
  pub signals_are : n.signals ≡ head.signals
  pub index_shown : AreBracketed ShowsOrdinal head.index_kinds port.index t

-- after a port that is named, or none, a text goes on with these events in order (`lists`)
pub data ShowsParts (ports : List Port) : Option Named → List Event → Shape → Type 0 where
  no_more : {at : Option Named} → ShowsParts ports at [] nothing
  port_next : {at : Option Named} {es : List Event} {t u : Shape} (n : Named) (first : ℕ)
      → ShowsPort ports n first t → ShowsParts ports (Some n) es u
      → ShowsParts ports at es (some (left (pick first (both t u))))
  time_next : {at : Option Named} {es : List Event} {u : Shape} (units : ℕ)
      → ShowsParts ports None es u
      → ShowsParts ports at (Passes units ∷ es)
      (some (right (left (both (leaf (value units)) u))))
  event_next : {n : Named} {e : Event} {es : List Event} {t u : Shape} → ShowsPortEvent n e t
      → ShowsParts ports (Some n) es u
      → ShowsParts ports (Some n) (e ∷ es) (some (right (right (both t u))))

-- The lists have this shape. The events in the order of the text are one merge of them.
pub record ShowsLists (ports : List Port) (lists : PortLists) (t : Shape) : Type 0 where
  pub events : List Event
  pub shape : Shape
  pub shape_is : t ≡ both shape nothing
  pub shown : ShowsParts ports None events shape
  pub lists_are : AreListsOf (length ports) lists events
