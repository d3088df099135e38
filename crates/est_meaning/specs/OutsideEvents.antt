-- What passes the outside ports, and what the outside does (ISO 9074, 5: environment).
use Rattle.std.specs.Prelude.{ℕ, ◌+◌, Bool, false, nat_eq, List, [], Option, Some, slice_get}
use Rattle.std.specs.Prelude.{option_and_then}
use Rattle.std.specs.List.{filter_map, position}
use Rattle.std.specs.Option.{option_map, option_map_or}
use Rattle.est_syntax.specs.declared.ports.Port.{Port}
use Rattle.est_syntax.specs.declared.ports.Signal.{Signal}
use Rattle.mean_blocks.specs.rule_scope.declared.declaration.Side.{Side}
use Rattle.mean_blocks.specs.rule_scope.declared.declaration.Standing.{Standing}
use Rattle.mean_blocks.specs.rule_scope.Outline.{standing}
use Rattle.mean_blocks.specs.rule_declares.LookUps.{started_header}
use Rattle.mean_blocks.specs.rule_declares.LookUps.{side_at}
use Rattle.mean_blocks.specs.rule_declares.PortList.{ports_of}
use Rattle.mean_blocks.specs.declared.situation.InteractionPoint.{InteractionPoint}
use Rattle.mean_blocks.specs.declared.situation.Item.{Item}
use Rattle.mean_blocks.specs.TextByPlace.{Text}
use Rattle.mean_blocks.specs.GlobalSituation.{Situation, is_point}
use Rattle.mean_blocks.specs.InstancePoints.{point}
use Rattle.mean_blocks.specs.OutputEffects.{arrived}
use Rattle.est_meaning.specs.declared.event.Event.{Event}
use Rattle.est_meaning.specs.declared.event.Event.TheVariants as event
use Rattle.est_meaning.specs.declared.event.Interaction.{Interaction}

-- PORTS AND SIGNALS

-- the interaction point that has the name of a port in the header of the root, with its subscripts
abbrev pub port_in : Text → Port → ℕ → Option InteractionPoint
port_in t port header = option_map (λ (x : Standing). point 1 x.place port.index)
    (standing t.outline header port.name.bytes)

-- the interaction point that a port is: an external one of the root, which is instance 1
abbrev pub port_point : Text → Port → Option InteractionPoint
port_point t port = option_and_then (port_in t port) (started_header t.outline t.spec.first)

-- where a signal of an interaction point is declared, in its channel
abbrev pub signal_place : Text → InteractionPoint → Signal → Option ℕ
signal_place t p x = option_and_then (λ (side : Side). option_map (λ (n : Standing). n.place)
    (standing t.outline side.channel x.name.bytes))
    (side_at t.outline (Some p.declared))

-- whether a port is an interaction point
abbrev pub is_port : Text → InteractionPoint → Port → Bool
is_port t p port = option_map_or (is_point p) (port_point t port) false

-- whether a signal of an interaction point is the interaction that is declared at a place
abbrev pub is_signal : Text → InteractionPoint → ℕ → Signal → Bool
is_signal t p declared x = option_map_or (nat_eq declared) (signal_place t p x) false

-- the signals of the port of a number
abbrev pub signals_at : Text → ℕ → List Signal
signals_at t port = option_map_or (λ (p : Port). p.signals) (slice_get (ports_of t.spec) port) []

-- DEPARTURES

-- an item that leaves through the port of a number, by the number of its signal there
abbrev pub departure_through : Text → Item → ℕ → Option Event
departure_through t i port = option_map
    (λ signal. event.Leaves (record { port = port; signal = signal; values = i.values }))
    (position (is_signal t i.at i.signal) (signals_at t port))

-- the event of an item that was sent out of the system
abbrev pub departure : Text → Item → Option Event
departure t i =
    option_and_then (departure_through t i) (position (is_port t i.at) (ports_of t.spec))

-- the events of items that were sent out of the system, in order
abbrev pub departures : Text → List Item → List Event
departures t items = filter_map (departure t) items

-- ARRIVALS AND TIME

-- the item that an interaction is at an interaction point, where it is this signal
abbrev pub item_by : Text → Interaction → InteractionPoint → Signal → Option Item
item_by t i p x = option_map (λ declared. record { at = p; signal = declared; values = i.values })
    (signal_place t p x)

-- the item that an interaction is at a port
abbrev pub item_at : Text → Interaction → Port → Option Item
item_at t i port = option_and_then
    (λ p. option_and_then (item_by t i p) (slice_get port.signals i.signal)) (port_point t port)

-- the item that an interaction is, by the numbers of its port and its signal
abbrev pub arrival : Text → Interaction → Option Item
arrival t i = option_and_then (item_at t i) (slice_get (ports_of t.spec) i.port)

-- so many units later
abbrev pub later : Situation → ℕ → Situation
later s units = record s { clock = s.clock + units }

-- The situation after an event. What arrives goes down from its port into the queue of the
-- innermost interaction point; what leaves has left it; time makes the clock later.
unfoldable pub after_event : Text → Situation → Event → Situation
after_event t s (event.Arrives i) = option_map_or (λ (x : Item). arrived t x.at x s) (arrival t i) s
after_event t s (event.Leaves i) = s
after_event t s (event.Passes units) = later s units

-- the units of time that pass in an event
abbrev pub units_of : Event → ℕ
units_of (event.Arrives i) = 0
units_of (event.Leaves i) = 0
units_of (event.Passes units) = units
