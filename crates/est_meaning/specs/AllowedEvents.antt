-- The events that may stand in a trace of a specification.
use Rattle.std.specs.Prelude.{◌≡◌, ◌≤◌, ℕ, List, Some, All, IsTrue, length, slice_get}
use Rattle.std.specs.List.{AllZip}
use Rattle.est_syntax.specs.Kinds.{maxint}
use Rattle.est_syntax.specs.declared.ports.Port.{Port}
use Rattle.est_syntax.specs.declared.ports.Signal.{Signal}
use Rattle.est_syntax.specs.declared.specification.Spec.{Spec}
use Rattle.est_values.specs.FittingValues.{Fits}
use Rattle.est_seen.specs.SeenValues.{MayFit, SomeHasAny}
use Rattle.est_seen.specs.declared.seen.Seen.{Seen}
use Rattle.mean_blocks.specs.rule_declares.PortList.{ports_of}
use Rattle.est_meaning.specs.declared.event.Event.{Event}
use Rattle.est_meaning.specs.declared.event.Event.TheVariants as event
use Rattle.est_meaning.specs.declared.event.Interaction.{Interaction}
use Rattle.est_meaning.specs.declared.trace.Expected.{Expected}
use Rattle.est_meaning.specs.declared.trace.Expected.TheVariants.{Known, Partly}
use Rattle.est_meaning.specs.RecordedTraces.{Recorded}

-- an interaction is this signal of this port of the specification, and its values fit
pub record IsOfPort (spec : Spec) (i : Interaction) (port : Port) (signal : Signal) : Type 0 where
  pub port_is : slice_get (ports_of spec) i.port ≡ Some port
  pub signal_is : slice_get port.signals i.signal ≡ Some signal
  pub fits : AllZip Fits signal.kinds i.values

-- its port receives the interaction (ISO 9074, 7: channel-definition)
unfoldable pub IsReceivable : Spec → Interaction → Type 0
IsReceivable spec i =
    (port : Port) × (signal : Signal) × IsOfPort spec i port signal × IsTrue signal.receives

-- its port sends the interaction (ISO 9074, 7: channel-definition)
unfoldable pub IsSendable : Spec → Interaction → Type 0
IsSendable spec i =
    (port : Port) × (signal : Signal) × IsOfPort spec i port signal × IsTrue signal.sends

-- the event may stand in a trace; at most maxint units pass at once (profile)
abbrev pub IsAllowed : Spec → Event → Type 0
IsAllowed spec (event.Arrives i) = IsReceivable spec i
IsAllowed spec (event.Leaves i) = IsSendable spec i
IsAllowed spec (event.Passes units) = units ≤ maxint

-- an arrival that may stand there
abbrev pub IsArrival : Spec → Event → Type 0
IsArrival spec (event.Arrives i) = IsReceivable spec i
IsArrival spec (event.Leaves i) = ⊥
IsArrival spec (event.Passes units) = ⊥

-- A departure of this signal of this port may be seen so: its port sends the signal, some fitting
-- values match what is seen, one for one, and not every value was seen.
pub record IsSeenOfPort (spec : Spec) (port signal : ℕ) (seen : List Seen) : Type 0 where
  pub at : Port
  pub sent : Signal
  pub port_is : slice_get (ports_of spec) port ≡ Some at
  pub signal_is : slice_get at.signals signal ≡ Some sent
  pub sends : IsTrue sent.sends
  pub may_fit : AllZip MayFit sent.kinds seen
  pub partly : SomeHasAny seen

-- the event that is expected may stand in a trace
abbrev pub IsAllowedExpected : Spec → Expected → Type 0
IsAllowedExpected spec (Known e) = IsAllowed spec e
IsAllowedExpected spec (Partly port signal seen) = IsSeenOfPort spec port signal seen

-- as many events as a trace may have (profile)
abbrev pub most_events : ℕ
most_events = 200000

-- a trace within its limits
pub record IsAllowedTrace (spec : Spec) (trace : Recorded) : Type 0 where
  pub few : length trace.events ≤ most_events
  pub each : All (IsAllowedExpected spec) trace.events
