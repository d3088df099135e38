-- Events at the ports of a specification.
use Rattle.std.specs.List.{AllZip}
use Rattle.std.specs.Prelude.{◌≡◌, ◌≤◌, ℕ, true, List, All, Some, slice_get}
use Rattle.est_syntax.specs.declared.kind.Kind.{Kind}
use Rattle.est_syntax.specs.declared.ports.Signal.{Signal}
use Rattle.est_syntax.specs.declared.ports.Port.{Port}
use Rattle.est_syntax.specs.Kinds.{maxint}
use Rattle.est_meaning.specs.declared.event.Interaction.{Interaction}
use Rattle.est_meaning.specs.declared.event.Event.{Event}
use Rattle.est_meaning.specs.declared.event.Event.TheVariants.{Arrives, Leaves, Passes}
use Rattle.est_meaning.specs.declared.trace.Expected.{Expected}
use Rattle.est_meaning.specs.declared.trace.Expected.TheVariants.{Known, Partly}
use Rattle.est_syntax.specs.declared.ports.Direction.{Direction}
use Rattle.est_syntax.specs.declared.ports.Direction.TheVariants.{Receives, Sends}
use Rattle.est_values.specs.FittingValues.{Fits}
use Rattle.est_seen.specs.SeenValues.{MayFit, SomeHasAny}
use Rattle.text_values.specs.TraceGrammar.{passes}

-- a signal of one of the ports passes it in this direction, and this holds of the kinds of its
-- parameters
pub record PassesAt (direction : Direction) (ports : List Port) (number at_signal : ℕ)
    (Good : List Kind → Type 0) : Type 0 where
  pub port : Port
  pub signal : Signal
  pub port_is : slice_get ports number ≡ Some port
  pub signal_is : slice_get port.signals at_signal ≡ Some signal
  pub direction_is : passes direction signal ≡ true
  pub fits : Good signal.kinds

-- the interaction is of one of the ports and of one of its signals, which passes it in this
-- direction, and its values fit
abbrev pub IsAtPort : Direction → List Port → Interaction → Type 0
IsAtPort direction ports interaction =
    PassesAt direction ports interaction.port interaction.signal
    (λ ks. AllZip Fits ks interaction.values)

-- the event is an arrival or a departure at one of the ports, or time that passes
abbrev pub IsAtPorts : List Port → Event → Type 0
IsAtPorts ports (Arrives interaction) = IsAtPort Receives ports interaction
IsAtPorts ports (Leaves interaction) = IsAtPort Sends ports interaction
IsAtPorts ports (Passes units) = units ≤ maxint

-- the same of an event that is expected: what is seen of a departure may fit, and not all is seen
abbrev pub IsExpectedAt : List Port → Expected → Type 0
IsExpectedAt ports (Known e) = IsAtPorts ports e
IsExpectedAt ports (Partly port signal seen) =
    PassesAt Sends ports port signal (λ ks. AllZip MayFit ks seen) × SomeHasAny seen

-- each of the events is one of these
abbrev pub AreAtPorts : List Port → List Expected → Type 0
AreAtPorts ports events = All (IsExpectedAt ports) events
