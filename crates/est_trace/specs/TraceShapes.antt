-- Which shapes traces have.
use Rattle.std.specs.Prelude.{◌≡◌, ℕ, Bool, true, false, List, [], ◌∷◌, Some, slice_get}
use Rattle.text_reader.specs.Grammar.{nothing, leaf, both, left, right, some, pick}
use Rattle.est_syntax.specs.declared.kind.Kind.{Kind}
use Rattle.est_syntax.specs.declared.ports.Direction.{Direction}
use Rattle.est_syntax.specs.declared.ports.Direction.TheVariants.{Receives, Sends}
use Rattle.est_syntax.specs.declared.ports.Port.{Port}
use Rattle.est_syntax.specs.declared.ports.Signal.{Signal}
use Rattle.est_values.specs.declared.value.Value.{Value}
use Rattle.est_seen.specs.SeenValues.{MatchEach, SomeHasAny}
use Rattle.est_seen.specs.declared.seen.Seen.{Seen}
use Rattle.est_meaning.specs.declared.event.Interaction.{Interaction}
use Rattle.est_meaning.specs.declared.event.Event.TheVariants.{Arrives, Leaves, Passes}
use Rattle.est_meaning.specs.declared.trace.Expected.{Expected}
use Rattle.est_meaning.specs.declared.trace.Expected.TheVariants.{Known, Partly}
use Rattle.est_meaning.specs.RecordedTraces.{Recorded}
use Rattle.text_reader.specs.Tests.{value}
use Rattle.text_reader.specs.Going.{Shape}
use Rattle.text_values.specs.declared.formats.Format.{Format}
use Rattle.text_values.specs.declared.formats.Format.TheVariants.{Complete, Partial}
use Rattle.text_values.specs.declared.formats.Version.TheVariants.{First, Second, Third}
use Rattle.text_values.specs.SeenShapes.{ShowsSeen}
use Rattle.text_values.specs.TraceVersions.{format_of}
use Rattle.text_values.specs.ValueShapes.{AreBracketed, ShowsOrdinal, ShowsValue}

-- A signal at a port has this shape: which head among the ports, the subscripts of its port, which
-- signal of the head, and what stands in its brackets. The port has the name of the head.
pub record ShowsAt (Shown : List Kind → Shape → Type 0) (ports : List Port)
    (number at_signal : ℕ) (t : Shape) : Type 0 where
  pub first : ℕ
  pub head : Port
  pub port : Port
  pub signal : Signal
  pub index_shape : Shape
  pub brackets_shape : Shape
  pub shape : t ≡ pick first (both index_shape (pick at_signal brackets_shape))
  pub head_is : slice_get ports first ≡ Some head
  pub port_is : slice_get ports number ≡ Some port
  pub named : port.name.bytes ≡ head.name.bytes
  pub index_shown : AreBracketed ShowsOrdinal head.index_kinds port.index index_shape
  pub signal_is : slice_get head.signals at_signal ≡ Some signal
  pub shown : Shown signal.kinds brackets_shape

-- What was seen of a departure is a known event where every value was seen, and else one that is
-- partly seen.
pub data IsSeenAs (port signal : ℕ) (seen : List Seen) : Expected → Type 0 where
  whole : (values : List Value) → MatchEach seen values → (SomeHasAny seen → ⊥)
      → IsSeenAs port signal seen
      (Known (Leaves (record { port = port; signal = signal; values = values })))
  part : SomeHasAny seen → IsSeenAs port signal seen (Partly port signal seen)

-- what stands in the brackets of a known event of this port and signal: its values
pub record ShowsKnown (port signal : ℕ) (event : Interaction → Expected) (x : Expected)
    (ks : List Kind) (t : Shape) : Type 0 where
  pub values : List Value
  pub event_is : x ≡ event (record { port = port; signal = signal; values = values })
  pub shown : AreBracketed ShowsValue ks values t

-- what stands in those of a departure that may be seen in part: what was seen of its values
pub record ShowsPartly (port signal : ℕ) (x : Expected) (ks : List Kind) (t : Shape) : Type 0
  where
    pub seen : List Seen
    pub seen_as : IsSeenAs port signal seen x
    pub shown : AreBracketed ShowsSeen ks seen t

-- what stands in the brackets of an event that passes in this direction (`brackets`)
abbrev pub ShowsBrackets : Direction → Format → ℕ → ℕ → Expected → List Kind → Shape → Type 0
ShowsBrackets Receives format port signal x ks t =
    ShowsKnown port signal (λ i. Known (Arrives i)) x ks t
ShowsBrackets Sends Complete port signal x ks t =
    ShowsKnown port signal (λ i. Known (Leaves i)) x ks t
ShowsBrackets Sends Partial port signal x ks t = ShowsPartly port signal x ks t

-- an event that passes a port in this direction has this shape
pub record ShowsPassing (direction : Direction) (format : Format) (ports : List Port)
    (x : Expected) (t : Shape) : Type 0 where
  pub port : ℕ
  pub signal : ℕ
  pub shown : ShowsAt (ShowsBrackets direction format port signal x) ports port signal t

-- an event has this shape
abbrev pub ShowsEvent : Format → List Port → Expected → Shape → Type 0
ShowsEvent format ports x (left (leaf (value n))) = x ≡ Known (Passes n)
ShowsEvent format ports x (right (left t)) = ShowsPassing Receives format ports x t
ShowsEvent format ports x (right (right t)) = ShowsPassing Sends format ports x t
ShowsEvent format ports x _ = ⊥

-- events have this shape, each with the ones after it
abbrev pub ShowsEvents : Format → List Port → List Expected → Shape → Type 0
ShowsEvents format ports [] nothing = Unit {0}
ShowsEvents format ports (x ∷ xs) (some (both t u)) =
    ShowsEvent format ports x t × ShowsEvents format ports xs u
ShowsEvents format ports _ _ = ⊥

-- whether a trace ends quiet has this shape
abbrev pub ShowsQuiet : Bool → Shape → Type 0
ShowsQuiet false nothing = Unit {0}
ShowsQuiet true (some nothing) = Unit {0}
ShowsQuiet _ _ = ⊥

-- the rest of a trace behind its version has this shape
abbrev pub ShowsRest : Format → List Port → Recorded → Shape → Type 0
ShowsRest format ports r (both t u) = ShowsEvents format ports r.events t × ShowsQuiet r.quiet u
ShowsRest format ports r _ = ⊥

-- a trace has this shape, by its version
abbrev pub ShowsTrace : List Port → Recorded → Shape → Type 0
ShowsTrace ports r (left t) = ShowsRest (format_of First) ports r t
ShowsTrace ports r (right (left t)) = ShowsRest (format_of Second) ports r t
ShowsTrace ports r (right (right t)) = ShowsRest (format_of Third) ports r t
ShowsTrace ports r _ = ⊥
