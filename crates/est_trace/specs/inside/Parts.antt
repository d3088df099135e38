-- What is read of an interaction, a part at a time.
use Rattle.std.specs.Prelude.{◌≡◌, ℕ, Option, Some, None, List, [], slice_get}
use Rattle.text_reader.specs.Grammar.{pick}
use Rattle.est_syntax.specs.declared.kind.Kind.{Kind}
use Rattle.est_syntax.specs.declared.ports.Port.{Port}
use Rattle.est_syntax.specs.declared.ports.Signal.{Signal}
use Rattle.est_values.specs.declared.value.Value.{Value}
use Rattle.est_meaning.specs.declared.event.Event.TheVariants.{Arrives, Leaves}
use Rattle.est_meaning.specs.declared.trace.Expected.{Expected}
use Rattle.est_meaning.specs.declared.trace.Expected.TheVariants.{Known}
use Rattle.text_reader.specs.Going.{Shape}
use Rattle.text_values.specs.ValueShapes.{AreBracketed, ShowsOrdinal}

-- there is a port of this number
abbrev pub IsPortAt : List Port → ℕ → Type 0
IsPortAt ports n = (p : Port) × (slice_get ports n ≡ Some p)

-- an arrival by the numbers of its port and of its signal, with these values, and a departure
abbrev pub arriving : ℕ → ℕ → List Value → Expected
arriving port signal values =
    Known (Arrives (record { port = port; signal = signal; values = values }))

abbrev pub leaving : ℕ → ℕ → List Value → Expected
leaving port signal values =
    Known (Leaves (record { port = port; signal = signal; values = values }))

-- the name of a signal, if there is one
abbrev pub signal_name_of : Option Signal → List ℕ
signal_name_of None = []
signal_name_of (Some signal) = signal.name.bytes

-- the kinds of the parameters of a signal, if there is one
abbrev pub parameters_of : Option Signal → List Kind
parameters_of None = []
parameters_of (Some signal) = signal.kinds

-- the port of number n is that element, of the array that a head stands for, whose subscripts have
-- this shape
pub record ShowsElement (ports : List Port) (first n : ℕ) (t : Shape) : Type 0 where
  pub head : Port
  pub port : Port
  pub head_is : slice_get ports first ≡ Some head
  pub port_is : slice_get ports n ≡ Some port
  pub named : port.name.bytes ≡ head.name.bytes
  pub index_shown : AreBracketed ShowsOrdinal head.index_kinds port.index t

-- the signal of number n, with what stands in its brackets
pub record ShowsSignal (Shown : List Kind → Shape → Type 0) (signals : List Signal) (n : ℕ)
    (t : Shape) : Type 0 where
  pub signal : Signal
  pub brackets_shape : Shape
  pub shape : t ≡ pick n brackets_shape
  pub signal_is : slice_get signals n ≡ Some signal
  pub shown : Shown signal.kinds brackets_shape
