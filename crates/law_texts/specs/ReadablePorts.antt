-- Ports at which what is written is read.
use Rattle.std.specs.Prelude.{◌≡◌, ℕ, List, Some, slice_get}
use Rattle.std.specs.List.{AllZip}
use Rattle.est_syntax.specs.declared.kind.Kind.{Kind}
use Rattle.est_syntax.specs.declared.ports.Port.{Port}
use Rattle.est_syntax.specs.declared.ports.Signal.{Signal}
use Rattle.est_values.specs.FittingValues.{IsOrdinalOf}
use Rattle.law_texts.specs.PlainNames.{IsPlainName}
use Rattle.law_texts.specs.ReadableKinds.{IsReadableOrdinal, IsReadable}

-- A signal with a plain name, and with kinds of parameters whose values are read.
pub record IsReadableSignal (signal : Signal) : Type 0 where
  pub name : IsPlainName signal.name.bytes
  pub kinds : (i : ℕ) (k : Kind) → slice_get signal.kinds i ≡ Some k → IsReadable k

-- A port with a plain name, with such signals, and with subscripts that are read.
pub record IsReadablePort (port : Port) : Type 0 where
  pub name : IsPlainName port.name.bytes
  pub index_kinds : (i : ℕ) (k : Kind) → slice_get port.index_kinds i ≡ Some k
      → IsReadableOrdinal k
  pub index : AllZip IsOrdinalOf port.index_kinds port.index
  pub signals : (i : ℕ) (signal : Signal) → slice_get port.signals i ≡ Some signal
      → IsReadableSignal signal

-- each of the ports is one of these
abbrev pub AreReadablePorts : List Port → Type 0
AreReadablePorts ports =
    (i : ℕ) (port : Port) → slice_get ports i ≡ Some port → IsReadablePort port
