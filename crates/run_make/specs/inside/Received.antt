-- What a port receives.
use Rattle.std.specs.Prelude.{◌≡◌, IsTrue, List, Some, slice_get}
use Rattle.est_syntax.specs.declared.ports.Port.{Port}
use Rattle.est_syntax.specs.declared.ports.Signal.{Signal}
use Rattle.run_make.specs.declared.arrivals.Arrival.{Arrival}

-- a port receives a signal, by their numbers
pub record IsReceived (ports : List Port) (a : Arrival) : Type 0 where
  pub port : Port
  pub port_is : slice_get ports a.port ≡ Some port
  pub signal : Signal
  pub signal_is : slice_get port.signals a.signal ≡ Some signal
  pub receives : IsTrue signal.receives
