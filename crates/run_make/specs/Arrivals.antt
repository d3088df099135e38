-- What may arrive: the pairs of a port and a signal that it receives, in order (ISO 9074, 7:
-- channel-definition).
use Rattle.std.specs.Prelude.{ℕ, ◌+◌, List, [], ◌∷◌, ◌++◌, if◌then◌else◌}
use Rattle.est_syntax.specs.declared.ports.Port.{Port}
use Rattle.est_syntax.specs.declared.ports.Signal.{Signal}
use Rattle.run_make.specs.declared.arrivals.Arrival.{Arrival}

-- those of a port among signals that are numbered from here on
abbrev pub received_from : ℕ → ℕ → List Signal → List Arrival
received_from port n [] = []
received_from port n (x ∷ xs) =
    if x.receives then record { port = port; signal = n } ∷ received_from port (n + 1) xs
    else received_from port (n + 1) xs

-- those of ports that are numbered from here on
abbrev pub arrivals_from : ℕ → List Port → List Arrival
arrivals_from n [] = []
arrivals_from n (p ∷ ps) = received_from n 0 p.signals ++ arrivals_from (n + 1) ps

-- those of all ports
abbrev pub arrivals_of : List Port → List Arrival
arrivals_of ports = arrivals_from 0 ports
