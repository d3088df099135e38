-- What holds of the ports of every tree.
use Rattle.std.specs.Prelude.{◌≡◌, ℕ, ℤ, List, Some, length, slice_get}
use Rattle.est_syntax.specs.declared.ports.Port.{Port}
use Rattle.est_syntax.specs.declared.ports.Signal.{Signal}
use Rattle.est_syntax.specs.declared.specification.Spec.{Spec}
use Rattle.rule_declares.specs.Differing.{HaveDifferentNames}
use Rattle.rule_ports.specs.Counts.{counted, counts_of}
use Rattle.rule_declares.specs.PortList.{ports_of}

-- the number of ports is the one that is told of a specification, as far as 32 bits go
abbrev pub PortsAreCounted : Type 0
PortsAreCounted = (s : Spec) → (counts_of s).ports ≡ counted (length (ports_of s))

-- no two ports have one name and the same subscripts
abbrev pub PortsDiffer : Type 0
PortsDiffer = (s : Spec)
    → HaveDifferentNames {N = List ℕ × List ℤ} (λ p. (p.name.bytes, p.index)) (ports_of s)

-- no two signals of a port have one name
abbrev pub SignalsDiffer : Type 0
SignalsDiffer = (s : Spec) (i : ℕ) (p : Port) → slice_get (ports_of s) i ≡ Some p
    → HaveDifferentNames (λ (x : Signal). x.name.bytes) p.signals
