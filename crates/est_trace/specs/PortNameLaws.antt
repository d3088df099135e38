-- What holds of the ports of every tree.
use Rattle.est_syntax.specs.declared.specification.Spec.{Spec}
use Rattle.est_meaning.specs.rule_declares.PortList.{ports_of}
use Rattle.est_trace.specs.PortNames.{GoodPorts}

-- they are found by their names and subscripts
abbrev pub PortsAreGood : Type 0
PortsAreGood = (s : Spec) → GoodPorts (ports_of s)
