use Rattle.std.proofs.Common.{◌≡◌, drop, ◌++◌}
use Rattle.rule_declares.specs.PortList.{kinds_in}
use Rattle.rule_ports.proofs.signals.kinds_in.Given as goal

abbrev pub invariant-loop-i : goal.invariant-loop-i
invariant-loop-i l =
    l.kinds ++ kinds_in l.outline (drop l.i l.names) ≡ kinds_in l.outline l.names
