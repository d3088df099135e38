use Rattle.std.proofs.Common.{◌≡◌, drop, ◌++◌}
use Rattle.rule_declares.specs.PortList.{signals_in}
use Rattle.rule_ports.proofs.signals.signals_in.Given as goal

abbrev pub invariant-loop-i : goal.invariant-loop-i
invariant-loop-i l =
    l.signals ++ signals_in l.outline l.role (drop l.i l.names)
    ≡ signals_in l.outline l.role l.names
