use Rattle.std.specs.Prelude.{flat_map}
use Rattle.std.proofs.Common.{◌≡◌, drop}
use Rattle.rule_scope.specs.LeastSoFar.{least_with}
use Rattle.rule_statements.specs.Signals.{sending_faults}
use Rattle.rule_statements.proofs.signals.check_sendings.Given as goal

abbrev pub invariant-loop-sending : goal.invariant-loop-sending
invariant-loop-sending l = least_with l.least.at
    (flat_map (sending_faults l.outline) (drop l.sending-index l.sendings)) ≡ least_with l.fn.least.at
    (flat_map (sending_faults l.outline) l.sendings)
