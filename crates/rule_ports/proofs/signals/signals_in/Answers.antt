use Rattle.std.proofs.Common.{ℕ, List}
use Rattle.rule_scope.specs.declared.declaration.Standing.{Standing}
use Rattle.rule_scope.specs.Outline.{member_at}
use Rattle.rule_declares.specs.PortList.{signal_by, signals_in}
use Rattle.rule_ports.proofs.NameSteps.{gathered}
use Rattle.rule_ports.proofs.signals.signals_in.Goals as goal

pub loop-i-preserved : goal.loop-i-preserved
loop-i-preserved c =
    gathered (λ (n : List ℕ × Standing). signal_by c.args.outline.now c.args.role n
    (member_at c.args.outline.now n.1.place)) c.args.names.now c.loop-i.i
    (c.entry.result.0.now, c.entry.result.1) c.loop-i.signals _
    (signals_in c.args.outline.now c.args.role c.args.names.now) c.entry.ensures
    c.in_ok-push_signal.ensures c.loop-i.invariant
