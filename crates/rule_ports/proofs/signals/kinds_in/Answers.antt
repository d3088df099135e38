use Rattle.std.proofs.Common.{ℕ, List, ap, ◌∙◌, ◌++◌}
use Rattle.rule_scope.specs.declared.declaration.Standing.{Standing}
use Rattle.rule_scope.specs.Outline.{entry_at}
use Rattle.rule_declares.specs.PortList.{kind_by, kinds_in}
use Rattle.rule_ports.proofs.NameSteps.{gathered}
use Rattle.rule_ports.proofs.signals.kinds_in.Goals as goal

pub loop-i-preserved : goal.loop-i-preserved
loop-i-preserved c =
    gathered (λ (n : List ℕ × Standing). kind_by (entry_at c.args.outline.now n.1.place))
    c.args.names.now c.loop-i.i (c.entry.result.0.now, c.entry.result.1) c.loop-i.kinds _
    (kinds_in c.args.outline.now c.args.names.now) c.entry.ensures
    (c.in_ok-push_kind.ensures ∙ ap (λ e. c.loop-i.kinds ++ kind_by e) c.entry-in-loop-i.ensures)
    c.loop-i.invariant
