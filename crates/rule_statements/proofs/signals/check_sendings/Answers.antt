use Rattle.std.specs.Prelude.{flat_map}
use Rattle.std.proofs.Common.{refl}
use Rattle.rule_scope.proofs.LeastLaws.{least_loop}
use Rattle.rule_statements.specs.Signals.{sending_faults}
use Rattle.rule_statements.proofs.signals.check_sendings.Goals as goal

pub loop-sending-preserved : goal.loop-sending-preserved
loop-sending-preserved c = least_loop (flat_map (sending_faults c.args.outline.now))
    (sending_faults c.args.outline.now) _ _ _ _ _ _ (λ y ys. refl) c.loop-sending-test.true
    c.sending-item.is c.check_sending.ensures c.loop-sending.invariant
