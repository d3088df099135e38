use Rattle.std.proofs.Common.{arith}
use Rattle.rule_ports.proofs.Splits.{split_low, split_high}
use Rattle.rule_ports.proofs.ports.points_before.Goals as goal

pub loop-low-preserved-then-until-number : goal.loop-low-preserved-then-until-number
loop-low-preserved-then-until-number c =
    split_low c.args.points.now c.args.number c.loop-low.low c.loop-low.high _ c.until.result
    c.requires c.until.ensures c.if-until-number.true (omega arith) c.loop-low.invariant

pub loop-low-preserved : goal.loop-low-preserved
loop-low-preserved c =
    split_high c.args.points.now c.args.number c.loop-low.low c.loop-low.high _ c.until.result
    c.requires c.until.ensures (omega arith) (omega arith) (omega arith) c.loop-low.invariant
