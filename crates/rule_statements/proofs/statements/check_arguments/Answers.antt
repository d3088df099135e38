use Rattle.std.proofs.Common.{arith}
use Rattle.rule_statements.proofs.Turns.{arguments_turn, arguments_end}
use Rattle.rule_statements.proofs.statements.check_arguments.Goals as goal

pub loop-i-preserved : goal.loop-i-preserved
loop-i-preserved c = arguments_turn c.args.outline.now c.args.function c.args.loops.now
    c.args.procedure c.args.name _ _ _ _ _ _ c.loop-i-test.true c.index-exprs-i.is
    c.check_argument.ensures c.loop-i.invariant

pub returns : goal.returns
returns c = arguments_end c.args.outline.now c.args.function c.args.loops.now c.args.procedure
    c.args.name c.args.exprs.now c.loop-i.i _ _ _
    (omega (arith, c.loop-i-test.false, c.loop-i.auto.i-end)) c.check_number.ensures.faults
    c.loop-i.invariant
