use Rattle.std.proofs.Common.{arith}
use Rattle.text_reader.proofs.Values.{value_of-passes}
use Rattle.text_reader.proofs.number.value_up_to.Goals as goal

pub returns-then-value-from : goal.returns-then-value-from
returns-then-value-from c = let p = value_of-passes c.args.digits.now c.loop-digit.digit-index
    c.loop-digit.value (omega (arith, c.loop-digit-test.true)) c.loop-digit.invariant.1 in omega
    arith
