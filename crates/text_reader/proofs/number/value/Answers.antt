use Rattle.std.proofs.Common.{arith}
use Rattle.text_reader.proofs.Values.{number-passes}
use Rattle.text_reader.proofs.number.value.Goals as goal

pub overflow_mul-value : goal.overflow_mul-value
overflow_mul-value c = let p = number-passes c.args.digits.now c.loop-digit.digit-index
    c.loop-digit.value c.requires (omega (arith, c.loop-digit-test.true)) c.loop-digit.invariant
    in omega arith

pub overflow_add-value : goal.overflow_add-value
overflow_add-value c = let p = number-passes c.args.digits.now c.loop-digit.digit-index
    c.loop-digit.value c.requires (omega (arith, c.loop-digit-test.true)) c.loop-digit.invariant
    in omega arith
