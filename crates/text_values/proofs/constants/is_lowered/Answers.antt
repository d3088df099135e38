use Rattle.std.proofs.Common.{sym, ◌∙◌, arith}
use Rattle.text_values.proofs.Lowered.{they_differ, they_agree}
use Rattle.text_values.proofs.constants.is_lowered.Goals as goal

pub returns-then-to_ascii_lowercase-name : goal.returns-then-to_ascii_lowercase-name
returns-then-to_ascii_lowercase-name c =
    they_differ c.args.name.now c.args.bytes.now c.loop-i.i c.loop-i-test.true
    (λ e. c.if-to_ascii_lowercase-name.true (c.to_ascii_lowercase.ensures.value ∙ sym e))

pub returns : goal.returns
returns c =
    they_agree c.args.name.now c.args.bytes.now c.if-bytes-name.false
    (λ j lt. c.loop-i.invariant j (omega (arith, lt, c.loop-i-test.false)))
