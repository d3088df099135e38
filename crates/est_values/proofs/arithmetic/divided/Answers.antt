use Rattle.std.proofs.Common.{ap, ◌∙◌}
use Rattle.est_values.specs.Integers.{in_range}
use Rattle.est_values.proofs.WideNumbers.{wide_quotient, has_quotient}
use Rattle.est_values.proofs.arithmetic.divided.Goals as goal

pub returns : goal.returns
returns c =
    has_quotient c.args.a c.args.b _ c.if-b-eq0.false
    (c.in_range.ensures ∙ ap in_range (wide_quotient _ _ c.ranges.a c.ranges.b))
