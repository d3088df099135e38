use Rattle.std.proofs.Common.{ap, ◌∙◌}
use Rattle.est_values.specs.Integers.{in_range}
use Rattle.est_values.proofs.WideNumbers.{wide_product}
use Rattle.est_values.proofs.arithmetic.times.Goals as goal

pub returns : goal.returns
returns c = c.in_range.ensures ∙ ap in_range (wide_product _ _ c.ranges.a c.ranges.b)
