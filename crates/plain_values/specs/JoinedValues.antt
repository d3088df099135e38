-- Operators on a left value and what the right operand yields, in two steps: whether the left value
-- decides, and else what comes of both (profile: ISO 7185, 6.7.2.1, leaves the order open).
use Rattle.std.specs.Prelude.{ℤ, Bool, false, not, Result, Ok, Err}
use Rattle.est_syntax.specs.declared.expression.Operator.{Operator}
use Rattle.est_syntax.specs.declared.expression.Operator.TheVariants as operator
use Rattle.est_values.specs.declared.value.Value.{Value}
use Rattle.mean_blocks.specs.declared.fault.BlockFault.{BlockFault}
use Rattle.mean_blocks.specs.OrdinalOperators.{is_true}
use Rattle.mean_blocks.specs.ValueOperators.{ordinal_in, operated}

-- with the ordinal of a boolean
abbrev pub by_ordinal : Result ℤ BlockFault → (ℤ → Bool) → Result Bool BlockFault
by_ordinal (Ok z) test = Ok (test z)
by_ordinal (Err f) test = Err f

-- whether the left value is that of both
abbrev pub stops : Operator → Value → Result Bool BlockFault
stops operator.Or a = by_ordinal (ordinal_in a) is_true
stops operator.And a = by_ordinal (ordinal_in a) (λ z. not (is_true z))
stops _ a = Ok false

-- what comes of both values, where the left one does not decide
abbrev pub of_both : Operator → Value → Value → Result Value BlockFault
of_both operator.Or a b = Ok b
of_both operator.And a b = Ok b
of_both op a b = operated op a b
