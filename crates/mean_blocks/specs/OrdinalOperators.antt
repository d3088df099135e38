-- Operators on ordinals (ISO 7185, 6.7.2.2 and 6.7.2.5).
use Rattle.std.specs.Prelude.{zero, suc, ℤ, pos, negsuc, Bool, true, false, int_lt, int_le, not}
use Rattle.std.specs.Prelude.{Result, Ok, Err}
use Rattle.std.specs.Ordering.{int_eq}
use Rattle.est_syntax.specs.declared.expression.Operator.{Operator}
use Rattle.est_syntax.specs.declared.expression.Operator.TheVariants as operator
use Rattle.est_values.specs.declared.arithmetic.NumberFault.{NumberFault}
use Rattle.est_values.specs.declared.arithmetic.NumberFault.TheVariants as number
use Rattle.est_values.specs.Integers.{plus, minus, times, divided, modulo}
use Rattle.mean_blocks.specs.declared.fault.BlockFault.{BlockFault}
use Rattle.mean_blocks.specs.declared.fault.BlockFault.TheVariants.{Range, Divide, Undefined}

-- a fault of arithmetic, as one of a block
abbrev pub fault_of : NumberFault → BlockFault
fault_of number.Range = Range
fault_of number.Divide = Divide

-- a result of arithmetic
abbrev pub exact : Result ℤ NumberFault → Result ℤ BlockFault
exact (Ok z) = Ok z
exact (Err f) = Err (fault_of f)

-- the ordinals of false and true (ISO 7185, 6.4.2.2)
abbrev pub truth : Bool → ℤ
truth false = pos 0
truth true = pos 1

-- whether an ordinal is that of true
abbrev pub is_true : ℤ → Bool
is_true (pos zero) = false
is_true (pos (suc n)) = true
is_true (negsuc n) = false

-- an operator on two ordinals; `and` and `or` do not come to it
abbrev pub operated : Operator → ℤ → ℤ → Result ℤ BlockFault
operated operator.Plus a b = exact (plus a b)
operated operator.Minus a b = exact (minus a b)
operated operator.Times a b = exact (times a b)
operated operator.Div a b = exact (divided a b)
operated operator.Mod a b = exact (modulo a b)
operated operator.Equal a b = Ok (truth (int_eq a b))
operated operator.Unequal a b = Ok (truth (not (int_eq a b)))
operated operator.Below a b = Ok (truth (int_lt a b))
operated operator.AtMost a b = Ok (truth (int_le a b))
operated operator.Above a b = Ok (truth (int_lt b a))
operated operator.AtLeast a b = Ok (truth (int_le b a))
operated _ a b = Err Undefined
