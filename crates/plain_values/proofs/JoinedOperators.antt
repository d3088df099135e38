-- An operator on a left value and what the right operand yields, in two steps.
use Rattle.std.proofs.Common.{◌≡◌, refl, ℕ, ℤ, Bool, true, false, Result, Ok, Err}
use Rattle.std.specs.Prelude.{if◌then◌else◌, not}
use Rattle.est_syntax.specs.declared.expression.Operator.{Operator}
use Rattle.est_syntax.specs.declared.expression.Operator.TheVariants as operator
use Rattle.est_values.specs.declared.value.Value.{Value}
use Rattle.mean_blocks.specs.declared.fault.BlockFault.{BlockFault}
use Rattle.mean_blocks.specs.Outcome.{Outcome, Done, Fault, Limit, onward, give, lift}
use Rattle.mean_blocks.specs.OrdinalOperators.{is_true}
use Rattle.mean_blocks.specs.WorkingState.{Counts}
use Rattle.mean_blocks.specs.ValueOperators.{ordinal_in, choose, joined}
use Rattle.plain_values.specs.JoinedValues.{by_ordinal, stops, of_both}

-- what comes of both operands, where the left value does not decide
abbrev pub after_both : Operator → Value → Counts Value → Counts Value
after_both op a right = λ n. onward (right n) (λ b. lift (of_both op a b))

-- the value of the right operand alone
right_alone : (o : Outcome ℕ Value) → o ≡ onward o (λ b. lift (Ok b))
right_alone (Done b n) = refl
right_alone (Fault f) = refl
right_alone Limit = refl

or_chosen : (t : Bool) (a : Value) (right : Counts Value) (n : ℕ)
    → (if t then give a else right) n ≡ (if t then give a else after_both operator.Or a right) n
or_chosen true a right n = refl
or_chosen false a right n = right_alone (right n)

and_chosen : (t : Bool) (a : Value) (right : Counts Value) (n : ℕ)
    → (if t then right else give a) n
    ≡ (if not t then give a else after_both operator.And a right) n
and_chosen true a right n = right_alone (right n)
and_chosen false a right n = refl

or_at : (r : Result ℤ BlockFault) (a : Value) (right : Counts Value) (n : ℕ)
    → onward (lift r n) (λ z. choose z (give a) right)
    ≡ onward (lift (by_ordinal r is_true) n)
    (λ t. if t then give a else after_both operator.Or a right)
or_at (Ok z) a right n = or_chosen (is_true z) a right n
or_at (Err f) a right n = refl

and_at : (r : Result ℤ BlockFault) (a : Value) (right : Counts Value) (n : ℕ)
    → onward (lift r n) (λ z. choose z right (give a))
    ≡ onward (lift (by_ordinal r (λ z. not (is_true z))) n)
    (λ t. if t then give a else after_both operator.And a right)
and_at (Ok z) a right n = and_chosen (is_true z) a right n
and_at (Err f) a right n = refl

-- an operator is evaluated in two steps
pub joined_at : (op : Operator) (a : Value) (right : Counts Value) (n : ℕ)
    → joined op a right n
    ≡ onward (lift (stops op a) n) (λ t. if t then give a else after_both op a right)
joined_at operator.Or a right n = or_at (ordinal_in a) a right n
joined_at operator.And a right n = and_at (ordinal_in a) a right n
joined_at operator.Equal a right n = refl
joined_at operator.Unequal a right n = refl
joined_at operator.Below a right n = refl
joined_at operator.AtMost a right n = refl
joined_at operator.Above a right n = refl
joined_at operator.AtLeast a right n = refl
joined_at operator.Within a right n = refl
joined_at operator.Plus a right n = refl
joined_at operator.Minus a right n = refl
joined_at operator.Times a right n = refl
joined_at operator.Div a right n = refl
joined_at operator.Mod a right n = refl
