-- Operators on values (ISO 7185, 6.7.2). Operands are evaluated in the order of the text, which the
-- standard leaves open (6.7.2.1).
use Rattle.std.specs.Prelude.{ℕ, nat_le, ℤ, pos, not, List}
use Rattle.std.specs.Prelude.{Result, Ok, Err, if◌then◌else◌}
use Rattle.std.specs.Prelude.{Option, Some}
use Rattle.est_syntax.specs.declared.constant.Sign.{Sign}
use Rattle.est_syntax.specs.declared.constant.Sign.TheVariants.{Minus}
use Rattle.est_syntax.specs.Kinds.{maxint}
use Rattle.est_syntax.specs.declared.expression.Operator.{Operator}
use Rattle.est_syntax.specs.declared.expression.Operator.TheVariants as operator
use Rattle.est_values.specs.declared.value.Value.{Value}
use Rattle.est_values.specs.declared.value.Value.TheVariants as value
use Rattle.est_values.specs.Integers.{negative}
use Rattle.mean_blocks.specs.declared.fault.BlockFault.{BlockFault}
use Rattle.mean_blocks.specs.declared.fault.BlockFault.TheVariants.{Undefined}
use Rattle.mean_blocks.specs.Outcome.{Outcome, ◌>>=◌, give, lift, on_ok}
use Rattle.mean_blocks.specs.OrdinalOperators as ordinals
use Rattle.mean_blocks.specs.OrdinalOperators.{truth, is_true, exact}
use Rattle.mean_blocks.specs.SetOperators.{is_member, with_span, combined, decided}
use Rattle.mean_blocks.specs.WorkingState.{Counts}

-- the ordinal that a value is
abbrev pub ordinal_in : Value → Result ℤ BlockFault
ordinal_in (value.Ordinal z) = Ok z
ordinal_in _ = Err Undefined

-- the integer of an unsigned number, which is one of this profile (ISO 7185, 6.1.5)
abbrev pub unsigned_integer : ℕ → Result Value BlockFault
unsigned_integer n = if nat_le n maxint then Ok (value.Ordinal (pos n)) else Err Undefined

-- the same in an evaluation
abbrev pub ordinal : {S : Type 0} → Value → S → Outcome S ℤ
ordinal v = lift (ordinal_in v)

-- the value of a variable, which has to be defined: an array or a record is, whatever its parts are
abbrev pub defined_in : Value → Result Value BlockFault
defined_in value.Undefined = Err Undefined
defined_in v = Ok v

-- the same in an evaluation
abbrev pub defined : {S : Type 0} → Value → S → Outcome S Value
defined v = lift (defined_in v)

-- one of two, by the ordinal of a boolean
abbrev pub choose : {S A : Type 0} → ℤ → (S → Outcome S A) → (S → Outcome S A) → S → Outcome S A
choose z first second = if is_true z then first else second

-- an operator on two values
abbrev pub operated : Operator → Value → Value → Result Value BlockFault
operated op (value.Ordinal a) (value.Ordinal b) =
    on_ok (ordinals.operated op a b) (λ z. Ok (value.Ordinal z))
operated operator.Within (value.Ordinal a) (value.Set ys) = decided (is_member ys a)
operated op (value.Set xs) (value.Set ys) = combined op xs ys
operated op _ _ = Err Undefined

-- an operator on a value and what the right operand yields; `and` and `or` stop early (profile: ISO
-- 7185, 6.7.2.1, leaves the order open)
abbrev pub joined : Operator → Value → Counts Value → Counts Value
joined operator.Or a right = ordinal a >>= λ z. choose z (give a) right
joined operator.And a right = ordinal a >>= λ z. choose z right (give a)
joined op a right = right >>= λ b. lift (operated op a b)

-- an operand after its sign
abbrev pub signed : Option Sign → Value → Counts Value
signed (Some Minus) a = ordinal a >>= λ z. lift (exact (negative z)) >>= λ y. give (value.Ordinal y)
signed _ a = give a

-- the other boolean (ISO 7185, 6.7.2.3)
abbrev pub negated : Value → Counts Value
negated a = ordinal a >>= λ z. give (value.Ordinal (truth (not (is_true z))))

-- a set with the members from one to another more
abbrev pub spanned : Value → Value → List ℤ → Counts (List ℤ)
spanned a b zs = ordinal a >>= λ x. ordinal b >>= λ y. give (with_span x y zs)
