-- The values of constants (ISO 7185, 6.3).
use Rattle.std.specs.Prelude.{ℕ, suc, ◌-◌, ◌^◌, min, ℤ, pos, ◌-ℤ◌, int_lt, Bool, true, false}
use Rattle.std.specs.Prelude.{nat_le, List, [], ◌++◌, Option, Some, None, is_none, if◌then◌else◌}
use Rattle.est_syntax.specs.Faults.{broken, broken_if}
use Rattle.est_syntax.specs.Kinds.{maxint}
use Rattle.est_syntax.specs.declared.name.Used.{Used}
use Rattle.est_syntax.specs.Signs.{is_minus}
use Rattle.est_syntax.specs.declared.constant.Sign.{Sign}
use Rattle.est_syntax.specs.declared.constant.Sign.TheVariants.{Plus, Minus}
use Rattle.est_syntax.specs.declared.constant.Constant.{Constant}
use Rattle.est_syntax.specs.declared.constant.Constant.TheVariants as constant
use Rattle.est_syntax.specs.declared.kind.Kind.{Kind, out-Kind}
use Rattle.est_syntax.specs.declared.kind.Kind.TheOpen as seen
use Rattle.est_syntax.specs.declared.kind.Kind.TheVariants as kind
use Rattle.est_syntax.specs.declared.kind.FieldKind.{FieldKind}
use Rattle.est_syntax.specs.declared.rule.Fault.{Fault}
use Rattle.est_syntax.specs.declared.rule.Rule.TheVariants.{WrongSort, NumberTooLarge}
use Rattle.rule_scope.specs.declared.declaration.Entry.{Entry}
use Rattle.rule_scope.specs.declared.declaration.Measured.{Measured}
use Rattle.rule_scope.specs.declared.declaration.Meant.{Meant}
use Rattle.rule_scope.specs.declared.declaration.Meant.TheVariants.{Predeclared, Seen}
use Rattle.rule_scope.specs.declared.declaration.Sort.TheVariants as sort
use Rattle.rule_scope.specs.declared.predeclared.PredeclaredName.{PredeclaredName}
use Rattle.rule_scope.specs.declared.predeclared.PredeclaredName.TheVariants as known
use Rattle.rule_scope.specs.Outline.{Outline, entry_at}
use Rattle.rule_scope.specs.Uses.{is_sort, meaning, meaning_faults, other_sort_faults}
use Rattle.rule_kinds.specs.declared.value.Valued.{Valued}

-- an ordinal of a host
abbrev pub valued : Kind → ℤ → Valued
valued host z = record { host = host; ordinal = z }

-- the constants that are predeclared
abbrev pub predeclared_constant : PredeclaredName → Option Valued
predeclared_constant known.False = Some (valued kind.Boolean (pos 0))
predeclared_constant known.True = Some (valued kind.Boolean (pos 1))
predeclared_constant known.Maxint = Some (valued kind.Integer (pos maxint))
predeclared_constant _ = None

-- whether a kind is that of the integers
abbrev pub is_integer : Kind → Bool
is_integer k = integer (out-Kind k)
  where
    integer : seen.Kind-F Kind FieldKind → Bool
    integer seen.Integer = true
    integer _ = false

-- an ordinal of a host, where it is no greater than the greatest integer
abbrev pub negated_by : Kind → ℤ → Option Valued
negated_by host z = if int_lt (pos maxint) z then None else Some (valued host z)

-- a value is negated, where that is an integer of the profile
abbrev pub negated : Valued → Option Valued
negated v = negated_by v.host (pos 0 -ℤ v.ordinal)

-- the integer that is written, without a sign or with one
abbrev pub number_value : Option Sign → ℕ → Option Valued
number_value sign n = if nat_le n maxint
    then Some (valued kind.Integer (if is_minus sign then pos 0 -ℤ pos n else pos n)) else None

-- the value after a sign, which has to be an integer
abbrev pub with_sign : Sign → Valued → Option Valued
with_sign Plus v = if is_integer v.host then Some v else None
with_sign Minus v = if is_integer v.host then negated v else None

-- the value after a sign or none
abbrev pub signed_value : Option Sign → Option Valued → Option Valued
signed_value sign None = None
signed_value None (Some v) = Some v
signed_value (Some sign) (Some v) = with_sign sign v

-- the value of this kind with this ordinal, where there are both
abbrev pub value_with : Option Measured → Option ℤ → Option Valued
value_with (Some m) (Some z) = Some (valued m.kind z)
value_with _ _ = None

-- the value of a declaration, where it is that of a constant and has one
abbrev pub value_by : Option Entry → Option Valued
value_by None = None
value_by (Some e) = if is_sort sort.Constant (Some e) then value_with e.kind e.ordinal else None

-- the value of the constant that a name of this meaning means
abbrev pub value_meant : Outline → Meant → Option Valued
value_meant o (Predeclared n) = predeclared_constant n
value_meant o (Seen p) = value_by (entry_at o p)
value_meant o _ = None

-- the value of the constant that a name means
abbrev pub named_value : Outline → Used → Option Valued
named_value o u = value_meant o (meaning o u)

-- the value of a constant
abbrev pub constant_value : Outline → Constant → Option Valued
constant_value o (constant.Number sign n place) = number_value sign n
constant_value o (constant.Named sign name place) = signed_value sign (named_value o name)
constant_value o (constant.Character code place) = Some (valued kind.Char (pos code))

-- the place of the first token of a constant
abbrev pub constant_place : Constant → ℕ
constant_place (constant.Number sign n place) = place
constant_place (constant.Named sign name place) = place
constant_place (constant.Character code place) = place

-- the place of a number, which stands after its sign (places are numbers of 32 bits)
abbrev pub number_place : Option Sign → ℕ → ℕ
number_place None place = place
number_place (Some sign) place = min (suc place) (2 ^ 32 - 1)

-- the place of the last token of a constant
abbrev pub constant_last : Constant → ℕ
constant_last (constant.Number sign n place) = number_place sign place
constant_last (constant.Named sign name place) = name.place
constant_last (constant.Character code place) = place

-- a name of this meaning where a constant is wanted
abbrev pub constant_used : Outline → Used → Meant → List Fault
constant_used o u m = meaning_faults m u.place
    (λ (n : PredeclaredName). broken_if (is_none (predeclared_constant n)) u.place WrongSort)
    (other_sort_faults o sort.Constant u.place)

-- a sign before the name of a constant that is no integer
abbrev pub sign_faults : Option Sign → ℕ → Option Valued → List Fault
sign_faults sign place None = []
sign_faults None place (Some v) = []
sign_faults (Some sign) place (Some v) = if is_integer v.host then [] else broken place WrongSort

-- a number that exceeds the greatest integer
abbrev pub number_faults : Option Sign → ℕ → ℕ → List Fault
number_faults sign n place =
    if nat_le n maxint then [] else broken (number_place sign place) NumberTooLarge

-- what a constant breaks
abbrev pub constant_faults : Outline → Constant → List Fault
constant_faults o (constant.Number sign n place) = number_faults sign n place
constant_faults o (constant.Named sign name place) =
    constant_used o name (meaning o name) ++ sign_faults sign name.place (named_value o name)
constant_faults o (constant.Character code place) = []
