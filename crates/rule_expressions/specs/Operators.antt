-- What operators take and yield (ISO 7185, 6.7.2).
use Rattle.std.specs.Prelude.{ℕ, Bool, true, false, ◌||◌, List, []}
use Rattle.std.specs.Prelude.{Option, Some, None, if◌then◌else◌}
use Rattle.est_syntax.specs.Faults.{broken}
use Rattle.est_syntax.specs.declared.constant.Sign.{Sign}
use Rattle.est_syntax.specs.declared.expression.Operator.{Operator}
use Rattle.est_syntax.specs.declared.expression.Operator.TheVariants as operator
use Rattle.est_syntax.specs.declared.rule.Fault.{Fault}
use Rattle.est_syntax.specs.declared.rule.Rule.TheVariants.{WrongKind}
use Rattle.est_values.specs.declared.types.Host.{Host}
use Rattle.est_values.specs.declared.types.Host.TheVariants as host
use Rattle.est_values.specs.Types.{Yielded, Ordinal, Set, is_host, are_hosts_one, is_assignable}
use Rattle.rule_expressions.specs.declared.operators.Wanted.{Wanted}
use Rattle.rule_expressions.specs.declared.operators.Wanted.TheVariants as wanted

-- whether a type is an ordinal
abbrev pub is_ordinal : Yielded → Bool
is_ordinal (Ordinal h) = true
is_ordinal _ = false

-- whether a type is an ordinal of this host
abbrev pub is_of : Host → Yielded → Bool
is_of h (Ordinal g) = is_host h g
is_of h _ = false

-- whether a type is a set
abbrev pub is_set : Yielded → Bool
is_set (Set h) = true
is_set _ = false

-- whether a place takes a type
abbrev pub is_taken : Wanted → Yielded → Bool
is_taken wanted.Integer t = is_of host.Integer t
is_taken wanted.Boolean t = is_of host.Boolean t
is_taken wanted.Ordinal t = is_ordinal t
is_taken wanted.IntegerOrSet t = is_of host.Integer t || is_set t
is_taken wanted.OrdinalOrSet t = is_ordinal t || is_set t

-- what a part breaks whose place wants this, where the part has a type
abbrev pub wants : Wanted → Option Yielded → ℕ → List Fault
wants w None place = []
wants w (Some t) place = if is_taken w t then [] else broken place WrongKind

-- and what it yields there, where it has such a type
abbrev pub kept : Wanted → Option Yielded → Option Yielded
kept w None = None
kept w (Some t) = if is_taken w t then Some t else None

-- what a value breaks that is given to a variable of a type, where both are known
abbrev pub gives : Option Yielded → Option Yielded → ℕ → List Fault
gives (Some target) (Some t) place = if is_assignable target t then [] else broken place WrongKind
gives _ _ place = []

-- whether it may be given
abbrev pub is_given : Option Yielded → Option Yielded → Bool
is_given (Some target) (Some t) = is_assignable target t
is_given _ _ = false

-- what the left operand of an operator is
abbrev pub left_of : Operator → Wanted
left_of operator.Equal = wanted.OrdinalOrSet
left_of operator.Unequal = wanted.OrdinalOrSet
left_of operator.Below = wanted.Ordinal
left_of operator.AtMost = wanted.OrdinalOrSet
left_of operator.Above = wanted.Ordinal
left_of operator.AtLeast = wanted.OrdinalOrSet
left_of operator.Within = wanted.Ordinal
left_of operator.Plus = wanted.IntegerOrSet
left_of operator.Minus = wanted.IntegerOrSet
left_of operator.Or = wanted.Boolean
left_of operator.Times = wanted.IntegerOrSet
left_of operator.Div = wanted.Integer
left_of operator.Mod = wanted.Integer
left_of operator.And = wanted.Boolean

-- whether two operands are ordinals of one host, or sets over one host
abbrev pub do_agree : Yielded → Yielded → Bool
do_agree (Ordinal h) (Ordinal g) = is_host h g
do_agree (Set h) (Set g) = are_hosts_one h g
do_agree _ _ = false

-- whether an ordinal may be a member of a set
abbrev pub may_be_in : Yielded → Yielded → Bool
may_be_in (Ordinal h) (Set g) = are_hosts_one (Some h) g
may_be_in _ _ = false

-- whether the right operand of an operator goes with the left one
abbrev pub do_match : Operator → Yielded → Yielded → Bool
do_match operator.Within l r = may_be_in l r
do_match _ l r = do_agree l r

-- two sets make one over the host of either
abbrev pub united : Yielded → Yielded → Yielded
united (Set None) r = r
united l r = l

-- whether an operator compares its operands
abbrev pub is_relation : Operator → Bool
is_relation operator.Equal = true
is_relation operator.Unequal = true
is_relation operator.Below = true
is_relation operator.AtMost = true
is_relation operator.Above = true
is_relation operator.AtLeast = true
is_relation operator.Within = true
is_relation _ = false

-- what an operator yields of operands that go together
abbrev pub result_of : Operator → Yielded → Yielded → Yielded
result_of op l r = if is_relation op then Ordinal host.Boolean else united l r

-- what an operator yields of two operands, where they go together
abbrev pub matched : Operator → Yielded → Yielded → Option Yielded
matched op l r = if do_match op l r then Some (result_of op l r) else None

-- what an operator yields, where its left operand is taken and both go together
abbrev pub operated : Operator → Option Yielded → Option Yielded → Option Yielded
operated op (Some l) (Some r) = if is_taken (left_of op) l then matched op l r else None
operated op _ _ = None

-- what a right operand breaks, at its place, that does not go with the left one
abbrev pub disagrees : Operator → Yielded → Yielded → ℕ → List Fault
disagrees op l r place = if do_match op l r then [] else broken place WrongKind

-- what a right operand breaks, at its place, where the left one is taken
abbrev pub right_faults : Operator → Option Yielded → Option Yielded → ℕ → List Fault
right_faults op (Some l) (Some r) place =
    if is_taken (left_of op) l then disagrees op l r place else []
right_faults op _ _ place = []

-- what an operand yields after its sign, if there is one, which wants an integer
abbrev pub signed : Option Sign → Option Yielded → Option Yielded
signed None t = t
signed (Some sign) t = kept wanted.Integer t

-- what the operand breaks there
abbrev pub sign_faults : Option Sign → Option Yielded → ℕ → List Fault
sign_faults None t place = []
sign_faults (Some sign) t place = wants wanted.Integer t place

-- a set of members of a host, if it has some, with one more of this host
abbrev pub with_host : Option Host → Host → Option Yielded
with_host g h = if are_hosts_one (Some h) g then Some (Set (Some h)) else None

-- a set with one member more
abbrev pub with_member : Option Yielded → Option Yielded → Option Yielded
with_member (Some (Set g)) (Some (Ordinal h)) = with_host g h
with_member _ _ = None

-- what a member breaks, at its place, that is of another host than those before it
abbrev pub member_disagrees : Option Yielded → Option Yielded → ℕ → List Fault
member_disagrees (Some (Set g)) (Some (Ordinal h)) place =
    if are_hosts_one (Some h) g then [] else broken place WrongKind
member_disagrees _ _ place = []

-- members from one to another, which have one host
abbrev pub spanned : Option Yielded → Option Yielded → Option Yielded
spanned (Some l) (Some r) = if is_ordinal l then (if do_agree l r then Some l else None) else None
spanned _ _ = None

-- what the later of them breaks, at its place
abbrev pub span_faults : Option Yielded → Option Yielded → ℕ → List Fault
span_faults (Some l) (Some r) place =
    if is_ordinal l then (if do_agree l r then [] else broken place WrongKind) else []
span_faults _ _ place = []
