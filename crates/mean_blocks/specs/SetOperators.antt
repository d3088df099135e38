-- Sets, as ascending lists of their members, and operators on them (ISO 7185, 6.7.1, 6.7.2.4 and
-- 6.7.2.5).
use Rattle.std.specs.Prelude.{◌≡◌, ℕ, zero, suc, ℤ, pos, ◌+ℤ◌, Bool, ◌&&◌, not}
use Rattle.std.specs.Prelude.{nat_le, int_lt, List, [], ◌∷◌, length, Result, Ok, Err}
use Rattle.std.specs.Prelude.{if◌then◌else◌}
use Rattle.std.specs.Int.{int_gap}
use Rattle.std.specs.List.{filter, list_any, list_all}
use Rattle.std.specs.Ordering.{int_eq}
use Rattle.est_syntax.specs.declared.expression.Operator.{Operator}
use Rattle.est_syntax.specs.declared.expression.Operator.TheVariants as operator
use Rattle.est_values.specs.declared.value.Value.{Value}
use Rattle.est_values.specs.declared.value.Value.TheVariants as value
use Rattle.rule_declares.specs.rule_kinds.TypeTexts.{most_members}
use Rattle.mean_blocks.specs.declared.fault.BlockFault.{BlockFault}
use Rattle.mean_blocks.specs.declared.fault.BlockFault.TheVariants.{Range, Undefined}
use Rattle.mean_blocks.specs.OrdinalOperators.{truth}

-- whether an ordinal is a member
abbrev pub is_member : List ℤ → ℤ → Bool
is_member xs z = list_any (int_eq z) xs

-- a set with one member more
abbrev pub with_member : ℤ → List ℤ → List ℤ
with_member z [] = z ∷ []
with_member z (x ∷ xs) =
    if int_eq z x then x ∷ xs else (if int_lt z x then z ∷ x ∷ xs else x ∷ with_member z xs)

-- a set with so many members more, from one on
abbrev pub with_members : ℕ → ℤ → List ℤ → List ℤ
with_members zero z xs = xs
with_members (suc n) z xs = with_members n (z +ℤ pos 1) (with_member z xs)

-- a set with the members from one to another, of which there are none where the first is above
abbrev pub with_span : ℤ → ℤ → List ℤ → List ℤ
with_span a b xs = with_members (int_gap a (b +ℤ pos 1)) a xs

-- the members of either
abbrev pub united : List ℤ → List ℤ → List ℤ
united xs [] = xs
united xs (y ∷ ys) = united (with_member y xs) ys

-- the members of the first that are in the second
abbrev pub common : List ℤ → List ℤ → List ℤ
common xs ys = filter (is_member ys) xs

-- the members of the first that are not in the second
abbrev pub others : List ℤ → List ℤ → List ℤ
others xs ys = filter (λ z. not (is_member ys z)) xs

-- whether all members of one are in another
abbrev pub is_included : List ℤ → List ℤ → Bool
is_included xs ys = list_all (is_member ys) xs

-- whether two have the same members
abbrev pub are_equal : List ℤ → List ℤ → Bool
are_equal xs ys = is_included xs ys && is_included ys xs

-- a set, which has 64 members at most
abbrev pub set_of : List ℤ → Result Value BlockFault
set_of xs = if nat_le (length xs) most_members then Ok (value.Set xs) else Err Range

-- a boolean
abbrev pub decided : Bool → Result Value BlockFault
decided b = Ok (value.Ordinal (truth b))

-- an operator on two sets
abbrev pub combined : Operator → List ℤ → List ℤ → Result Value BlockFault
combined operator.Plus xs ys = set_of (united xs ys)
combined operator.Minus xs ys = set_of (others xs ys)
combined operator.Times xs ys = set_of (common xs ys)
combined operator.Equal xs ys = decided (are_equal xs ys)
combined operator.Unequal xs ys = decided (not (are_equal xs ys))
combined operator.AtMost xs ys = decided (is_included xs ys)
combined operator.AtLeast xs ys = decided (is_included ys xs)
combined _ xs ys = Err Undefined

-- LAWS

-- the members of the intersection are those of both
abbrev pub CommonMembersAreInBoth : Type 0
CommonMembersAreInBoth = (xs ys : List ℤ) (z : ℤ)
    → is_member (common xs ys) z ≡ is_member ys z && is_member xs z

-- the members of the difference are those of the first that are not in the second
abbrev pub OthersAreInTheFirst : Type 0
OthersAreInTheFirst = (xs ys : List ℤ) (z : ℤ)
    → is_member (others xs ys) z ≡ not (is_member ys z) && is_member xs z
