-- How many members a set has with others.
use Rattle.std.proofs.Common.{◌≡◌, refl, sym, ap, ◌∙◌, arith, ℕ, zero, suc, ◌+◌, ◌≤◌, ◌<◌, ℤ}
use Rattle.std.proofs.Common.{pos, ◌+ℤ◌, Bool, true, false, List, [], ◌∷◌, length}
use Rattle.std.specs.Prelude.{if◌then◌else◌, int_lt}
use Rattle.std.specs.Int.{int_gap}
use Rattle.std.specs.Ordering.{int_eq}
use Rattle.std.proofs.lemmas.Int.{ints}
use Rattle.std.proofs.lemmas.Bool.Decides.{Decides-int_eq}
use Rattle.mean_blocks.specs.rule_kinds.TypeTexts.{most_members}
use Rattle.mean_blocks.specs.SetOperators.{with_member, with_members, with_span}

-- 1 for what is so
abbrev one : Bool → ℕ
one true = 1
one false = 0

-- how many members are below an ordinal
abbrev below : ℤ → List ℤ → ℕ
below z [] = 0
below z (x ∷ xs) = one (int_lt x z) + below z xs

one_most : (b : Bool) → one b ≤ 1
one_most true = omega arith
one_most false = omega arith

one_more : (b c : Bool) → (b ≡ true → c ≡ true) → one b ≤ one c
one_more true c h = omega (arith, ap one (h refl))
one_more false c h = omega arith

-- what is below an ordinal is below the next one,
less_raised : (x z : ℤ) → int_lt x z ≡ true → int_lt x (z +ℤ pos 1) ≡ true
less_raised x z h = grind (arith, ints)

one_raised : (x z : ℤ) → one (int_lt x z) ≤ one (int_lt x (z +ℤ pos 1))
one_raised x z = one_more (int_lt x z) (int_lt x (z +ℤ pos 1)) (less_raised x z)

-- as the ordinal itself is,
less_next : (z : ℤ) → int_lt z (z +ℤ pos 1) ≡ true
less_next z = grind (arith, ints)

-- which is not below itself
less_same : (z : ℤ) → int_lt z z ≡ false
less_same z = grind (arith, ints)

all_most : (z : ℤ) (xs : List ℤ) → below z xs ≤ length xs
all_most z [] = omega arith
all_most z (x ∷ xs) = omega (arith, one_most (int_lt x z), all_most z xs)

all_raised : (z : ℤ) (xs : List ℤ) → below z xs ≤ below (z +ℤ pos 1) xs
all_raised z [] = omega arith
all_raised z (x ∷ xs) = omega (arith, one_raised x z, all_raised z xs)

-- an ordinal that is put is one member more below the next one
put_at : (z x : ℤ) (xs more : List ℤ) (e l : Bool) → (e ≡ true → z ≡ x)
    → suc (below z xs) ≤ below (z +ℤ pos 1) more → suc (below z (x ∷ xs))
    ≤ below (z +ℤ pos 1) (if e then x ∷ xs else (if l then z ∷ x ∷ xs else x ∷ more))
put_at z x xs more true l same h =
    let is_below : one (int_lt x (z +ℤ pos 1)) ≡ 1 =
    ap (λ y. one (int_lt y (z +ℤ pos 1))) (sym (same refl)) ∙ ap one (less_next z) in
    let not_below : one (int_lt x z) ≡ 0 =
    ap (λ y. one (int_lt y z)) (sym (same refl)) ∙ ap one (less_same z) in
    omega (arith, is_below, not_below, all_raised z xs)
put_at z x xs more false true same h =
    omega (arith, ap one (less_next z), one_raised x z, all_raised z xs)
put_at z x xs more false false same h = omega (arith, one_raised x z, h)

put_below : (z : ℤ) (xs : List ℤ) → suc (below z xs) ≤ below (z +ℤ pos 1) (with_member z xs)
put_below z [] = omega (arith, ap one (less_next z))
put_below z (x ∷ xs) =
    put_at z x xs (with_member z xs) (int_eq z x) (int_lt z x) ((Decides-int_eq z x).0)
    (put_below z xs)

-- so many that are put are so many members more
so_many : (n : ℕ) (z : ℤ) (xs : List ℤ) → n + below z xs ≤ length (with_members n z xs)
so_many zero z xs = omega (arith, all_most z xs)
so_many (suc n) z xs =
    omega (arith, so_many n (z +ℤ pos 1) (with_member z xs), put_below z xs)

-- no member is lost
kept_at : (z x : ℤ) (xs more : List ℤ) (e l : Bool) → length xs ≤ length more → length (x ∷ xs)
    ≤ length (if e then x ∷ xs else (if l then z ∷ x ∷ xs else x ∷ more))
kept_at z x xs more true l h = omega arith
kept_at z x xs more false true h = omega arith
kept_at z x xs more false false h = omega (arith, h)

put_keeps : (z : ℤ) (xs : List ℤ) → length xs ≤ length (with_member z xs)
put_keeps z [] = omega arith
put_keeps z (x ∷ xs) =
    kept_at z x xs (with_member z xs) (int_eq z x) (int_lt z x) (put_keeps z xs)

all_kept : (n : ℕ) (z : ℤ) (xs : List ℤ) → length xs ≤ length (with_members n z xs)
all_kept zero z xs = omega arith
all_kept (suc n) z xs = omega (arith, put_keeps z xs, all_kept n (z +ℤ pos 1) (with_member z xs))

-- a span of too many is too many with any others
pub many_in_span : (a b : ℤ) (n : ℕ) (xs : List ℤ) → n ≡ int_gap a (b +ℤ pos 1)
    → most_members < n → most_members < length (with_span a b xs)
many_in_span a b n xs is h = omega (arith, is, h, so_many (int_gap a (b +ℤ pos 1)) a xs)

-- and too many are too many with any span
pub many_with_span : (a b : ℤ) (xs : List ℤ) → most_members < length xs
    → most_members < length (with_span a b xs)
many_with_span a b xs h = omega (arith, h, all_kept (int_gap a (b +ℤ pos 1)) a xs)
