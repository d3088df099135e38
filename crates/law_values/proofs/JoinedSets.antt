-- The members of unions of sets and of spans.
use Rattle.std.specs.Prelude.{int_lt, int_le, if◌then◌else◌}
use Rattle.std.specs.Int.{int_gap}
use Rattle.std.specs.Ordering.{int_eq}
use Rattle.std.proofs.Common.{◌≡◌, refl, sym, ◌∙◌, ap, true≢false, arith, ℕ, zero, suc, ℤ, pos}
use Rattle.std.proofs.Common.{negsuc, ◌+ℤ◌, ◌≤ℤ◌, ◌+◌, ◌-◌, Bool, true, false, ◌&&◌, ◌||◌}
use Rattle.std.proofs.Common.{List, [], ◌∷◌}
use Rattle.std.proofs.lemmas.Int.{ints}
use Rattle.std.proofs.lemmas.Bool.Decides.{Decides-int_eq}
use Rattle.mean_blocks.specs.SetOperators.{is_member, with_member, with_members, with_span}
use Rattle.mean_blocks.specs.SetOperators.{united}
use borrow.Author.Differences.{up, down}

-- TESTS

twice : (a b m : Bool) → a ≡ b → (b || m) ≡ (a || (b || m))
twice true true m e = refl
twice true false m e = absurd (true≢false e)
twice false b m e = refl

crossed : (a b m w : Bool) → w ≡ (a || m) → (b || w) ≡ (a || (b || m))
crossed true true m w e = refl
crossed true false m w e = e
crossed false true m w e = refl
crossed false false m w e = e

nothing_more : (m : Bool) → m ≡ (m || false)
nothing_more true = refl
nothing_more false = refl

moved : (a m n : Bool) → ((a || m) || n) ≡ (m || (a || n))
moved true true n = refl
moved true false n = refl
moved false m n = refl

-- ONE MEMBER MORE

with_one : (y : ℤ) (xs : List ℤ) (z : ℤ)
    → is_member (with_member y xs) z ≡ (int_eq z y || is_member xs z)
with_one y [] z = refl
with_one y (x ∷ xs) z = by (int_eq y x) (int_lt y x) refl (with_one y xs z)
  where
    by : (s t : Bool) → int_eq y x ≡ s
        → is_member (with_member y xs) z ≡ (int_eq z y || is_member xs z)
        → is_member (if s then x ∷ xs else (if t then y ∷ x ∷ xs else x ∷ with_member y xs)) z
        ≡ (int_eq z y || (int_eq z x || is_member xs z))
    by true t e more = twice (int_eq z y) (int_eq z x) (is_member xs z)
        (ap (int_eq z) ((Decides-int_eq y x).0 e))
    by false true e more = refl
    by false false e more = crossed (int_eq z y) (int_eq z x) (is_member xs z)
        (is_member (with_member y xs) z) more

pub united_members : (xs ys : List ℤ) (z : ℤ)
    → is_member (united xs ys) z ≡ (is_member xs z || is_member ys z)
united_members xs [] z = nothing_more (is_member xs z)
united_members xs (y ∷ ys) z =
    united_members (with_member y xs) ys z
    ∙ ap (λ (b : Bool). b || is_member ys z) (with_one y xs z)
    ∙ moved (int_eq z y) (is_member xs z) (is_member ys z)

-- SPANS

-- two tests that hold together are one
same_tests : (s t : Bool) → (s ≡ true → t ≡ true) → (t ≡ true → s ≡ true) → s ≡ t
same_tests true t f g = sym (f refl)
same_tests false true f g = absurd (true≢false (sym (g refl)))
same_tests false false f g = refl

both : (s t : Bool) → s ≡ true → t ≡ true → (s && t) ≡ true
both true t e f = f
both false t e f = absurd (true≢false (sym e))

parts : (s t : Bool) → (s && t) ≡ true → (s ≡ true) × (t ≡ true)
parts true t e = (refl, e)
parts false t e = absurd (true≢false (sym e))

-- what is not below another nor is it is above it
above : (z a : ℤ) → int_eq z a ≡ false → int_le a z ≡ true → (a +ℤ pos 1) ≤ℤ z
above z a d f = by (int_lt a z) refl
  where
    by : (b : Bool) → int_lt a z ≡ b → (a +ℤ pos 1) ≤ℤ z
    by true e = omega (arith, ints, e)
    by false e = let same : z ≡ a = omega (arith, ints, e, f) in
        absurd (true≢false (sym ((Decides-int_eq z a).1 same) ∙ d))

-- whether a number is among so many from one on
abbrev is_among_next : ℕ → ℤ → ℤ → Bool
is_among_next n a z = int_le a z && int_lt z (a +ℤ pos n)

none_next : (a z : ℤ) → is_among_next zero a z ≡ false
none_next a z = by (is_among_next zero a z) refl
  where
    by : (b : Bool) → is_among_next zero a z ≡ b → b ≡ false
    by true e = let h = parts (int_le a z) (int_lt z (a +ℤ pos zero)) e in
        let f : int_le a z ≡ true = h.0 in let g : int_lt z (a +ℤ pos zero) ≡ true = h.1 in
        absurd (omega (arith, ints, f, g))
    by false e = refl

one_next : (n : ℕ) (a z : ℤ)
    → (int_eq z a || is_among_next n (a +ℤ pos 1) z) ≡ is_among_next (suc n) a z
one_next n a z = by (int_eq z a) refl
  where
    here : int_eq z a ≡ true → is_among_next (suc n) a z ≡ true
    here e = let s : z ≡ a = (Decides-int_eq z a).0 e in
        both (int_le a z) (int_lt z (a +ℤ pos (suc n))) (grind (arith, ints, s))
        (grind (arith, ints, s))

    later : is_among_next n (a +ℤ pos 1) z ≡ true → is_among_next (suc n) a z ≡ true
    later e = let h = parts (int_le (a +ℤ pos 1) z) (int_lt z ((a +ℤ pos 1) +ℤ pos n)) e in
        let f : int_le (a +ℤ pos 1) z ≡ true = h.0 in
        let g : int_lt z ((a +ℤ pos 1) +ℤ pos n) ≡ true = h.1 in
        both (int_le a z) (int_lt z (a +ℤ pos (suc n))) (grind (arith, ints, f))
        (grind (arith, ints, g))

    sooner : int_eq z a ≡ false → is_among_next (suc n) a z ≡ true
        → is_among_next n (a +ℤ pos 1) z ≡ true
    sooner d e = let h = parts (int_le a z) (int_lt z (a +ℤ pos (suc n))) e in
        let f : int_le a z ≡ true = h.0 in
        let g : int_lt z (a +ℤ pos (suc n)) ≡ true = h.1 in
        let w : (a +ℤ pos 1) ≤ℤ z = above z a d f in
        both (int_le (a +ℤ pos 1) z) (int_lt z ((a +ℤ pos 1) +ℤ pos n)) (grind (arith, ints, w))
        (grind (arith, ints, g))

    by : (b : Bool) → int_eq z a ≡ b
        → (b || is_among_next n (a +ℤ pos 1) z) ≡ is_among_next (suc n) a z
    by true e = sym (here e)
    by false e = same_tests (is_among_next n (a +ℤ pos 1) z) (is_among_next (suc n) a z) later
        (sooner e)

members_next : (n : ℕ) (a : ℤ) (xs : List ℤ) (z : ℤ)
    → is_member (with_members n a xs) z ≡ (is_member xs z || is_among_next n a z)
members_next zero a xs z =
    nothing_more (is_member xs z)
    ∙ ap (λ (b : Bool). is_member xs z || b) (sym (none_next a z))
members_next (suc n) a xs z =
    members_next n (a +ℤ pos 1) (with_member a xs) z
    ∙ ap (λ (b : Bool). b || is_among_next n (a +ℤ pos 1) z) (with_one a xs z)
    ∙ moved (int_eq z a) (is_member xs z) (is_among_next n (a +ℤ pos 1) z)
    ∙ ap (λ (b : Bool). is_member xs z || b) (one_next n a z)

-- the distance in terms of those to zero
gap_is : (a b : ℤ) → int_gap a b ≡ (up b + down a) - (up a + down b)
gap_is (pos a) (pos b) = omega arith
gap_is (pos a) (negsuc b) = omega arith
gap_is (negsuc a) (pos b) = omega arith
gap_is (negsuc a) (negsuc b) = omega arith

span_next : (a b z : ℤ)
    → is_among_next (int_gap a (b +ℤ pos 1)) a z ≡ (int_le a z && int_le z b)
span_next a b z = same_tests (is_among_next (int_gap a (b +ℤ pos 1)) a z)
    (int_le a z && int_le z b) within beyond
  where
    within : is_among_next (int_gap a (b +ℤ pos 1)) a z ≡ true
        → (int_le a z && int_le z b) ≡ true
    within e = let h = parts (int_le a z) (int_lt z (a +ℤ pos (int_gap a (b +ℤ pos 1)))) e in
        let f : int_le a z ≡ true = h.0 in
        let g : int_lt z (a +ℤ pos (int_gap a (b +ℤ pos 1))) ≡ true = h.1 in
        both (int_le a z) (int_le z b) f (grind (arith, ints, f, g, gap_is a (b +ℤ pos 1)))

    beyond : (int_le a z && int_le z b) ≡ true
        → is_among_next (int_gap a (b +ℤ pos 1)) a z ≡ true
    beyond e = let h = parts (int_le a z) (int_le z b) e in
        let f : int_le a z ≡ true = h.0 in let g : int_le z b ≡ true = h.1 in
        both (int_le a z) (int_lt z (a +ℤ pos (int_gap a (b +ℤ pos 1)))) f
        (grind (arith, ints, f, g, gap_is a (b +ℤ pos 1)))

pub span_members : (a b : ℤ) (xs : List ℤ) (z : ℤ)
    → is_member (with_span a b xs) z ≡ (is_member xs z || (int_le a z && int_le z b))
span_members a b xs z =
    members_next (int_gap a (b +ℤ pos 1)) a xs z
    ∙ ap (λ (c : Bool). is_member xs z || c) (span_next a b z)
