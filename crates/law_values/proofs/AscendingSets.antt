-- Operators keep the members of sets ascending.
use Rattle.std.specs.Prelude.{int_lt, not, if◌then◌else◌}
use Rattle.std.specs.Int.{int_gap}
use Rattle.std.specs.List.{filter}
use Rattle.std.specs.Ordering.{int_eq}
use Rattle.std.proofs.Common.{◌≡◌, refl, sym, ◌∙◌, true≢false, arith, ℕ, zero, suc, ℤ, pos, ◌≤ℤ◌}
use Rattle.std.proofs.Common.{◌+ℤ◌, Bool, true, false, List, [], ◌∷◌}
use Rattle.std.proofs.lemmas.Int.{ints}
use Rattle.std.proofs.lemmas.Bool.Decides.{Decides-int_eq}
use Rattle.est_values.specs.FittingValues.{AscendFrom}
use Rattle.mean_blocks.specs.SetOperators.{is_member, with_member, with_members, with_span}
use Rattle.mean_blocks.specs.SetOperators.{united, common, others}
use Rattle.law_values.specs.ValuesOfTypes.{DoAscend}

-- the smaller and the greater of two
lower : (a b : ℤ) → (c : ℤ) × (c ≤ℤ a) × (c ≤ℤ b)
lower a b = by (int_lt a b) refl
  where
    by : (t : Bool) → int_lt a b ≡ t → (c : ℤ) × (c ≤ℤ a) × (c ≤ℤ b)
    by true e = (a, omega (arith, ints, e), omega (arith, ints, e))
    by false e = (b, omega (arith, ints, e), omega (arith, ints, e))

upper : (a b : ℤ) → (c : ℤ) × (a ≤ℤ c) × (b ≤ℤ c)
upper a b = by (int_lt a b) refl
  where
    by : (t : Bool) → int_lt a b ≡ t → (c : ℤ) × (a ≤ℤ c) × (b ≤ℤ c)
    by true e = (b, omega (arith, ints, e), omega (arith, ints, e))
    by false e = (a, omega (arith, ints, e), omega (arith, ints, e))

-- wider bounds
wider : (low high least most : ℤ) (zs : List ℤ) → least ≤ℤ low → high ≤ℤ most
    → AscendFrom low high zs → AscendFrom least most zs
wider low high least most [] a b h = tt
wider low high least most (z ∷ zs) a b h = let c = h.0 in let d = h.1 in (
  omega (arith, ints, a, c),
  omega (arith, ints, b, d),
  wider (z +ℤ pos 1) high (z +ℤ pos 1) most zs (omega (arith, ints)) b h.2,
)

-- what is neither another nor below it is above it
above : (z x : ℤ) → int_eq z x ≡ false → int_lt z x ≡ false → (x +ℤ pos 1) ≤ℤ z
above z x p q = by (int_lt x z) refl
  where
    by : (b : Bool) → int_lt x z ≡ b → (x +ℤ pos 1) ≤ℤ z
    by true e = omega (arith, ints, e)
    by false e = let same : z ≡ x = omega (arith, ints, q, e) in
        absurd (true≢false (sym ((Decides-int_eq z x).1 same) ∙ p))

-- one member more
member_more : (low high least most z : ℤ) (xs : List ℤ) → least ≤ℤ low → high ≤ℤ most
    → least ≤ℤ z → z ≤ℤ most → AscendFrom low high xs → AscendFrom least most (with_member z xs)
member_more low high least most z [] a b c d h = (c, d, tt)
member_more low high least most z (x ∷ xs) a b c d h =
    by (int_eq z x) (int_lt z x) refl refl (λ e. member_more (x +ℤ pos 1) high (x +ℤ pos 1) most z
    xs (omega (arith, ints)) b e d h.2)
  where
    by : (s t : Bool) → int_eq z x ≡ s → int_lt z x ≡ t
        → ((x +ℤ pos 1) ≤ℤ z → AscendFrom (x +ℤ pos 1) most (with_member z xs))
        → AscendFrom least most (if s then x ∷ xs else (if t then z ∷ x ∷ xs
        else x ∷ with_member z xs))
    by true t e f more = wider low high least most (x ∷ xs) a b h
    by false true e f more = let g = h.1 in (
      c,
      d,
      (
        omega (arith, ints, f),
        omega (arith, ints, b, g),
        wider (x +ℤ pos 1) high (x +ℤ pos 1) most xs (omega (arith, ints)) b h.2,
      ),
    )
    by false false e f more = let g = h.0 in let i = h.1 in (
      omega (arith, ints, a, g),
      omega (arith, ints, b, i),
      more (above z x e f),
    )

pub with_member_ascends : (z : ℤ) (xs : List ℤ) → DoAscend xs → DoAscend (with_member z xs)
with_member_ascends z xs h =
    let l = lower h.0 z in let u = upper h.1 z in
    (l.0, u.0, member_more h.0 h.1 l.0 u.0 z xs l.1 u.1 l.2 u.2 h.2)

pub none_ascend : DoAscend []
none_ascend = (pos 0, pos 0, tt)

with_members_ascend : (n : ℕ) (z : ℤ) (xs : List ℤ) → DoAscend xs → DoAscend (with_members n z xs)
with_members_ascend zero z xs h = h
with_members_ascend (suc n) z xs h =
    with_members_ascend n (z +ℤ pos 1) (with_member z xs) (with_member_ascends z xs h)

pub with_span_ascends : (a b : ℤ) (xs : List ℤ) → DoAscend xs → DoAscend (with_span a b xs)
with_span_ascends a b xs h = with_members_ascend (int_gap a (b +ℤ pos 1)) a xs h

pub united_ascend : (xs ys : List ℤ) → DoAscend xs → DoAscend (united xs ys)
united_ascend xs [] h = h
united_ascend xs (y ∷ ys) h = united_ascend (with_member y xs) ys (with_member_ascends y xs h)

-- some of the members
some_ascend : (test : ℤ → Bool) (low high least : ℤ) (zs : List ℤ) → least ≤ℤ low
    → AscendFrom low high zs → AscendFrom least high (filter test zs)
some_ascend test low high least [] a h = tt
some_ascend test low high least (z ∷ zs) a h = let c = h.0 in
    by (test z) (some_ascend test (z +ℤ pos 1) high (z +ℤ pos 1) zs (omega (arith, ints)) h.2)
    (some_ascend test (z +ℤ pos 1) high least zs (omega (arith, ints, a, c)) h.2)
  where
    by : (b : Bool) → AscendFrom (z +ℤ pos 1) high (filter test zs)
        → AscendFrom least high (filter test zs)
        → AscendFrom least high (if b then z ∷ filter test zs else filter test zs)
    by true f g = let c = h.0 in (omega (arith, ints, a, c), h.1, f)
    by false f g = g

kept_ascend : (test : ℤ → Bool) (zs : List ℤ) → DoAscend zs → DoAscend (filter test zs)
kept_ascend test zs h = (h.0, h.1, some_ascend test h.0 h.1 h.0 zs (omega (arith, ints)) h.2)

pub common_ascend : (xs ys : List ℤ) → DoAscend xs → DoAscend (common xs ys)
common_ascend xs ys h = kept_ascend (is_member ys) xs h

pub others_ascend : (xs ys : List ℤ) → DoAscend xs → DoAscend (others xs ys)
others_ascend xs ys h = kept_ascend (λ z. not (is_member ys z)) xs h
