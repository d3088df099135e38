-- The ordinals of a kind by their places.
use Rattle.std.proofs.Common.{◌≡◌, ℕ, ◌+◌, ◌<◌, ℤ, pos, negsuc, ◌+ℤ◌, ◌-ℤ◌, ◌≤ℤ◌, ◌<ℤ◌}
use Rattle.std.proofs.Common.{refl, sym, ap, ◌∙◌, subst, arith, Some, slice_get}
use Rattle.std.specs.Int.{int_gap}
use Rattle.std.specs.List.{range_with_len}
use Rattle.std.proofs.lemmas.Int.{ints}
use Rattle.est_syntax.specs.declared.kind.Kind.{Kind}
use Rattle.est_values.specs.FittingValues.{first_ordinal, last_ordinal, ordinal_count, IsOrdinalOf}
use Rattle.est_values.specs.OrdinalTuples.{ordinals_of}
use Rattle.est_values.proofs.Gaps.{gap_counted, gap_none}
use Rattle.text_values.proofs.Places.{mapped_at, image_at, range_at, range_there}

-- a number up to the last one
within_gap : (a b : ℤ) (i : ℕ) → i < int_gap a (b +ℤ pos 1)
    → (a ≤ℤ (a +ℤ pos i)) × ((a +ℤ pos i) ≤ℤ b)
within_gap a b i l = by (b -ℤ a) refl
  where
    by : (x : ℤ) → b -ℤ a ≡ x → (a ≤ℤ (a +ℤ pos i)) × ((a +ℤ pos i) ≤ℤ b)
    by (pos n) e =
        let g : n + 1 ≡ int_gap a (b +ℤ pos 1) = gap_counted a b n (sym e) in
        let m : i < n + 1 = subst (λ k. i < k) (sym g) l in
        (omega (arith, ints), omega (arith, ints, e, m))
    by (negsuc n) e =
        let h : (b -ℤ a) <ℤ pos 0 = omega (arith, ints, e) in
        let g : 0 ≡ int_gap a (b +ℤ pos 1) = gap_none a b h in
        let m : i < 0 = subst (λ k. i < k) (sym g) l in absurd (omega (arith, m))

-- how far an integer is above another
pub gap_is : (a z : ℤ) → a ≤ℤ z → a +ℤ pos (int_gap a z) ≡ z
gap_is (pos a) (pos z) l = omega (arith, ints, l)
gap_is (pos a) (negsuc z) l = absurd (omega (arith, ints, l))
gap_is (negsuc a) (pos z) l = omega (arith, ints, l)
gap_is (negsuc a) (negsuc z) l = omega (arith, ints, l)

gap_within : (a b z : ℤ) (i : ℕ) → a +ℤ pos i ≡ z → z ≤ℤ b → i < int_gap a (b +ℤ pos 1)
gap_within a b z i e l = by (b -ℤ a) refl
  where
    by : (x : ℤ) → b -ℤ a ≡ x → i < int_gap a (b +ℤ pos 1)
    by (pos n) q =
        let m : i < n + 1 = omega (arith, ints, e, q, l) in
        subst (λ k. i < k) (gap_counted a b n (sym q)) m
    by (negsuc n) q = absurd (omega (arith, ints, e, q, l))

-- the ordinal at a place
pub ordinal_here : (k : Kind) (i : ℕ) (z : ℤ) → slice_get (ordinals_of k) i ≡ Some z
    → (z ≡ first_ordinal k +ℤ pos i) × IsOrdinalOf k z
ordinal_here k i z e =
    let a = first_ordinal k in
    let q = mapped_at (λ (i : ℕ). a +ℤ pos i) (range_with_len 0 (ordinal_count k)) i z e in
    let r = range_at 0 (ordinal_count k) i q.0 q.1 in
    let p : q.0 ≡ i = omega (arith, r.0) in
    let f : a +ℤ pos i ≡ z = ap (λ j. a +ℤ pos j) (sym p) ∙ q.2 in
    let w = within_gap a (last_ordinal k) i r.1 in
    (sym f, (subst (λ y. a ≤ℤ y) f w.0, subst (λ y. y ≤ℤ last_ordinal k) f w.1))

-- the place of an ordinal
abbrev pub place_of : Kind → ℤ → ℕ
place_of k z = int_gap (first_ordinal k) z

pub ordinal_there : (k : Kind) (z : ℤ) → IsOrdinalOf k z
    → slice_get (ordinals_of k) (place_of k z) ≡ Some z
ordinal_there k z o =
    let a = first_ordinal k in
    let g = gap_is a z o.0 in
    let l = gap_within a (last_ordinal k) z (place_of k z) g o.1 in
    let n : 0 + place_of k z ≡ place_of k z = omega arith in
    image_at (λ (i : ℕ). a +ℤ pos i) (range_with_len 0 (ordinal_count k)) (place_of k z)
    (place_of k z) (range_there 0 (ordinal_count k) (place_of k z) l ∙ ap Some n)
    ∙ ap Some g
