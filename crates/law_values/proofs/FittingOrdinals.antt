-- The ordinals of a kind fit it, and so do the tuples of ordinals of some kinds.
use Rattle.std.specs.Int.{int_gap}
use Rattle.std.specs.List.{AllByRecursion, AllZip, range_with_len, flat_map}
use Rattle.std.proofs.Common.{◌≡◌, refl, sym, arith, ℕ, zero, suc, ◌+◌, ◌<◌, ◌≤◌, ℤ, pos, negsuc}
use Rattle.std.proofs.Common.{◌+ℤ◌, ◌-ℤ◌, ◌≤ℤ◌, ◌<ℤ◌, List, [], ◌∷◌, map}
use Rattle.std.proofs.lemmas.Int.{ints}
use Rattle.est_syntax.specs.declared.kind.Kind.{Kind}
use Rattle.est_values.specs.FittingValues.{first_ordinal, last_ordinal, ordinal_count}
use Rattle.est_values.specs.FittingValues.{IsOrdinalOf, Fits}
use Rattle.est_values.specs.OrdinalTuples.{ordinals_of, ordinal_tuples}
use Rattle.est_values.specs.declared.value.Value.TheVariants as value
use Rattle.est_values.specs.FittingValues as fitting
use Rattle.est_values.proofs.Gaps.{gap_counted, gap_none}
use Rattle.law_runs.proofs.ParentsOlder.{joined_all}

-- a number of a gap lies within it
gap_within : (a b : ℤ) (i : ℕ) → i < int_gap a (b +ℤ pos 1) → (a +ℤ pos i) ≤ℤ b
gap_within a b i h = by (b -ℤ a) refl
  where
    by : (z : ℤ) → b -ℤ a ≡ z → (a +ℤ pos i) ≤ℤ b
    by (pos n) e = let g = gap_counted a b n (sym e) in omega (arith, ints, e, g, h)
    by (negsuc n) e = let l : (b -ℤ a) <ℤ pos 0 = omega (arith, ints, e) in
        let g = gap_none a b l in absurd (omega (arith, g, h))

ordinals_from : (k : Kind) (i n : ℕ) → i + n ≤ ordinal_count k
    → AllByRecursion (IsOrdinalOf k)
    (map (λ (j : ℕ). first_ordinal k +ℤ pos j) (range_with_len i n))
ordinals_from k i zero h = tt
ordinals_from k i (suc n) h =
    let l : i < int_gap (first_ordinal k) (last_ordinal k +ℤ pos 1) = omega (arith, h) in (
      (omega (arith, ints), gap_within (first_ordinal k) (last_ordinal k) i l),
      ordinals_from k (i + 1) n (omega (arith, h)),
    )

pub ordinals_are : (k : Kind) → AllByRecursion (IsOrdinalOf k) (ordinals_of k)
ordinals_are k = ordinals_from k 0 (ordinal_count k) (omega arith)

pub ordinal_fits : (k : Kind) (z : ℤ) → IsOrdinalOf k z → Fits k (value.Ordinal z)
ordinal_fits k z h = fitting.ordinal z (value.outs-Ordinal z) h

-- TUPLES

with_first : (k : Kind) (ks : List Kind) (z : ℤ) (ts : List (List ℤ)) → IsOrdinalOf k z
    → AllByRecursion (AllZip IsOrdinalOf ks) ts
    → AllByRecursion (AllZip IsOrdinalOf (k ∷ ks)) (map (λ (t : List ℤ). z ∷ t) ts)
with_first k ks z [] h g = tt
with_first k ks z (t ∷ ts) h g = ((h, g.0), with_first k ks z ts h g.1)

pub tuples_are : (ks : List Kind) → AllByRecursion (AllZip IsOrdinalOf ks) (ordinal_tuples ks)
tuples_are [] = (tt, tt)
tuples_are (k ∷ ks) = each (ordinals_of k) (ordinals_are k) (tuples_are ks)
  where
    each : (zs : List ℤ) → AllByRecursion (IsOrdinalOf k) zs
        → AllByRecursion (AllZip IsOrdinalOf ks) (ordinal_tuples ks)
        → AllByRecursion (AllZip IsOrdinalOf (k ∷ ks))
        (flat_map (λ (z : ℤ). map (λ (t : List ℤ). z ∷ t) (ordinal_tuples ks)) zs)
    each [] h g = tt
    each (z ∷ zs) h g =
        joined_all (AllZip IsOrdinalOf (k ∷ ks)) (map (λ (t : List ℤ). z ∷ t) (ordinal_tuples ks))
        _ (with_first k ks z (ordinal_tuples ks) h.0 g) (each zs h.1 g)

pub tuple_fits : (ks : List Kind) (zs : List ℤ) → AllZip IsOrdinalOf ks zs
    → AllZip Fits ks (map (λ (z : ℤ). value.Ordinal z) zs)
tuple_fits [] [] h = tt
tuple_fits (k ∷ ks) (z ∷ zs) h = (ordinal_fits k z h.0, tuple_fits ks zs h.1)
tuple_fits [] (z ∷ zs) h = absurd h
tuple_fits (k ∷ ks) [] h = absurd h
