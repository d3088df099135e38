-- Values that are drawn fit their kinds.
use Rattle.std.proofs.Common.{◌≡◌, refl, ap, subst, ℕ, zero, suc, ◌+◌, ◌%◌, ◌<◌, ◌≤◌}
use Rattle.std.proofs.Common.{arith, ℤ, pos, ◌+ℤ◌, ◌-ℤ◌, ◌≤ℤ◌, ◌<ℤ◌, IsTrue, List, [], ◌∷◌}
use Rattle.std.proofs.Common.{◌++◌, length, map, replicate, slice_get, Some}
use Rattle.std.proofs.lemmas.Int.{ints}
use Rattle.std.specs.List.{AllZip}
use Rattle.rand_core.specs.Stream.{Stream}
use Rattle.est_syntax.specs.declared.kind.Kind.{Kind, out-Kind}
use Rattle.est_syntax.specs.declared.kind.Kind.TheOpen as seen
use Rattle.est_syntax.specs.declared.kind.FieldKind.{FieldKind}
use Rattle.est_values.specs.declared.value.Value.{Value}
use Rattle.est_values.specs.FittingValues.{KindLayer, first_ordinal, last_ordinal}
use Rattle.est_values.specs.FittingValues.{ordinal_count}
use Rattle.est_values.specs.FittingValues.{scalar_of, AscendFrom, IsOrdinalOf, Fits}
use Rattle.est_values.specs.FittingValues as fits
use Rattle.run_make.specs.DrawnValues.{ordinal_layer, DrawsMembers, DrawsValue, DrawsValues}
use Rattle.run_make.specs.DrawnValues as drawn
use Rattle.run_make.proofs.Drawing.{gap_within}

-- SETS

-- one more ordinal, above all before it
ascend_more : (low bound top z : ℤ) (zs : List ℤ) → AscendFrom low bound zs
    → AscendFrom low top zs → low ≤ℤ z → bound <ℤ z → z ≤ℤ top → AscendFrom low top (zs ++ z ∷ [])
ascend_more low bound top z [] a b first above last = (first, last, tt)
ascend_more low bound top z (y ∷ zs) a b first above last =
    let within = a.1 in
    let next : (y +ℤ pos 1) ≤ℤ z = omega (arith, ints) in
    (b.0, b.1, ascend_more (y +ℤ pos 1) bound top z zs a.2 b.2 next above last)

ascend_wider : (low high top : ℤ) (zs : List ℤ) → AscendFrom low high zs → high ≤ℤ top
    → AscendFrom low top zs
ascend_wider low high top [] a wide = tt
ascend_wider low high top (y ∷ zs) a wide =
    let within = a.1 in
    let last : y ≤ℤ top = omega (arith, ints) in
    (a.0, last, ascend_wider (y +ℤ pos 1) high top zs a.2 wide)

-- the last of so many ordinals of a base
abbrev bound : Kind → ℕ → ℤ
bound base n = first_ordinal base +ℤ pos n -ℤ pos 1

-- the members that are drawn ascend, and none is above the last that was asked
record AscendSoFar (base : Kind) (n : ℕ) (zs : List ℤ) : Type 0 where
  asked : AscendFrom (first_ordinal base) (bound base n) zs
  within : AscendFrom (first_ordinal base) (last_ordinal base) zs

one_asked : (base : Kind) (n : ℕ) (zs : List ℤ) → AscendSoFar base n zs
    → AscendFrom (first_ordinal base) (bound base (n + 1)) zs
one_asked base n zs a =
    let wide : bound base n ≤ℤ bound base (n + 1) = omega (arith, ints) in
    ascend_wider (first_ordinal base) (bound base n) (bound base (n + 1)) zs a.asked wide

one_member : (base : Kind) (n : ℕ) (zs : List ℤ) → n < ordinal_count base → AscendSoFar base n zs
    → AscendSoFar base (n + 1) (zs ++ (first_ordinal base +ℤ pos n) ∷ [])
one_member base n zs few a =
    let low = first_ordinal base in
    let z = low +ℤ pos n in
    let first : low ≤ℤ z = omega (arith, ints) in
    let above : bound base n <ℤ z = omega (arith, ints) in
    let top : z ≤ℤ bound base (n + 1) = omega (arith, ints) in
    record {
      asked = ascend_more low (bound base n) (bound base (n + 1)) z zs a.asked
          (one_asked base n zs a) first above top;
      within = ascend_more low (bound base n) (last_ordinal base) z zs a.asked a.within first above
          (gap_within low (last_ordinal base) n few);
    }

members_ascend : (base : Kind) (n : ℕ) (s t : Stream) (zs : List ℤ) → DrawsMembers base n s zs t
    → n ≤ ordinal_count base → AscendSoFar base n zs
members_ascend base n s t zs drawn.no_members few = record { asked = tt; within = tt }
members_ascend base n s t zs (drawn.member {n = m} {t = r} {zs = ys} w before is odd) few =
    let less : m < ordinal_count base = omega arith in
    let fewer : m ≤ ordinal_count base = omega arith in
    one_member base m ys less (members_ascend base m s r ys before fewer)
members_ascend base n s t zs (drawn.no_member {n = m} {t = r} {zs = ys} w before is even) few =
    let fewer : m ≤ ordinal_count base = omega arith in
    let a = members_ascend base m s r ys before fewer in
    record { asked = one_asked base m ys a; within = a.within }

-- ORDINALS

ordinal_scalar : (l : KindLayer) → IsTrue (ordinal_layer l) → IsTrue (scalar_of l)
ordinal_scalar seen.Integer o = refl
ordinal_scalar seen.Boolean o = refl
ordinal_scalar seen.Char o = refl
ordinal_scalar (seen.Enumeration place names) o = refl
ordinal_scalar (seen.Part host low high) o = refl
ordinal_scalar (seen.SetOf base) o = refl
ordinal_scalar (seen.ArrayOf index of) o = cc
ordinal_scalar (seen.Fields fs) o = cc

ordinal_within : (k : Kind) (w : ℕ) → 0 < ordinal_count k
    → IsOrdinalOf k (first_ordinal k +ℤ pos (w % ordinal_count k))
ordinal_within k w some =
    let less : w % ordinal_count k < ordinal_count k = omega arith in
    let first : first_ordinal k ≤ℤ (first_ordinal k +ℤ pos (w % ordinal_count k)) =
    omega (arith, ints) in
    (first, gap_within (first_ordinal k) (last_ordinal k) (w % ordinal_count k) less)

-- GROUPS

all_count : (n : ℕ) (k : Kind) (vs : List Value) → AllZip Fits (replicate n k) vs → length vs ≡ n
all_count zero k [] a = refl
all_count zero k (v ∷ vs) a = absurd a
all_count (suc n) k [] a = absurd a
all_count (suc n) k (v ∷ vs) a = ap suc (all_count n k vs a.1)

all_fit : (n : ℕ) (k : Kind) (vs : List Value) → AllZip Fits (replicate n k) vs → (i : ℕ)
    (v : Value) → slice_get vs i ≡ Some v → Fits k v
all_fit zero k [] a i v at = cc
all_fit zero k (x ∷ vs) a i v at = absurd a
all_fit (suc n) k [] a i v at = absurd a
all_fit (suc n) k (x ∷ vs) a zero v at =
    let same : x ≡ v = cc in subst (Fits k) same a.0
all_fit (suc n) k (x ∷ vs) a (suc i) v at = all_fit n k vs a.1 i v at

abbrev kinds_of : List FieldKind → List Kind
kinds_of fs = map (λ (f : FieldKind). f.kind) fs

fields_count : (fs : List FieldKind) (vs : List Value) → AllZip Fits (kinds_of fs) vs
    → length vs ≡ length fs
fields_count [] [] a = refl
fields_count [] (v ∷ vs) a = absurd a
fields_count (f ∷ fs) [] a = absurd a
fields_count (f ∷ fs) (v ∷ vs) a = ap suc (fields_count fs vs a.1)

fields_fit : (fs : List FieldKind) (vs : List Value) → AllZip Fits (kinds_of fs) vs → (i : ℕ)
    (f : FieldKind) (v : Value) → slice_get fs i ≡ Some f → slice_get vs i ≡ Some v
    → Fits f.kind v
fields_fit [] vs a i f v there at = cc
fields_fit (g ∷ fs) [] a i f v there at = absurd a
fields_fit (g ∷ fs) (x ∷ vs) a zero f v there at =
    let same : g ≡ f = cc in
    let value : x ≡ v = cc in
    subst (Fits f.kind) value (subst (λ (h : FieldKind). Fits h.kind x) same a.0)
fields_fit (g ∷ fs) (x ∷ vs) a (suc i) f v there at = fields_fit fs vs a.1 i f v there at

-- ALL KINDS

mutual
  pub drawn_fits : (k : Kind) (s t : Stream) (v : Value) → DrawsValue k s v t → Fits k v
  drawn_fits k s t v (drawn.ordinal w is some d e) =
      fits.ordinal (first_ordinal k +ℤ pos (w % ordinal_count k)) e (ordinal_within k w some)
  drawn_fits k s t v (drawn.no_ordinal w is none d e) =
      fits.undefined e (ordinal_scalar (out-Kind k) is)
  drawn_fits k s t v (drawn.set base members ke d ve) =
      fits.set base members ke ve
      (members_ascend base (ordinal_count base) s t members d (omega arith)).within
  drawn_fits k s t v (drawn.array index of parts ke d ve) =
      let all = drawn_fit (replicate (ordinal_count index) of) s t parts d in
      fits.array index of parts ke ve (all_count (ordinal_count index) of parts all)
      (all_fit (ordinal_count index) of parts all)
  drawn_fits k s t v (drawn.fields fs parts ke d ve) =
      let all = drawn_fit (kinds_of fs) s t parts d in
      fits.fields fs parts ke ve (fields_count fs parts all) (fields_fit fs parts all)

  pub drawn_fit : (ks : List Kind) (s t : Stream) (vs : List Value) → DrawsValues ks s vs t
      → AllZip Fits ks vs
  drawn_fit ks s t vs drawn.no_values = tt
  drawn_fit ks s t vs (drawn.value_more {k = j} {ks = js} {v = w} {vs = ws} {t = m} x xs) =
      (drawn_fits j s m w x, drawn_fit js m t ws xs)
