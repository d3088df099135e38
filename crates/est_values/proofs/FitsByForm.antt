-- A value fits a kind where its form does.
use Rattle.std.proofs.Common.{◌≡◌, refl, sym, ap, ◌∙◌, subst, arith, ℤ, ◌≤ℤ◌, ◌↔◌, Bool}
use Rattle.std.proofs.Common.{IsTrue, List, pos, negsuc}
use Rattle.std.proofs.lemmas.Int.{ints}
use Rattle.est_syntax.specs.declared.kind.Kind.{Kind, out-Kind}
use Rattle.est_syntax.specs.declared.kind.Kind.TheOpen as seen
use Rattle.est_syntax.specs.declared.kind.Kind.TheVariants as kind
use Rattle.est_syntax.specs.declared.kind.FieldKind.{FieldKind}
use Rattle.est_values.specs.declared.value.Value.{Value, out-Value}
use Rattle.est_values.specs.declared.value.Value.TheOpen as value
use Rattle.est_values.specs.PartsOfValues.{ValueLayer}
use Rattle.est_values.specs.FittingValues.{KindLayer, first_of, last_of, scalar_of, Fits}
use Rattle.est_values.specs.FittingValues.{undefined, ordinal, set, array, fields}
use Rattle.est_values.specs.inside.FittingLayers.{FitsOrdinal, FitsSet, FitsArray, FitsRecord}
use Rattle.est_values.specs.inside.FittingLayers.{FitsLayer}

-- an undefined scalar fits
undefined_fits : (l : KindLayer) → IsTrue (scalar_of l) → FitsLayer l value.Undefined
undefined_fits seen.Integer s = tt
undefined_fits seen.Boolean s = tt
undefined_fits seen.Char s = tt
undefined_fits (seen.Enumeration place names) s = tt
undefined_fits (seen.Part host low high) s = tt
undefined_fits (seen.SetOf base) s = tt
undefined_fits (seen.ArrayOf index of) s = cc
undefined_fits (seen.Fields fs) s = cc

-- no ordinal lies from 0 to -1
none_between : (z : ℤ) → pos 0 ≤ℤ z → z ≤ℤ negsuc 0 → ⊥
none_between z a b = omega (arith, ints, a, b)

-- an ordinal from the first to the last fits
ordinal_fits : (l : KindLayer) (z : ℤ) → first_of l ≤ℤ z → z ≤ℤ last_of l
    → FitsLayer l (value.Ordinal z)
ordinal_fits seen.Integer z a b = (a, b)
ordinal_fits seen.Boolean z a b = (a, b)
ordinal_fits seen.Char z a b = (a, b)
ordinal_fits (seen.Enumeration place names) z a b = (a, b)
ordinal_fits (seen.Part host low high) z a b = (a, b)
ordinal_fits (seen.SetOf base) z a b = absurd (none_between z a b)
ordinal_fits (seen.ArrayOf index of) z a b = absurd (none_between z a b)
ordinal_fits (seen.Fields fs) z a b = absurd (none_between z a b)

-- what fits does so by its form
fits_layer : (k : Kind) (v : Value) → Fits k v → FitsLayer (out-Kind k) (out-Value v)
fits_layer k v (undefined e s) =
    subst (FitsLayer (out-Kind k)) (sym e) (undefined_fits (out-Kind k) s)
fits_layer k v (ordinal z e o) =
    subst (FitsLayer (out-Kind k)) (sym e) (ordinal_fits (out-Kind k) z o.0 o.1)
fits_layer k v (set base zs ke ve m) =
    subst (λ (l : KindLayer). FitsLayer l (out-Value v)) (sym ke)
    (subst (FitsSet base) (sym ve) m)
fits_layer k v (array index of parts ke ve n each) =
    subst (λ (l : KindLayer). FitsLayer l (out-Value v)) (sym ke)
    (subst (FitsArray index of) (sym ve) (n, each))
fits_layer k v (fields fs parts ke ve n each) =
    subst (λ (l : KindLayer). FitsLayer l (out-Value v)) (sym ke)
    (subst (FitsRecord fs) (sym ve) (n, each))

-- what fits an ordinal kind by its form fits it
by_ordinal : (k : Kind) (v : Value) (l : KindLayer) (u : ValueLayer) → out-Kind k ≡ l
    → out-Value v ≡ u → IsTrue (scalar_of l) → FitsOrdinal l u → Fits k v
by_ordinal k v l value.Undefined ke ve s h = undefined ve (ap scalar_of ke ∙ s)
by_ordinal k v l (value.Ordinal z) ke ve s h = ordinal z ve
    (subst (λ (l : KindLayer). (first_of l ≤ℤ z) × (z ≤ℤ last_of l)) (sym ke) h)
by_ordinal k v l (value.Set zs) ke ve s h = absurd h
by_ordinal k v l (value.Group parts) ke ve s h = absurd h

-- and likewise for a set,
by_set : (k : Kind) (v : Value) (base : Kind) (u : ValueLayer) → out-Kind k ≡ seen.SetOf base
    → out-Value v ≡ u → FitsSet base u → Fits k v
by_set k v base value.Undefined ke ve h = undefined ve (ap scalar_of ke)
by_set k v base (value.Ordinal z) ke ve h = absurd h
by_set k v base (value.Set zs) ke ve h = set base zs ke ve h
by_set k v base (value.Group parts) ke ve h = absurd h

-- an array
by_array : (k : Kind) (v : Value) (index of : Kind) (u : ValueLayer)
    → out-Kind k ≡ seen.ArrayOf index of → out-Value v ≡ u → FitsArray index of u → Fits k v
by_array k v index of value.Undefined ke ve h = absurd h
by_array k v index of (value.Ordinal z) ke ve h = absurd h
by_array k v index of (value.Set zs) ke ve h = absurd h
by_array k v index of (value.Group parts) ke ve h = array index of parts ke ve h.0 h.1

-- and a record
by_record : (k : Kind) (v : Value) (fs : List FieldKind) (u : ValueLayer)
    → out-Kind k ≡ seen.Fields fs → out-Value v ≡ u → FitsRecord fs u → Fits k v
by_record k v fs value.Undefined ke ve h = absurd h
by_record k v fs (value.Ordinal z) ke ve h = absurd h
by_record k v fs (value.Set zs) ke ve h = absurd h
by_record k v fs (value.Group parts) ke ve h = fields fs parts ke ve h.0 h.1

-- the answer for a set is that for its kind
pub set_answer : (k : Kind) (v : Value) (base given : Kind) (r : Bool) → k ≡ kind.SetOf base
    → given ≡ base → (IsTrue r ↔ FitsSet given (out-Value v)) → IsTrue r ↔ Fits k v
set_answer k v base given r is same answer =
    let ke : out-Kind k ≡ seen.SetOf base = ap out-Kind is ∙ kind.outs-SetOf base in
    let a = subst (λ (b : Kind). IsTrue r ↔ FitsSet b (out-Value v)) same answer in (
      λ t. by_set k v base (out-Value v) ke refl (a.0 t),
      λ f. a.1 (subst (λ (l : KindLayer). FitsLayer l (out-Value v)) ke (fits_layer k v f)),
    )

-- and that for an array,
pub array_answer : (k : Kind) (v : Value) (index of given held : Kind) (r : Bool)
    → k ≡ kind.ArrayOf index of → given ≡ index → held ≡ of
    → (IsTrue r ↔ FitsArray given held (out-Value v)) → IsTrue r ↔ Fits k v
array_answer k v index of given held r is same alike answer =
    let ke : out-Kind k ≡ seen.ArrayOf index of = ap out-Kind is ∙ kind.outs-ArrayOf index of in
    let b = subst (λ (j : Kind). IsTrue r ↔ FitsArray j held (out-Value v)) same answer in
    let a = subst (λ (j : Kind). IsTrue r ↔ FitsArray index j (out-Value v)) alike b in (
      λ t. by_array k v index of (out-Value v) ke refl (a.0 t),
      λ f. a.1 (subst (λ (l : KindLayer). FitsLayer l (out-Value v)) ke (fits_layer k v f)),
    )

-- a record,
pub record_answer : (k : Kind) (v : Value) (fs given : List FieldKind) (r : Bool)
    → k ≡ kind.Fields fs → given ≡ fs → (IsTrue r ↔ FitsRecord given (out-Value v))
    → IsTrue r ↔ Fits k v
record_answer k v fs given r is same answer =
    let ke : out-Kind k ≡ seen.Fields fs = ap out-Kind is ∙ kind.outs-Fields fs in
    let a = subst (λ (l : List FieldKind). IsTrue r ↔ FitsRecord l (out-Value v)) same answer in (
      λ t. by_record k v fs (out-Value v) ke refl (a.0 t),
      λ f. a.1 (subst (λ (l : KindLayer). FitsLayer l (out-Value v)) ke (fits_layer k v f)),
    )

-- and an ordinal kind
pub ordinal_answer : (k : Kind) (v : Value) (l : KindLayer) (r : Bool) → out-Kind k ≡ l
    → IsTrue (scalar_of l) → ((u : ValueLayer) → FitsLayer l u → FitsOrdinal l u)
    → (IsTrue r ↔ FitsOrdinal (out-Kind k) (out-Value v)) → IsTrue r ↔ Fits k v
ordinal_answer k v l r ke s same answer =
    let a = subst (λ (j : KindLayer). IsTrue r ↔ FitsOrdinal j (out-Value v)) ke answer in (
      λ t. by_ordinal k v l (out-Value v) ke refl s (a.0 t),
      λ f. a.1 (same (out-Value v)
          (subst (λ (j : KindLayer). FitsLayer j (out-Value v)) ke (fits_layer k v f))),
    )
