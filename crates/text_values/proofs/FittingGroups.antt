-- Groups fit their kinds where their parts do.
use Rattle.std.proofs.Common.{◌≡◌, ℕ, zero, suc, List, [], ◌∷◌, length, replicate, refl, ap, subst}
use Rattle.std.proofs.Common.{Some, slice_get}
use Rattle.std.specs.List.{AllZip}
use Rattle.est_syntax.specs.declared.kind.Kind.{Kind, out-Kind}
use Rattle.est_syntax.specs.declared.kind.Kind.TheOpen as kinds
use Rattle.est_syntax.specs.declared.kind.FieldKind.{FieldKind}
use Rattle.est_values.specs.declared.value.Value.{Value, out-Value}
use Rattle.est_values.specs.declared.value.Value.TheOpen as opened
use Rattle.est_values.specs.FittingValues as fit
use Rattle.est_values.specs.FittingValues.{Fits, ordinal_count}
use Rattle.text_values.specs.TraceGrammar.{field_kinds}

-- values that fit one by one
each_replicated : (m : ℕ) (of : Kind) (vs : List Value) → AllZip Fits (replicate m of) vs
    → (length vs ≡ m)
    × ((i : ℕ) (part : Value) → slice_get vs i ≡ Some part → Fits of part)
each_replicated zero of [] h = (refl, λ i part e. cc)
each_replicated zero of (v ∷ vs) h = absurd h
each_replicated (suc m) of [] h = absurd h
each_replicated (suc m) of (v ∷ vs) h =
    let r = each_replicated m of vs h.1 in (ap suc r.0, at r.1)
  where
    at : ((i : ℕ) (part : Value) → slice_get vs i ≡ Some part → Fits of part) → (i : ℕ)
        (part : Value) → slice_get (v ∷ vs) i ≡ Some part → Fits of part
    at r zero part e = let q : v ≡ part = cc in subst (Fits of) q h.0
    at r (suc i) part e = r i part e

each_field : (fs : List FieldKind) (vs : List Value) → AllZip Fits (field_kinds fs) vs
    → (length vs ≡ length fs)
    × ((i : ℕ) (field : FieldKind) (part : Value) → slice_get fs i ≡ Some field
    → slice_get vs i ≡ Some part → Fits field.kind part)
each_field [] [] h = (refl, λ i field part e f. cc)
each_field [] (v ∷ vs) h = absurd h
each_field (f ∷ fs) [] h = absurd h
each_field (f ∷ fs) (v ∷ vs) h =
    let r = each_field fs vs h.1 in (ap suc r.0, at r.1)
  where
    at : ((i : ℕ) (field : FieldKind) (part : Value) → slice_get fs i ≡ Some field
        → slice_get vs i ≡ Some part → Fits field.kind part) → (i : ℕ) (field : FieldKind)
        (part : Value) → slice_get (f ∷ fs) i ≡ Some field → slice_get (v ∷ vs) i ≡ Some part
        → Fits field.kind part
    at r zero field part e g =
        let p : f ≡ field = cc in
        let q : v ≡ part = cc in
        subst (λ (j : FieldKind). Fits j.kind part) p (subst (Fits f.kind) q h.0)
    at r (suc i) field part e g = r i field part e g

pub array_fits : (k index of : Kind) (v : Value) (vs : List Value)
    → out-Kind k ≡ kinds.ArrayOf index of → out-Value v ≡ opened.Group vs
    → AllZip Fits (replicate (ordinal_count index) of) vs → Fits k v
array_fits k index of v vs i e h =
    let r = each_replicated (ordinal_count index) of vs h in fit.array index of vs i e r.0 r.1

pub record_fits : (k : Kind) (fs : List FieldKind) (v : Value) (vs : List Value)
    → out-Kind k ≡ kinds.Fields fs → out-Value v ≡ opened.Group vs
    → AllZip Fits (field_kinds fs) vs → Fits k v
record_fits k fs v vs i e h = let r = each_field fs vs h in fit.fields fs vs i e r.0 r.1
