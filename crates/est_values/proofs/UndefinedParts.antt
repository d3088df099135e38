-- Groups of undefined values.
use Rattle.std.proofs.Common.{◌≡◌, refl, sym, ap, ◌∙◌, subst, arith, ℕ, zero, suc, true}
use Rattle.std.proofs.Common.{List, [], ◌∷◌, ◌++◌, length, replicate, slice_get, Some}
use Rattle.std.proofs.Common.{◌⊎◌, inl, inr}
use Rattle.std.proofs.lemmas.List.{length-replicate, get_or-replicate}
use Rattle.std.proofs.lemmas.Option.{slice_get_within, get_or_from_slice_get, same_Some}
use Rattle.est_syntax.specs.declared.kind.Kind.{Kind, out-Kind}
use Rattle.est_syntax.specs.declared.kind.Kind.TheVariants as kind
use Rattle.est_syntax.specs.declared.kind.FieldKind.{FieldKind}
use Rattle.est_values.specs.declared.value.Value.{Value}
use Rattle.est_values.specs.declared.value.Value.TheVariants as value
use Rattle.est_values.specs.FittingValues.{KindLayer, scalar_of, ordinal_count, IsUndefinedOf}
use Rattle.est_values.specs.FittingValues.{undefined_scalar, undefined_array, undefined_fields}
use Rattle.est_values.specs.inside.FittingLayers.{EachUndefined, AreUndefined}

-- each of equal values is that value
each_same : (n : ℕ) (x : Value) (i : ℕ) (y : Value) → slice_get (replicate n x) i ≡ Some y
    → x ≡ y
each_same n x i y at =
    let h = slice_get_within (replicate n x) i y at in
    sym (get_or-replicate n i x x (omega (arith, h, length-replicate n x)))
    ∙ get_or_from_slice_get (replicate n x) i y x at

-- an undefined scalar
pub scalar_undefined : (k : Kind) (l : KindLayer) → out-Kind k ≡ l → scalar_of l ≡ true
    → IsUndefinedOf k value.Undefined
scalar_undefined k l is s = undefined_scalar value.outs-Undefined (ap scalar_of is ∙ s)

-- an array of equal undefined values
pub array_undefined : (k index of given : Kind) (n : ℕ) (x : Value) (xs : List Value)
    → k ≡ kind.ArrayOf index of → given ≡ of → IsUndefinedOf given x
    → n ≡ ordinal_count index → xs ≡ replicate n x → IsUndefinedOf k (value.Group xs)
array_undefined k index of given n x xs is same u count e =
    undefined_array index of xs (ap out-Kind is ∙ kind.outs-ArrayOf index of) (value.outs-Group xs)
    (ap length e ∙ length-replicate n x ∙ count)
    (λ i y at. subst (IsUndefinedOf of)
    (each_same n x i y (ap (λ l. slice_get l i) (sym e) ∙ at))
    (subst (λ (j : Kind). IsUndefinedOf j x) same u))

-- a record of undefined values
pub record_undefined : (k : Kind) (fs given : List FieldKind) (xs : List Value)
    → k ≡ kind.Fields fs → given ≡ fs → AreUndefined given xs → IsUndefinedOf k (value.Group xs)
record_undefined k fs given xs is same u =
    let v = subst (λ (l : List FieldKind). AreUndefined l xs) same u in
    undefined_fields fs xs (ap out-Kind is ∙ kind.outs-Fields fs) (value.outs-Group xs) v.0 v.1

-- what stands in a longer list stands in the shorter one or is last
last_or_before : (xs : List Value) (x : Value) (i : ℕ) (y : Value)
    → slice_get (xs ++ x ∷ []) i ≡ Some y → (slice_get xs i ≡ Some y) ⊎ ((i ≡ length xs) × (x ≡ y))
last_or_before [] x zero y at = inr (refl, same_Some x y at)
last_or_before [] x (suc i) y at = cc
last_or_before (z ∷ xs) x zero y at = inl at
last_or_before (z ∷ xs) x (suc i) y at = later (last_or_before xs x i y at)
  where
    later : (slice_get xs i ≡ Some y) ⊎ ((i ≡ length xs) × (x ≡ y))
        → (slice_get xs i ≡ Some y) ⊎ ((suc i ≡ suc (length xs)) × (x ≡ y))
    later (inl e) = inl e
    later (inr e) = inr (ap suc e.0, e.1)

-- one undefined value more, for one field more
pub one_more_undefined : (fs : List FieldKind) (xs : List Value) (f : FieldKind) (x : Value)
    → slice_get fs (length xs) ≡ Some f → IsUndefinedOf f.kind x → EachUndefined fs xs
    → EachUndefined fs (xs ++ x ∷ [])
one_more_undefined fs xs f x at u each i g y there here = by (last_or_before xs x i y here)
  where
    by : (slice_get xs i ≡ Some y) ⊎ ((i ≡ length xs) × (x ≡ y)) → IsUndefinedOf g.kind y
    by (inl e) = each i g y there e
    by (inr e) =
        let same : f ≡ g =
        same_Some f g (sym at ∙ ap (slice_get fs) (sym e.0) ∙ there) in
        subst (IsUndefinedOf g.kind) e.1
        (subst (λ (h : FieldKind). IsUndefinedOf h.kind x) same u)
