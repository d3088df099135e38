-- The texts of values, by their forms.
use Rattle.std.proofs.Common.{◌≡◌, ◌∙◌, refl, sym, ap, ℕ, zero, suc, ◌<◌, ℤ, List, [], ◌∷◌, ◌++◌}
use Rattle.std.proofs.Common.{length, map, Some, slice_get, arith, codes, replicate, get_or}
use Rattle.std.proofs.Common.{if◌then◌else◌}
use Rattle.std.specs.Option.{option_map}
use Rattle.std.specs.Prelude.{Result, Ok, Err, OnOk, is_ok}
use Rattle.std.proofs.lemmas.List.{length-map}
use Rattle.std.proofs.lemmas.Option.{slice_get-map, slice_get-get_or, slice_get_within}
use Rattle.est_syntax.specs.declared.kind.FieldKind.{FieldKind}
use Rattle.est_syntax.specs.declared.kind.Kind.{Kind, out-Kind}
use Rattle.est_values.specs.declared.value.Value.{Value, out-Value}
use Rattle.est_values.specs.declared.value.Value.TheOpen as seen
use Rattle.est_values.specs.declared.value.Value.TheFolds.{fold-Value, fold_out-Value}
use Rattle.text_values.specs.WrittenLists.{enclosed, paired}
use Rattle.text_values.specs.WrittenOrdinals.{ordinal_text}
use Rattle.text_values.specs.WrittenValues.{Text, told, text_by, value_text, set_text, base_by}
use Rattle.text_values.specs.WrittenValues.{kinds_by, group_by, group_text, field_kinds}

-- the text of a value, by its kind
abbrev folded : Value → Text
folded = fold-Value Text text_by

-- the texts of parts are those that their forms have
folded_texts : {A : Type 0} (f : A → Text) (ks : List Kind) (xs : List A)
    → paired told ks (map f xs) ≡ paired (λ k x. f x k) ks xs
folded_texts f [] xs = refl
folded_texts f (k ∷ ks) [] = refl
folded_texts f (k ∷ ks) (x ∷ xs) = ap (λ ts. f x k ∷ ts) (folded_texts f ks xs)

-- and so is that of their group
pub folded_group : {A : Type 0} (f : A → Text) (k : Kind) (parts : List A)
    → group_by told k (map f parts) ≡ group_by (λ j x. f x j) k parts
folded_group f k parts =
    let by = kinds_by (out-Kind k) in
    ap (enclosed (codes "(") (codes ")"))
    (ap (λ n. paired told (by n) (map f parts)) (length-map parts f)
    ∙ folded_texts f (by (length parts)) parts)

-- an undefined scalar,
pub undefined_text : (k : Kind) (v : Value) → out-Value v ≡ seen.Undefined
    → codes "_" ≡ value_text k v
unfolding value_text
undefined_text k v e = sym (ap (told k) (rw e at (fold_out-Value Text text_by v)))

-- an ordinal,
pub ordinal_is : (k : Kind) (v : Value) (z : ℤ) → out-Value v ≡ seen.Ordinal z
    → ordinal_text k z ≡ value_text k v
unfolding value_text
ordinal_is k v z e = sym (ap (told k) (rw e at (fold_out-Value Text text_by v)))

-- a set
pub set_is : (k : Kind) (v : Value) (zs : List ℤ) → out-Value v ≡ seen.Set zs
    → set_text (base_by (out-Kind k) k) zs ≡ value_text k v
unfolding value_text
set_is k v zs e = sym (ap (told k) (rw e at (fold_out-Value Text text_by v)))

-- and a group
pub group_is : (k : Kind) (v : Value) (parts : List Value) → out-Value v ≡ seen.Group parts
    → group_text k parts ≡ value_text k v
unfolding value_text
group_is k v parts e =
    let all = ap (told k) (rw e at (fold_out-Value Text text_by v)) in
    sym (all ∙ folded_group folded k parts)

-- what was added is a text
pub added : {A E : Type 0} (old new t u : List ℕ) (r : Result A E)
    → new ≡ (if is_ok r then old ++ t else old) → t ≡ u → OnOk r (new ≡ old ++ u)
added old new t u (Ok x) e same = e ∙ ap (λ s. old ++ s) same
added old new t u (Err x) e same = tt

-- and another one that is the same
pub added_as : {A E : Type 0} (old new t u : List ℕ) (r : Result A E)
    → OnOk r (new ≡ old ++ t) → t ≡ u → OnOk r (new ≡ old ++ u)
added_as old new t u (Ok x) e same = e ∙ ap (λ s. old ++ s) same
added_as old new t u (Err x) e same = tt

pub replicated : (n i : ℕ) (k : Kind) → i < n → slice_get (replicate n k) i ≡ Some k
replicated zero i k h = absurd (omega (arith, h))
replicated (suc n) zero k h = refl
replicated (suc n) (suc i) k h = replicated n i k (omega (arith, h))

-- the kind of an element
pub element_kind : (k : Kind) (parts : List Value) (i : ℕ) (part : Value)
    → Some part ≡ slice_get parts i → slice_get (replicate (length parts) k) i ≡ Some k
element_kind k parts i part e =
    replicated (length parts) i k (slice_get_within parts i part (sym e))

-- the kind of a field
pub field_kind : (fields : List FieldKind) (i : ℕ) (d : FieldKind) → i < length fields
    → slice_get (field_kinds fields) i ≡ Some (get_or fields i d).kind
field_kind fields i d h =
    slice_get-map (λ (f : FieldKind). f.kind) fields i
    ∙ ap (option_map (λ (f : FieldKind). f.kind)) (slice_get-get_or fields i d h)

-- there are as many kinds as fields
pub field_count : (fields : List FieldKind) → length (field_kinds fields) ≡ length fields
field_count fields = length-map fields (λ (f : FieldKind). f.kind)
