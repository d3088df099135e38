-- There is one undefined value of a kind.
use Rattle.std.proofs.Common.{◌≡◌, refl, sym, ap, ◌∙◌, arith, ℕ, suc, true, List, []}
use Rattle.std.proofs.Common.{◌∷◌, map, length, replicate, slice_get, Some}
use Rattle.est_syntax.specs.declared.kind.Kind.{Kind, out-Kind, more_of-Kind}
use Rattle.est_syntax.specs.declared.kind.Kind.{Row_of-FieldKind, end_of-FieldKind}
use Rattle.est_syntax.specs.declared.kind.Kind.{more_of-FieldKind, items-the_row-FieldKind}
use Rattle.est_syntax.specs.declared.kind.Kind.{items_shown-the_row-FieldKind-1}
use Rattle.est_syntax.specs.declared.kind.Kind.{more_of-Kind-Fields-0-1}
use Rattle.est_syntax.specs.declared.kind.Kind.TheBlock.{shape-the_row-Kind-0}
use Rattle.est_syntax.specs.declared.kind.Kind.TheBlock.{hidden-the_row-Kind-0}
use Rattle.est_syntax.specs.declared.kind.Kind.TheBlock.{shown-the_row-Kind-0}
use Rattle.est_syntax.specs.declared.kind.Kind.TheBlock.{shape-the_row-FieldKind-1}
use Rattle.est_syntax.specs.declared.kind.Kind.TheBlock.{hidden-the_row-FieldKind-1}
use Rattle.est_syntax.specs.declared.kind.Kind.TheBlock.{shape-the_row-Kind-Fields-0-1-2}
use Rattle.est_syntax.specs.declared.kind.Kind.TheBlock.{hidden-the_row-Kind-Fields-0-1-2}
use Rattle.est_syntax.specs.declared.kind.Kind.TheBlock.{shown-the_row-Kind-Fields-0-1-2}
use Rattle.est_syntax.specs.declared.kind.Kind.TheOpen as seen
use Rattle.est_syntax.specs.declared.kind.Kind.TheVariants as kind
use Rattle.est_syntax.specs.declared.kind.FieldKind.{FieldKind}
use Rattle.est_values.specs.declared.value.Value.{Value, out-Value, roll-Value, roll-out-Value}
use Rattle.est_values.specs.declared.value.Value.TheOpen as shown
use Rattle.est_values.specs.declared.value.Value.TheVariants as value
use Rattle.est_values.specs.FittingValues.{KindLayer, scalar_of, ordinal_count, IsUndefinedOf}
use Rattle.est_values.specs.FittingValues.{undefined_scalar, undefined_array, undefined_fields}
use Rattle.mean_blocks.specs.TakenValues.{undefined_of, row_fields}

-- that of a field
abbrev of_field : FieldKind → Value
of_field f = undefined_of f.kind

-- the undefined value of a kind, by its form
abbrev by_layer : KindLayer → Value
by_layer (seen.ArrayOf index of) = value.Group (replicate (ordinal_count index) (undefined_of of))
by_layer (seen.Fields fs) = value.Group (map of_field fs)
by_layer _ = value.Undefined

fields_row : (n : _) (row : Row_of-FieldKind n)
    → row_fields row ≡ map of_field (items-the_row-FieldKind n row)
fields_row n end_of-FieldKind = refl
fields_row n (more_of-FieldKind name k rest) =
    ap (λ l. undefined_of k ∷ l) (fields_row _ rest)

undefined_at : (k : Kind) → undefined_of k ≡ by_layer (out-Kind k)
unfolding out-Kind denote.Hole.Carrier.out shape-the_row-Kind-0 hidden-the_row-Kind-0
    shown-the_row-Kind-0 shape-the_row-FieldKind-1 hidden-the_row-FieldKind-1
    shape-the_row-Kind-Fields-0-1-2 hidden-the_row-Kind-Fields-0-1-2
    shown-the_row-Kind-Fields-0-1-2 denote.Hole.Carrier.shown
undefined_at kind.Integer = refl
undefined_at kind.Boolean = refl
undefined_at kind.Char = refl
undefined_at (kind.Enumeration place names) = refl
undefined_at (kind.Part' a host low high) = refl
undefined_at (kind.SetOf' a base) = refl
undefined_at (kind.ArrayOf' a (more_of-Kind index rest) b (more_of-Kind of others)) = refl
undefined_at (kind.Fields' a (more_of-Kind-Fields-0-1 b fields rest)) =
    ap (λ vs. value.Group vs) (fields_row _ fields)
    ∙ ap (λ fs. value.Group (map of_field fs)) (sym (items_shown-the_row-FieldKind-1 b fields))

scalar_layer : (l : KindLayer) → scalar_of l ≡ true → by_layer l ≡ value.Undefined
scalar_layer seen.Integer s = refl
scalar_layer seen.Boolean s = refl
scalar_layer seen.Char s = refl
scalar_layer (seen.Enumeration place names) s = refl
scalar_layer (seen.Part host low high) s = refl
scalar_layer (seen.SetOf base) s = refl
scalar_layer (seen.ArrayOf index of) s = cc
scalar_layer (seen.Fields fs) s = cc

-- values all of which are one
all_same : (x : Value) (ps : List Value)
    → ((i : ℕ) (p : Value) → slice_get ps i ≡ Some p → p ≡ x) → ps ≡ replicate (length ps) x
all_same x [] h = refl
all_same x (p ∷ ps) h = λ i. h 0 p refl i ∷ all_same x ps (λ j q e. h (suc j) q e) i

-- one for each field
fields_same : (fs : List FieldKind) (ps : List Value) → length ps ≡ length fs
    → ((i : ℕ) (f : FieldKind) (p : Value) → slice_get fs i ≡ Some f → slice_get ps i ≡ Some p
    → p ≡ of_field f) → ps ≡ map of_field fs
fields_same [] [] n h = refl
fields_same [] (p ∷ ps) n h = cc
fields_same (f ∷ fs) [] n h = cc
fields_same (f ∷ fs) (p ∷ ps) n h =
    λ i. h 0 f p refl refl i ∷ fields_same fs ps (omega (arith, n))
    (λ j g q d e. h (suc j) g q d e) i

-- a value that looks so
looks_undefined : (v : Value) → out-Value v ≡ shown.Undefined → v ≡ value.Undefined
unfolding roll-Value denote.Hole.Carrier.roll
looks_undefined v e = sym (roll-out-Value v) ∙ ap roll-Value e

looks_grouped : (v : Value) (ps : List Value) → out-Value v ≡ shown.Group ps
    → v ≡ value.Group ps
unfolding roll-Value denote.Hole.Carrier.roll
looks_grouped v ps e = sym (roll-out-Value v) ∙ ap roll-Value e

pub undefined_unique : (k : Kind) (v : Value) → IsUndefinedOf k v → v ≡ undefined_of k
undefined_unique k v (undefined_scalar e s) =
    looks_undefined v e ∙ sym (undefined_at k ∙ scalar_layer (out-Kind k) s)
undefined_unique k v (undefined_array index of parts ke ve n each) =
    looks_grouped v parts ve
    ∙ ap (λ ps. value.Group ps) (all_same (undefined_of of) parts
    (λ i p e. undefined_unique of p (each i p e))
    ∙ ap (λ m. replicate m (undefined_of of)) n)
    ∙ sym (undefined_at k ∙ ap by_layer ke)
undefined_unique k v (undefined_fields fs parts ke ve n each) =
    looks_grouped v parts ve
    ∙ ap (λ ps. value.Group ps) (fields_same fs parts n
    (λ i f p d e. undefined_unique f.kind p (each i f p d e)))
    ∙ sym (undefined_at k ∙ ap by_layer ke)
