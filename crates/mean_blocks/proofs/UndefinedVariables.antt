-- Variables begin with the value of their kind that is undefined throughout.
use Rattle.std.proofs.Common.{◌≡◌, refl, sym, ap, ◌∙◌, subst, arith, ℕ, zero, suc}
use Rattle.std.proofs.Common.{List, ◌∷◌, length, replicate, slice_get, Some}
use Rattle.std.proofs.lemmas.List.{length-replicate, get_or-replicate}
use Rattle.std.proofs.lemmas.Option.{slice_get_within, get_or_from_slice_get, same_Some}
use Rattle.est_syntax.specs.declared.kind.Kind.{Kind, out-Kind, more_of-Kind}
use Rattle.est_syntax.specs.declared.kind.Kind.{Row_of-FieldKind, end_of-FieldKind}
use Rattle.est_syntax.specs.declared.kind.Kind.{more_of-FieldKind, items-the_row-FieldKind}
use Rattle.est_syntax.specs.declared.kind.Kind.{items_shown-the_row-FieldKind-1}
use Rattle.est_syntax.specs.declared.kind.Kind.{more_of-Kind-Fields-0-1}
use Rattle.est_syntax.specs.declared.kind.Kind.TheBlock.{shape-the_row-Kind-0}
use Rattle.est_syntax.specs.declared.kind.Kind.TheBlock.{hidden-the_row-Kind-0}
use Rattle.est_syntax.specs.declared.kind.Kind.TheBlock.{shown-the_row-Kind-0}
use Rattle.est_syntax.specs.declared.kind.Kind.TheBlock.{shape-the_row-FieldKind-1}
use Rattle.est_syntax.specs.declared.kind.Kind.TheBlock.{hidden-the_row-FieldKind-1}
use Rattle.est_syntax.specs.declared.kind.Kind.TheBlock.{shape-the_row-Kind-Fields-0-1-2}
use Rattle.est_syntax.specs.declared.kind.Kind.TheBlock.{hidden-the_row-Kind-Fields-0-1-2}
use Rattle.est_syntax.specs.declared.kind.Kind.TheBlock.{shown-the_row-Kind-Fields-0-1-2}
use Rattle.est_syntax.specs.declared.kind.Kind.TheOpen as seen
use Rattle.est_syntax.specs.declared.kind.Kind.TheVariants as kind
use Rattle.est_syntax.specs.declared.kind.FieldKind.{FieldKind}
use Rattle.est_values.specs.declared.value.Value.{Value}
use Rattle.est_values.specs.declared.value.Value.TheVariants as value
use Rattle.est_values.specs.FittingValues.{ordinal_count, IsUndefinedOf}
use Rattle.est_values.specs.FittingValues.{undefined_scalar, undefined_array, undefined_fields}
use Rattle.mean_blocks.specs.TakenValues.{undefined_of, row_fields}

-- each of equal values is that value
each_same : (n : ℕ) (x : Value) (i : ℕ) (y : Value) → slice_get (replicate n x) i ≡ Some y
    → x ≡ y
each_same n x i y at =
    let h = slice_get_within (replicate n x) i y at in
    sym (get_or-replicate n i x x (omega (arith, h, length-replicate n x)))
    ∙ get_or_from_slice_get (replicate n x) i y x at

-- the fields of a record so far, and one more
one_more : (g : FieldKind) (gs : List FieldKind) (x : Value) (xs : List Value)
    → IsUndefinedOf g.kind x
    → ((i : ℕ) (f : FieldKind) (y : Value) → slice_get gs i ≡ Some f → slice_get xs i ≡ Some y
    → IsUndefinedOf f.kind y)
    → (i : ℕ) (f : FieldKind) (y : Value) → slice_get (g ∷ gs) i ≡ Some f
    → slice_get (x ∷ xs) i ≡ Some y → IsUndefinedOf f.kind y
one_more g gs x xs u each zero f y at there =
    subst (λ (h : FieldKind). IsUndefinedOf h.kind y) (same_Some g f at)
    (subst (IsUndefinedOf g.kind) (same_Some x y there) u)
one_more g gs x xs u each (suc i) f y at there = each i f y at there

mutual
  unfolding out-Kind denote.Hole.Carrier.out shape-the_row-Kind-0 hidden-the_row-Kind-0
      shown-the_row-Kind-0 shape-the_row-FieldKind-1 hidden-the_row-FieldKind-1
      shape-the_row-Kind-Fields-0-1-2 hidden-the_row-Kind-Fields-0-1-2
      shown-the_row-Kind-Fields-0-1-2 denote.Hole.Carrier.shown

  pub begins_undefined : (k : Kind) → IsUndefinedOf k (undefined_of k)
  begins_undefined kind.Integer = undefined_scalar value.outs-Undefined refl
  begins_undefined kind.Boolean = undefined_scalar value.outs-Undefined refl
  begins_undefined kind.Char = undefined_scalar value.outs-Undefined refl
  begins_undefined (kind.Enumeration place names) = undefined_scalar value.outs-Undefined refl
  begins_undefined (kind.Part' a host low high) = undefined_scalar value.outs-Undefined refl
  begins_undefined (kind.SetOf' a base) = undefined_scalar value.outs-Undefined refl
  begins_undefined (kind.ArrayOf' a (more_of-Kind index rest) b (more_of-Kind of others)) =
      let n = ordinal_count index in
      let x = undefined_of of in
      undefined_array index of (replicate n x) refl (value.outs-Group (replicate n x))
      (length-replicate n x)
      (λ i y at. subst (IsUndefinedOf of) (each_same n x i y at) (begins_undefined of))
  begins_undefined (kind.Fields' a (more_of-Kind-Fields-0-1 b fields rest)) =
      undefined_fields (items-the_row-FieldKind _ fields) (row_fields fields)
      (ap seen.Fields (items_shown-the_row-FieldKind-1 b fields))
      (value.outs-Group (row_fields fields)) (fields_length _ fields) (fields_undefined _ fields)

  fields_length : (n : _) (row : Row_of-FieldKind n)
      → length (row_fields row) ≡ length (items-the_row-FieldKind n row)
  fields_length n end_of-FieldKind = refl
  fields_length n (more_of-FieldKind name k rest) = ap suc (fields_length _ rest)

  fields_undefined : (n : _) (row : Row_of-FieldKind n) (i : ℕ) (f : FieldKind) (y : Value)
      → slice_get (items-the_row-FieldKind n row) i ≡ Some f
      → slice_get (row_fields row) i ≡ Some y → IsUndefinedOf f.kind y
  fields_undefined n end_of-FieldKind i f y at there = cc
  fields_undefined n (more_of-FieldKind name k rest) i f y at there =
      one_more (record { name = name; kind = k }) (items-the_row-FieldKind _ rest)
      (undefined_of k) (row_fields rest) (begins_undefined k)
      (λ j g z. fields_undefined _ rest j g z) i f y at there
