-- Each kind has a value.
use Rattle.std.proofs.Common.{◌≡◌, ℕ, zero, suc, IsTrue, List, [], ◌∷◌, replicate, refl, sym, subst}
use Rattle.std.specs.List.{AllZip}
use Rattle.est_syntax.specs.declared.kind.FieldKind.{FieldKind}
use Rattle.est_syntax.specs.declared.kind.Kind.{Kind, out-Kind, more_of-Kind}
use Rattle.est_syntax.specs.declared.kind.Kind.{Row_of-FieldKind, end_of-FieldKind}
use Rattle.est_syntax.specs.declared.kind.Kind.{more_of-FieldKind, items-the_row-FieldKind}
use Rattle.est_syntax.specs.declared.kind.Kind.{items_shown-the_row-FieldKind-1}
use Rattle.est_syntax.specs.declared.kind.Kind.{more_of-Kind-Fields-0-1}
use Rattle.est_syntax.specs.declared.kind.Kind.TheBlock.{shape-the_row-Kind-0}
use Rattle.est_syntax.specs.declared.kind.Kind.TheBlock.{hidden-the_row-Kind-0}
use Rattle.est_syntax.specs.declared.kind.Kind.TheBlock.{shown-the_row-Kind-0}
use Rattle.est_syntax.specs.declared.kind.Kind.TheBlock.{shape-the_row-FieldKind-1}
use Rattle.est_syntax.specs.declared.kind.Kind.TheBlock.{hidden-the_row-FieldKind-1}
use Rattle.est_syntax.specs.declared.kind.Kind.TheBlock.{shape-the_row-Kind-Fields-0-1-2}
use Rattle.est_syntax.specs.declared.kind.Kind.TheBlock.{hidden-the_row-Kind-Fields-0-1-2}
use Rattle.est_syntax.specs.declared.kind.Kind.TheBlock.{shown-the_row-Kind-Fields-0-1-2}
use Rattle.est_syntax.specs.declared.kind.Kind.TheOpen as kinds
use Rattle.est_syntax.specs.declared.kind.Kind.TheVariants as kind
use Rattle.est_values.specs.declared.value.Value.{Value}
use Rattle.est_values.specs.declared.value.Value.TheVariants as value
use Rattle.est_values.specs.FittingValues.{Fits, undefined, is_scalar, ordinal_count}
use Rattle.text_values.specs.TraceGrammar.{field_kinds}
use Rattle.text_values.proofs.FittingGroups.{array_fits, record_fits}

-- a value fits the kind
abbrev pub HasValue : Kind → Type 0
HasValue k = (v : Value) × Fits k v

-- values fit the kinds of these fields, one for one
abbrev HasValues : List FieldKind → Type 0
HasValues fs = (vs : List Value) × AllZip Fits (field_kinds fs) vs

scalar_value : (k : Kind) → IsTrue (is_scalar k) → HasValue k
scalar_value k s = (value.Undefined, undefined value.outs-Undefined s)

equal_fit : (n : ℕ) (of : Kind) (v : Value) → Fits of v
    → AllZip Fits (replicate n of) (replicate n v)
equal_fit zero of v h = tt
equal_fit (suc n) of v h = (h, equal_fit n of v h)

array_value : (k index of : Kind) → out-Kind k ≡ kinds.ArrayOf index of → HasValue of → HasValue k
array_value k index of e h =
    let n = ordinal_count index in
    let vs = replicate n h.0 in (
      value.Group vs,
      array_fits k index of (value.Group vs) vs e (value.outs-Group vs)
          (equal_fit n of h.0 h.1),
    )

record_value : (k : Kind) (fs : List FieldKind) → out-Kind k ≡ kinds.Fields fs → HasValues fs
    → HasValue k
record_value k fs e h =
    (value.Group h.0, record_fits k fs (value.Group h.0) h.0 e (value.outs-Group h.0) h.1)

mutual
  unfolding out-Kind denote.Hole.Carrier.out shape-the_row-Kind-0 hidden-the_row-Kind-0
      shown-the_row-Kind-0 shape-the_row-FieldKind-1 hidden-the_row-FieldKind-1
      shape-the_row-Kind-Fields-0-1-2 hidden-the_row-Kind-Fields-0-1-2
      shown-the_row-Kind-Fields-0-1-2 denote.Hole.Carrier.shown

  pub some_value : (k : Kind) → HasValue k
  some_value kind.Integer = scalar_value kind.Integer refl
  some_value kind.Boolean = scalar_value kind.Boolean refl
  some_value kind.Char = scalar_value kind.Char refl
  some_value (kind.Enumeration place names) = scalar_value (kind.Enumeration place names) refl
  some_value (kind.Part' a (more_of-Kind host rest) low high) =
      scalar_value (kind.Part' a (more_of-Kind host rest) low high) refl
  some_value (kind.SetOf' a (more_of-Kind base rest)) =
      scalar_value (kind.SetOf' a (more_of-Kind base rest)) refl
  some_value (kind.ArrayOf' a (more_of-Kind index rest) b (more_of-Kind of others)) =
      array_value (kind.ArrayOf' a (more_of-Kind index rest) b (more_of-Kind of others)) index of
      refl (some_value of)
  some_value (kind.Fields' a (more_of-Kind-Fields-0-1 b fields rest)) =
      record_value (kind.Fields' a (more_of-Kind-Fields-0-1 b fields rest)) _ refl
      (subst (λ fs. HasValues fs) (sym (items_shown-the_row-FieldKind-1 b fields))
      (some_values _ fields))

  some_values : (n : _) (row : Row_of-FieldKind n) → HasValues (items-the_row-FieldKind n row)
  some_values n end_of-FieldKind = ([], tt)
  some_values n (more_of-FieldKind name k rest) =
      let v = some_value k in
      let vs = some_values _ rest in
      (v.0 ∷ vs.0, (v.1, vs.1))
