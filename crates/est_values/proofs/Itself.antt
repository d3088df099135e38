-- Each kind is alike to itself.
use Rattle.std.proofs.Common.{◌≡◌, refl, ap, ◌∙◌, ℤ, Bool, ◌&&◌, true, int_eq}
use Rattle.std.proofs.lemmas.Cmp.{int_eq_equiv, nat_list_eq_equiv}
use Rattle.std.proofs.lemmas.Bool.Decides.{Decides-eqb}
use Rattle.est_syntax.specs.Names.{is_name}
use Rattle.est_syntax.specs.declared.kind.Kind.{Kind, out-Kind, more_of-Kind}
use Rattle.est_syntax.specs.declared.kind.Kind.{Row_of-FieldKind, end_of-FieldKind}
use Rattle.est_syntax.specs.declared.kind.Kind.{more_of-FieldKind, items-the_row-FieldKind}
use Rattle.est_syntax.specs.declared.kind.Kind.{items_shown-the_row-FieldKind-1}
use Rattle.est_syntax.specs.declared.kind.Kind.{more_of-Kind-Fields-0-1}
use Rattle.est_syntax.specs.declared.kind.Kind.TheBlock.{shape-the_row-Kind-0}
use Rattle.est_syntax.specs.declared.kind.Kind.TheBlock.{hidden-the_row-Kind-0}
use Rattle.est_syntax.specs.declared.kind.Kind.TheBlock.{shown-the_row-Kind-0}
use Rattle.est_syntax.specs.declared.kind.Kind.TheBlock.{shape-the_row-FieldKind-1}
use Rattle.est_syntax.specs.declared.kind.Kind.TheBlock.{hidden-the_row-FieldKind-1}
use Rattle.est_syntax.specs.declared.kind.Kind.TheBlock.{shape-the_row-Kind-Fields-0-1-2}
use Rattle.est_syntax.specs.declared.kind.Kind.TheBlock.{hidden-the_row-Kind-Fields-0-1-2}
use Rattle.est_syntax.specs.declared.kind.Kind.TheBlock.{shown-the_row-Kind-Fields-0-1-2}
use Rattle.est_syntax.specs.declared.kind.Kind.TheVariants as kind
use Rattle.est_values.specs.Alike.{is_alike, are_same_bounds, row_fields}

both : (a b : Bool) → a ≡ true → b ≡ true → a && b ≡ true
both a b first second = λ i. first i && second i

same_bounds : (low high : ℤ) → are_same_bounds low high low high ≡ true
same_bounds low high = both (int_eq low low) (int_eq high high) (int_eq_equiv.refl low)
    (int_eq_equiv.refl high)

mutual
  unfolding out-Kind denote.Hole.Carrier.out shape-the_row-Kind-0 hidden-the_row-Kind-0
      shown-the_row-Kind-0 shape-the_row-FieldKind-1 hidden-the_row-FieldKind-1
      shape-the_row-Kind-Fields-0-1-2 hidden-the_row-Kind-Fields-0-1-2
      shown-the_row-Kind-Fields-0-1-2 denote.Hole.Carrier.shown

  pub alike_to_itself : (k : Kind) → is_alike k k ≡ true
  alike_to_itself kind.Integer = refl
  alike_to_itself kind.Boolean = refl
  alike_to_itself kind.Char = refl
  alike_to_itself (kind.Enumeration place names) = (Decides-eqb place place).1 refl
  alike_to_itself (kind.Part' a (more_of-Kind host rest) low high) =
      both (are_same_bounds low high low high) (is_alike host host) (same_bounds low high)
      (alike_to_itself host)
  alike_to_itself (kind.SetOf' a (more_of-Kind base rest)) = alike_to_itself base
  alike_to_itself (kind.ArrayOf' a (more_of-Kind index rest) b (more_of-Kind of others)) =
      both (is_alike index index) (is_alike of of) (alike_to_itself index) (alike_to_itself of)
  alike_to_itself (kind.Fields' a (more_of-Kind-Fields-0-1 b fields rest)) =
      ap (row_fields fields) (items_shown-the_row-FieldKind-1 b fields) ∙ fields_themselves _ fields

  fields_themselves : (n : _) (row : Row_of-FieldKind n)
      → row_fields row (items-the_row-FieldKind n row) ≡ true
  fields_themselves n end_of-FieldKind = refl
  fields_themselves n (more_of-FieldKind name k rest) =
      both (is_name name.bytes name.bytes && is_alike k k)
      (row_fields rest (items-the_row-FieldKind _ rest))
      (both (is_name name.bytes name.bytes) (is_alike k k) (nat_list_eq_equiv.refl name.bytes)
      (alike_to_itself k)) (fields_themselves _ rest)
