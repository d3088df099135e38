-- Kinds that are alike (ISO 7185, 6.4.5, by structure in this profile).
use Rattle.std.specs.Prelude.{ℕ, ℤ, Bool, true, false, ◌&&◌, nat_eq, List, [], ◌∷◌}
use Rattle.std.specs.Ordering.{int_eq}
use Rattle.est_syntax.specs.Names.{is_name}
use Rattle.est_syntax.specs.declared.kind.Kind.{Kind, out-Kind, Row_of-Kind, more_of-Kind}
use Rattle.est_syntax.specs.declared.kind.Kind.{Row_of-FieldKind, end_of-FieldKind}
use Rattle.est_syntax.specs.declared.kind.Kind.{more_of-FieldKind, Row_of-Kind-Fields-0-1}
use Rattle.est_syntax.specs.declared.kind.Kind.{more_of-Kind-Fields-0-1}
use Rattle.est_syntax.specs.declared.kind.Kind.TheOpen as seen
use Rattle.est_syntax.specs.declared.kind.Kind.TheVariants as kind
use Rattle.est_syntax.specs.declared.kind.FieldKind.{FieldKind}

-- a layer: the form of a kind, with the kinds that it is made of
abbrev pub Layer : Type 0
Layer = seen.Kind-F Kind FieldKind

-- whether a layer is that of the integers
abbrev pub is_integers : Layer → Bool
is_integers seen.Integer = true
is_integers _ = false

-- whether it is that of the booleans
abbrev pub is_booleans : Layer → Bool
is_booleans seen.Boolean = true
is_booleans _ = false

-- whether it is that of the characters
abbrev pub is_characters : Layer → Bool
is_characters seen.Char = true
is_characters _ = false

-- whether it is the enumeration that is declared at a place
abbrev pub is_enumeration : ℕ → Layer → Bool
is_enumeration place (seen.Enumeration other names) = nat_eq place other
is_enumeration place _ = false

-- whether two parts have the same bounds
abbrev pub are_same_bounds : ℤ → ℤ → ℤ → ℤ → Bool
are_same_bounds low high from to = int_eq low from && int_eq high to

-- Whether two kinds have the same structure. A part of a host that is the whole host is not alike
-- to the host.
abbrev mutual
  pub is_alike : Kind → Kind → Bool
  is_alike kind.Integer k = is_integers (out-Kind k)
  is_alike kind.Boolean k = is_booleans (out-Kind k)
  is_alike kind.Char k = is_characters (out-Kind k)
  is_alike (kind.Enumeration place names) k = is_enumeration place (out-Kind k)
  is_alike (kind.Part' a host low high) k = is_part host low high (out-Kind k)
  is_alike (kind.SetOf' a base) k = is_set base (out-Kind k)
  is_alike (kind.ArrayOf' a index b of) k =
      is_indexed index (out-Kind k) && is_array_of of (out-Kind k)
  is_alike (kind.Fields' a fields) k = is_record fields (out-Kind k)

  -- whether a layer is a part of an alike host, with the same bounds
  pub is_part : {n : _} → Row_of-Kind n → ℤ → ℤ → Layer → Bool
  is_part (more_of-Kind host rest) low high (seen.Part other from to) =
      are_same_bounds low high from to && is_alike host other
  is_part host low high _ = false

  -- whether it is a set over an alike base
  pub is_set : {n : _} → Row_of-Kind n → Layer → Bool
  is_set (more_of-Kind base rest) (seen.SetOf other) = is_alike base other
  is_set base _ = false

  -- whether it is an array over an alike index
  pub is_indexed : {n : _} → Row_of-Kind n → Layer → Bool
  is_indexed (more_of-Kind index rest) (seen.ArrayOf other held) = is_alike index other
  is_indexed index _ = false

  -- whether it is an array of alike components
  pub is_array_of : {n : _} → Row_of-Kind n → Layer → Bool
  is_array_of (more_of-Kind of rest) (seen.ArrayOf other held) = is_alike of held
  is_array_of of _ = false

  -- whether it is a record of alike fields
  pub is_record : {n : _} → Row_of-Kind-Fields-0-1 n → Layer → Bool
  is_record (more_of-Kind-Fields-0-1 a fields rest) (seen.Fields others) = row_fields fields others
  is_record fields _ = false

  -- whether fields have the same names, in order, with alike kinds
  pub row_fields : {n : _} → Row_of-FieldKind n → List FieldKind → Bool
  row_fields end_of-FieldKind [] = true
  row_fields (more_of-FieldKind name k rest) (f ∷ fs) =
      (is_name name.bytes f.name.bytes && is_alike k f.kind) && row_fields rest fs
  row_fields _ _ = false

-- The same over lists: whether two fields have one name and alike kinds,
abbrev pub is_alike_field : FieldKind → FieldKind → Bool
is_alike_field f g = is_name f.name.bytes g.name.bytes && is_alike f.kind g.kind

-- and whether two lists have such fields in order.
abbrev pub are_alike : List FieldKind → List FieldKind → Bool
are_alike [] [] = true
are_alike (f ∷ fs) (g ∷ gs) = is_alike_field f g && are_alike fs gs
are_alike _ _ = false
