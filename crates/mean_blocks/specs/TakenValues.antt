-- Which values a variable of a kind takes, what it is at first, and which component of an array a
-- subscript means (ISO 7185, 6.4.6, 6.5.1 and 6.5.3.2).
use Rattle.std.specs.Prelude.{◌≡◌, ℕ, ℤ, Bool, false, ◌&&◌, int_le, List, [], ◌∷◌, replicate}
use Rattle.std.specs.Prelude.{Result, Ok, Err, if◌then◌else◌}
use Rattle.std.specs.Int.{int_gap}
use Rattle.std.specs.List.{list_all}
use Rattle.est_syntax.specs.declared.kind.Kind.{Kind, out-Kind, Row_of-Kind, end_of-Kind}
use Rattle.est_syntax.specs.declared.kind.Kind.{more_of-Kind, Row_of-FieldKind, end_of-FieldKind}
use Rattle.est_syntax.specs.declared.kind.Kind.{more_of-FieldKind, Row_of-Kind-Fields-0-1}
use Rattle.est_syntax.specs.declared.kind.Kind.{end_of-Kind-Fields-0-1, more_of-Kind-Fields-0-1}
use Rattle.est_syntax.specs.declared.kind.Kind.TheOpen as seen
use Rattle.est_syntax.specs.declared.kind.Kind.TheVariants as kind
use Rattle.est_values.specs.declared.value.Value.{Value}
use Rattle.est_values.specs.declared.value.Value.TheVariants as value
use Rattle.est_values.specs.FittingValues.{KindLayer, first_ordinal, last_ordinal, ordinal_count}
use Rattle.est_values.specs.FittingValues.{Fits, IsUndefinedOf}
use Rattle.mean_blocks.specs.declared.fault.BlockFault.{BlockFault}
use Rattle.mean_blocks.specs.declared.fault.BlockFault.TheVariants.{Range}

-- ORDINALS

-- whether an ordinal is one of a kind
abbrev pub is_within : Kind → ℤ → Bool
is_within k z = int_le (first_ordinal k) z && int_le z (last_ordinal k)

-- an ordinal of a kind, or a fault
abbrev pub within_kind : Kind → ℤ → Result ℤ BlockFault
within_kind k z = if is_within k z then Ok z else Err Range

-- the number, counted from 0, of the component at a subscript of an index type
abbrev pub component_at : Kind → ℤ → Result ℕ BlockFault
component_at index z = if is_within index z then Ok (int_gap (first_ordinal index) z) else Err Range

-- VALUES

-- whether the members of a set are ordinals of the base of a kind of sets
abbrev pub are_within : KindLayer → List ℤ → Bool
are_within (seen.SetOf base) zs = list_all (is_within base) zs
are_within _ zs = false

-- A value that a variable of a kind takes, or a fault: an ordinal and the members of a set are
-- within its range. An array or a record is of an alike kind already.
abbrev pub taken : Kind → Value → Result Value BlockFault
taken k (value.Ordinal z) = if is_within k z then Ok (value.Ordinal z) else Err Range
taken k (value.Set zs) = if are_within (out-Kind k) zs then Ok (value.Set zs) else Err Range
taken k v = Ok v

-- The value of a kind each scalar of which is undefined: variables begin with it.
abbrev mutual
  pub undefined_of : Kind → Value
  undefined_of (kind.ArrayOf' a index b of) = value.Group (repeated (row_count index) of)
  undefined_of (kind.Fields' a fields) = value.Group (row_record fields)
  undefined_of _ = value.Undefined

  -- how many components an array over this index has
  pub row_count : {n : _} → Row_of-Kind n → ℕ
  row_count end_of-Kind = 0
  row_count (more_of-Kind k rest) = ordinal_count k

  -- its components
  pub repeated : ℕ → {n : _} → Row_of-Kind n → List Value
  repeated m end_of-Kind = []
  repeated m (more_of-Kind k rest) = replicate m (undefined_of k)

  -- the fields of a record
  pub row_record : {n : _} → Row_of-Kind-Fields-0-1 n → List Value
  row_record end_of-Kind-Fields-0-1 = []
  row_record (more_of-Kind-Fields-0-1 a fields rest) = row_fields fields

  pub row_fields : {n : _} → Row_of-FieldKind n → List Value
  row_fields end_of-FieldKind = []
  row_fields (more_of-FieldKind name k rest) = undefined_of k ∷ row_fields rest

-- LAWS

-- a variable begins with the undefined value of its kind
abbrev pub VariablesBeginUndefined : Type 0
VariablesBeginUndefined = (k : Kind) → IsUndefinedOf k (undefined_of k)

-- there is one undefined value of a kind
abbrev pub UndefinedValuesAreOne : Type 0
UndefinedValuesAreOne = (k : Kind) (v : Value) → IsUndefinedOf k v → v ≡ undefined_of k

-- a variable takes each value that fits its kind
abbrev pub FittingValuesAreTaken : Type 0
FittingValuesAreTaken = (k : Kind) (v : Value) → Fits k v → taken k v ≡ Ok v

-- what a variable takes of an ordinal fits its kind
abbrev pub TakenOrdinalsFit : Type 0
TakenOrdinalsFit = (k : Kind) (z : ℤ) (w : Value) → taken k (value.Ordinal z) ≡ Ok w → Fits k w
