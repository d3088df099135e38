-- What kinds say of values (ISO 7185, 6.4): the ordinals of an ordinal kind, the values that fit a
-- kind, and the one that is undefined throughout.
use Rattle.std.specs.Prelude.{◌≡◌, ℕ, ◌+◌, min, ℤ, pos, negsuc, neg_ℤ, ◌+ℤ◌, ◌-ℤ◌, ◌≤ℤ◌, ⊤}
use Rattle.std.specs.Prelude.{Bool, true, false, IsTrue, List, [], ◌∷◌, length, slice_get, Some}
use Rattle.std.specs.Int.{int_gap}
use Rattle.est_syntax.specs.Kinds.{maxint}
use Rattle.est_syntax.specs.declared.kind.Kind.{Kind, out-Kind}
use Rattle.est_syntax.specs.declared.kind.Kind.TheOpen as kind
use Rattle.est_syntax.specs.declared.kind.FieldKind.{FieldKind}
use Rattle.est_values.specs.declared.value.Value.{Value, out-Value}
use Rattle.est_values.specs.declared.value.Value.TheOpen as value

-- a layer: the form of a kind, with the kinds that it is made of
abbrev pub KindLayer : Type 0
KindLayer = kind.Kind-F Kind FieldKind

-- the first ordinal of an ordinal kind (ISO 7185, 6.4.2); 0 for a kind that is not ordinal
abbrev pub first_of : KindLayer → ℤ
first_of kind.Integer = neg_ℤ (pos maxint)
first_of (kind.Part host low high) = low
first_of _ = pos 0

abbrev pub first_ordinal : Kind → ℤ
first_ordinal k = first_of (out-Kind k)

-- the last ordinal of an enumeration of so many constants, whose ordinals begin at 0 (ISO 7185,
-- 6.4.2.3); no ordinal is above maxint
abbrev pub last_constant : ℕ → ℤ
last_constant n = pos (min n (maxint + 1)) -ℤ pos 1

-- the last one; -1 for a kind that is not ordinal, so that none lies from the first to the last
abbrev pub last_of : KindLayer → ℤ
last_of kind.Integer = pos maxint
last_of kind.Boolean = pos 1
last_of kind.Char = pos 127
last_of (kind.Enumeration place names) = last_constant (length names)
last_of (kind.Part host low high) = high
last_of _ = negsuc 0

abbrev pub last_ordinal : Kind → ℤ
last_ordinal k = last_of (out-Kind k)

-- how many ordinals a kind has
abbrev pub ordinal_count : Kind → ℕ
ordinal_count k = int_gap (first_ordinal k) (last_ordinal k +ℤ pos 1)

-- an ordinal of a kind
abbrev pub IsOrdinalOf : Kind → ℤ → Type 0
IsOrdinalOf k z = (first_ordinal k ≤ℤ z) × (z ≤ℤ last_ordinal k)

-- ordinals that ascend, from one to another
abbrev pub AscendFrom : ℤ → ℤ → List ℤ → Type 0
AscendFrom low high [] = ⊤
AscendFrom low high (z ∷ zs) = (low ≤ℤ z) × (z ≤ℤ high) × AscendFrom (z +ℤ pos 1) high zs

-- the members of a set over a base (ISO 7185, 6.4.3.4)
abbrev pub AreMembersOf : Kind → List ℤ → Type 0
AreMembersOf base zs = AscendFrom (first_ordinal base) (last_ordinal base) zs

-- whether the values of a kind are scalars: ordinals or sets
abbrev pub scalar_of : KindLayer → Bool
scalar_of (kind.ArrayOf index of) = false
scalar_of (kind.Fields fields) = false
scalar_of _ = true

abbrev pub is_scalar : Kind → Bool
is_scalar k = scalar_of (out-Kind k)

-- A value that fits a kind: an undefined scalar, an ordinal or a set of the kind, or a group with
-- one fitting value for each component of an array, or for each field of a record.
pub data Fits : Kind → Value → Type 0 where
  undefined : {k : Kind} {v : Value} → out-Value v ≡ value.Undefined → IsTrue (is_scalar k)
      → Fits k v
  ordinal : {k : Kind} {v : Value} (z : ℤ) → out-Value v ≡ value.Ordinal z → IsOrdinalOf k z
      → Fits k v
  set : {k : Kind} {v : Value} (base : Kind) (zs : List ℤ) → out-Kind k ≡ kind.SetOf base
      → out-Value v ≡ value.Set zs → AreMembersOf base zs → Fits k v
  array : {k : Kind} {v : Value} (index of : Kind) (parts : List Value)
      → out-Kind k ≡ kind.ArrayOf index of → out-Value v ≡ value.Group parts
      → length parts ≡ ordinal_count index
      → ((i : ℕ) (part : Value) → slice_get parts i ≡ Some part → Fits of part) → Fits k v
  fields : {k : Kind} {v : Value} (fields : List FieldKind) (parts : List Value)
      → out-Kind k ≡ kind.Fields fields → out-Value v ≡ value.Group parts
      → length parts ≡ length fields
      → ((i : ℕ) (field : FieldKind) (part : Value) → slice_get fields i ≡ Some field
      → slice_get parts i ≡ Some part → Fits field.kind part) → Fits k v

-- The value of a kind each scalar of which is undefined: variables begin with it (ISO 7185, 6.5.1).
pub data IsUndefinedOf : Kind → Value → Type 0 where
  undefined_scalar : {k : Kind} {v : Value} → out-Value v ≡ value.Undefined → IsTrue (is_scalar k)
      → IsUndefinedOf k v
  undefined_array : {k : Kind} {v : Value} (index of : Kind) (parts : List Value)
      → out-Kind k ≡ kind.ArrayOf index of → out-Value v ≡ value.Group parts
      → length parts ≡ ordinal_count index
      → ((i : ℕ) (part : Value) → slice_get parts i ≡ Some part → IsUndefinedOf of part)
      → IsUndefinedOf k v
  undefined_fields : {k : Kind} {v : Value} (fields : List FieldKind) (parts : List Value)
      → out-Kind k ≡ kind.Fields fields → out-Value v ≡ value.Group parts
      → length parts ≡ length fields
      → ((i : ℕ) (field : FieldKind) (part : Value) → slice_get fields i ≡ Some field
      → slice_get parts i ≡ Some part → IsUndefinedOf field.kind part) → IsUndefinedOf k v
