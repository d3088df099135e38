-- Kinds that are well formed (ISO 7185, 6.4).
use Rattle.std.specs.Prelude.{◌≡◌, ℕ, ◌<◌, ℤ, pos, neg_ℤ, ◌≤ℤ◌, ◌<ℤ◌, Bool}
use Rattle.std.specs.Prelude.{true, false, IsTrue, List, length, slice_get, Some}
use Rattle.est_syntax.specs.declared.name.Name.{Name}
use Rattle.est_syntax.specs.declared.kind.Kind.{Kind, out-Kind}
use Rattle.est_syntax.specs.declared.kind.Kind.TheOpen as kind
use Rattle.est_syntax.specs.declared.kind.FieldKind.{FieldKind}

-- the greatest integer of this profile (ISO 7185, 6.4.2.2 and 6.7.2.2)
abbrev pub maxint : ℕ
maxint = 2147483647

-- what an ordinal kind that is no part of another holds: the integers of this profile, false and
-- true, the characters, the constants of an enumeration from 0
abbrev pub Holds : Kind → ℤ → Type 0
Holds host z = held (out-Kind host)
  where
    held : kind.Kind-F Kind FieldKind → Type 0
    held kind.Integer = (neg_ℤ (pos maxint) ≤ℤ z) × (z ≤ℤ pos maxint)
    held kind.Boolean = (pos 0 ≤ℤ z) × (z ≤ℤ pos 1)
    held kind.Char = (pos 0 ≤ℤ z) × (z ≤ℤ pos 127)
    held (kind.Enumeration place names) = (pos 0 ≤ℤ z) × (z <ℤ pos (length names))
    held _ = ⊥

-- whether the values of a kind are ordinals
abbrev pub is_ordinal : Kind → Bool
is_ordinal k = ordinal (out-Kind k)
  where
    ordinal : kind.Kind-F Kind FieldKind → Bool
    ordinal kind.Integer = true
    ordinal kind.Boolean = true
    ordinal kind.Char = true
    ordinal (kind.Enumeration place names) = true
    ordinal (kind.Part host low high) = true
    ordinal _ = false

-- A kind whose parts have hosts that hold their bounds in order, whose enumerations have constants,
-- and whose subscripts and set members are ordinals.
pub data IsWellFormed : Kind → Type 0 where
  integers : {k : Kind} → out-Kind k ≡ kind.Integer → IsWellFormed k
  booleans : {k : Kind} → out-Kind k ≡ kind.Boolean → IsWellFormed k
  characters : {k : Kind} → out-Kind k ≡ kind.Char → IsWellFormed k
  constants : {k : Kind} (place : ℕ) (names : List Name) → out-Kind k ≡ kind.Enumeration place names
      → 0 < length names → IsWellFormed k
  part : {k : Kind} (host : Kind) (low high : ℤ) → out-Kind k ≡ kind.Part host low high
      → Holds host low → Holds host high → low ≤ℤ high → IsWellFormed k
  sets : {k : Kind} (base : Kind) → out-Kind k ≡ kind.SetOf base → IsTrue (is_ordinal base)
      → IsWellFormed base → IsWellFormed k
  arrays : {k : Kind} (index of : Kind) → out-Kind k ≡ kind.ArrayOf index of
      → IsTrue (is_ordinal index) → IsWellFormed index → IsWellFormed of → IsWellFormed k
  records : {k : Kind} (fields : List FieldKind) → out-Kind k ≡ kind.Fields fields
      → ((i : ℕ) (field : FieldKind) → slice_get fields i ≡ Some field → IsWellFormed field.kind)
      → IsWellFormed k
