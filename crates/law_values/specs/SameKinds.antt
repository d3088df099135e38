-- Kinds that the same values fit (ISO 7185, 6.4.5).
use Rattle.std.specs.Prelude.{◌≡◌, ℕ, Bool, true, false, List, length, slice_get, Some}
use Rattle.est_syntax.specs.Kinds.{is_ordinal}
use Rattle.est_syntax.specs.declared.kind.Kind.{Kind, out-Kind}
use Rattle.est_syntax.specs.declared.kind.FieldKind.{FieldKind}
use Rattle.est_syntax.specs.declared.name.Name.{Name}
use Rattle.est_syntax.specs.declared.kind.Kind.TheOpen as seen
use Rattle.est_values.specs.FittingValues.{KindLayer, first_ordinal, last_ordinal, ordinal_count}

-- whether a layer is an ordinal one that is no enumeration
abbrev pub is_unnamed : KindLayer → Bool
is_unnamed seen.Integer = true
is_unnamed seen.Boolean = true
is_unnamed seen.Char = true
is_unnamed (seen.Part host low high) = true
is_unnamed _ = false

-- Each enumeration within a kind has as many constants as is said of the place of its declaration:
-- by that place alone enumerations are known.
pub data HasSizes (sizes : ℕ → ℕ) : Kind → Type 0 where
  unnamed : {k : Kind} → is_unnamed (out-Kind k) ≡ true → HasSizes sizes k
  enumeration : {k : Kind} (place : ℕ) (names : List Name)
      → out-Kind k ≡ seen.Enumeration place names → length names ≡ sizes place → HasSizes sizes k
  set : {k : Kind} (base : Kind) → out-Kind k ≡ seen.SetOf base → HasSizes sizes base
      → HasSizes sizes k
  array : {k : Kind} (index of : Kind) → out-Kind k ≡ seen.ArrayOf index of
      → HasSizes sizes index → HasSizes sizes of → HasSizes sizes k
  fields : {k : Kind} (fields : List FieldKind) → out-Kind k ≡ seen.Fields fields
      → ((i : ℕ) (field : FieldKind) → slice_get fields i ≡ Some field
      → HasSizes sizes field.kind) → HasSizes sizes k

-- The same values fit both kinds: they have the same ordinals, members or numbers of components,
-- and their components are so in order.
pub data AreSame : Kind → Kind → Type 0 where
  ordinals : {j k : Kind} → is_ordinal j ≡ true → is_ordinal k ≡ true
      → first_ordinal j ≡ first_ordinal k → last_ordinal j ≡ last_ordinal k → AreSame j k
  sets : {j k : Kind} (base other : Kind) → out-Kind j ≡ seen.SetOf base
      → out-Kind k ≡ seen.SetOf other → first_ordinal base ≡ first_ordinal other
      → last_ordinal base ≡ last_ordinal other → AreSame j k
  arrays : {j k : Kind} (index of other held : Kind) → out-Kind j ≡ seen.ArrayOf index of
      → out-Kind k ≡ seen.ArrayOf other held → ordinal_count index ≡ ordinal_count other
      → AreSame of held → AreSame j k
  records : {j k : Kind} (fields others : List FieldKind) → out-Kind j ≡ seen.Fields fields
      → out-Kind k ≡ seen.Fields others → length fields ≡ length others
      → ((i : ℕ) (field other : FieldKind) → slice_get fields i ≡ Some field
      → slice_get others i ≡ Some other → AreSame field.kind other.kind) → AreSame j k
