-- Which values fit a kind, by the form of both.
use Rattle.std.specs.Prelude.{◌≡◌, ℕ, ◌≤ℤ◌, ⊤, List, length, slice_get, Some}
use Rattle.est_syntax.specs.declared.kind.Kind.{Kind}
use Rattle.est_syntax.specs.declared.kind.Kind.TheOpen as kind
use Rattle.est_syntax.specs.declared.kind.FieldKind.{FieldKind}
use Rattle.est_values.specs.declared.value.Value.{Value}
use Rattle.est_values.specs.declared.value.Value.TheOpen as value
use Rattle.est_values.specs.PartsOfValues.{ValueLayer}
use Rattle.est_values.specs.FittingValues.{KindLayer, first_of, last_of, ordinal_count}
use Rattle.est_values.specs.FittingValues.{AreMembersOf, Fits, IsUndefinedOf}

-- one that fits an ordinal kind
abbrev pub FitsOrdinal : KindLayer → ValueLayer → Type 0
FitsOrdinal l value.Undefined = ⊤
FitsOrdinal l (value.Ordinal z) = (first_of l ≤ℤ z) × (z ≤ℤ last_of l)
FitsOrdinal l _ = ⊥

-- one that fits a set over a base
abbrev pub FitsSet : Kind → ValueLayer → Type 0
FitsSet base value.Undefined = ⊤
FitsSet base (value.Set zs) = AreMembersOf base zs
FitsSet base _ = ⊥

-- values all of which fit a kind
abbrev pub EachFits : Kind → List Value → Type 0
EachFits of parts = (i : ℕ) (part : Value) → slice_get parts i ≡ Some part → Fits of part

-- one that fits an array
abbrev pub FitsArray : Kind → Kind → ValueLayer → Type 0
FitsArray index of (value.Group parts) =
    (length parts ≡ ordinal_count index) × EachFits of parts
FitsArray index of _ = ⊥

-- values that fit fields, one for one
abbrev pub FieldsFit : List FieldKind → List Value → Type 0
FieldsFit fields parts = (i : ℕ) (field : FieldKind) (part : Value)
    → slice_get fields i ≡ Some field → slice_get parts i ≡ Some part → Fits field.kind part

-- one that fits a record
abbrev pub FitsRecord : List FieldKind → ValueLayer → Type 0
FitsRecord fields (value.Group parts) = (length parts ≡ length fields) × FieldsFit fields parts
FitsRecord fields _ = ⊥

-- one that fits a kind
abbrev pub FitsLayer : KindLayer → ValueLayer → Type 0
FitsLayer (kind.SetOf base) v = FitsSet base v
FitsLayer (kind.ArrayOf index of) v = FitsArray index of v
FitsLayer (kind.Fields fields) v = FitsRecord fields v
FitsLayer l v = FitsOrdinal l v

-- undefined values, one for each field
abbrev pub EachUndefined : List FieldKind → List Value → Type 0
EachUndefined fields parts = (i : ℕ) (field : FieldKind) (part : Value)
    → slice_get fields i ≡ Some field → slice_get parts i ≡ Some part
    → IsUndefinedOf field.kind part

abbrev pub AreUndefined : List FieldKind → List Value → Type 0
AreUndefined fields parts = (length parts ≡ length fields) × EachUndefined fields parts
