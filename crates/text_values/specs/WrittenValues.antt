-- The canonical texts of values, each of a kind that it fits.
use Rattle.std.specs.Prelude.{ℕ, ℤ, List, [], ◌++◌, codes, length, map, replicate}
use Rattle.std.specs.List.{join_by}
use Rattle.est_syntax.specs.declared.kind.Kind.{Kind, out-Kind}
use Rattle.est_syntax.specs.declared.kind.Kind.TheOpen as kinds
use Rattle.est_syntax.specs.declared.kind.FieldKind.{FieldKind}
use Rattle.est_values.specs.FittingValues.{KindLayer}
use Rattle.est_values.specs.declared.value.Value.{Value}
use Rattle.est_values.specs.declared.value.Value.TheOpen as values
use Rattle.est_values.specs.declared.value.Value.TheFolds.{fold-Value}
use Rattle.text_values.specs.WrittenLists.{enclosed, paired}
use Rattle.text_values.specs.WrittenOrdinals.{ordinal_text}

-- the members of a set over a base, in the order in which they are given, in brackets
abbrev pub set_text : Kind → List ℤ → List ℕ
set_text base zs = codes "[" ++ join_by (ordinal_text base) (codes ", ") zs ++ codes "]"

-- the text of a value, by its kind
abbrev pub Text : Type 0
Text = Kind → List ℕ

-- the kind that a set is over
abbrev pub base_by : KindLayer → Kind → Kind
base_by (kinds.SetOf base) k = base
base_by _ k = k

-- the kinds of the fields of a record
abbrev pub field_kinds : List FieldKind → List Kind
field_kinds fields = map (λ (f : FieldKind). f.kind) fields

-- the kinds of so many parts of a group
abbrev pub kinds_by : KindLayer → ℕ → List Kind
kinds_by (kinds.ArrayOf index of) n = replicate n of
kinds_by (kinds.Fields fields) n = field_kinds fields
kinds_by _ n = []

-- the texts of the parts of a group of a kind, by that of a part
abbrev pub parts_by : {A : Type 0} → (Kind → A → List ℕ) → Kind → List A → List (List ℕ)
parts_by text k parts = paired text (kinds_by (out-Kind k) (length parts)) parts

-- the text of a group
abbrev pub group_by : {A : Type 0} → (Kind → A → List ℕ) → Kind → List A → List ℕ
group_by text k parts = enclosed (codes "(") (codes ")") (parts_by text k parts)

-- a text that is known, by the kind
abbrev pub told : Kind → Text → List ℕ
told k text = text k

-- the text of a value of this form, where those of its parts are known: `_` for an undefined
-- scalar, the parts of a group in parentheses
abbrev pub text_by : values.Value-F Text → Text
text_by values.Undefined k = codes "_"
text_by (values.Ordinal z) k = ordinal_text k z
text_by (values.Set zs) k = set_text (base_by (out-Kind k) k) zs
text_by (values.Group parts) k = group_by told k parts

-- the text of a value of a kind
unfoldable pub value_text : Kind → Value → List ℕ
value_text k v = fold-Value Text text_by v k

-- the texts of values of these kinds
abbrev pub value_texts : List Kind → List Value → List (List ℕ)
value_texts ks vs = paired value_text ks vs

-- those of the parts of a group of a kind
abbrev pub part_texts : Kind → List Value → List (List ℕ)
part_texts k parts = parts_by value_text k parts

-- the text of a group of values
abbrev pub group_text : Kind → List Value → List ℕ
group_text k parts = group_by value_text k parts
