-- Kinds by the lists and boxes that they are made of.
use Rattle.std.proofs.Common.{◌≡◌, refl, sym, ap, ◌∙◌, suc, Bool, ◌&&◌}
use Rattle.std.proofs.Common.{true, false, length, ℤ, List, [], ◌∷◌}
use Rattle.est_syntax.specs.declared.kind.Kind.{Kind, out-Kind, roll-Kind, roll-out-Kind}
use Rattle.est_syntax.specs.declared.kind.Kind.{Row_of-FieldKind, end_of-FieldKind}
use Rattle.est_syntax.specs.declared.kind.Kind.{more_of-FieldKind, items-the_row-FieldKind}
use Rattle.est_syntax.specs.declared.kind.Kind.{items_hidden-the_row-FieldKind-1}
use Rattle.est_syntax.specs.declared.kind.Kind.TheBlock.{shape-the_row-Kind-0}
use Rattle.est_syntax.specs.declared.kind.Kind.TheBlock.{hidden-the_row-Kind-0}
use Rattle.est_syntax.specs.declared.kind.Kind.TheBlock.{shape-the_row-FieldKind-1}
use Rattle.est_syntax.specs.declared.kind.Kind.TheBlock.{hidden-the_row-FieldKind-1}
use Rattle.est_syntax.specs.declared.kind.Kind.TheBlock.{shape-the_row-Kind-Fields-0-1-2}
use Rattle.est_syntax.specs.declared.kind.Kind.TheBlock.{hidden-the_row-Kind-Fields-0-1-2}
use Rattle.est_syntax.specs.declared.kind.Kind.TheOpen as seen
use Rattle.est_syntax.specs.declared.kind.Kind.TheVariants as kind
use Rattle.est_syntax.specs.declared.kind.FieldKind.{FieldKind}
use Rattle.est_values.specs.Alike.{Layer, is_integers, is_booleans, is_characters, is_enumeration}
use Rattle.est_values.specs.Alike.{are_same_bounds, is_alike, is_part, is_set, is_indexed}
use Rattle.est_values.specs.Alike.{is_array_of, is_record, row_fields, is_alike_field, are_alike}

-- rows are lists
pub fields_row : (n : _) (row : Row_of-FieldKind n) (others : List FieldKind)
    → row_fields row others ≡ are_alike (items-the_row-FieldKind n row) others
fields_row n end_of-FieldKind [] = refl
fields_row n end_of-FieldKind (f ∷ fs) = refl
fields_row n (more_of-FieldKind name k rest) [] = refl
fields_row n (more_of-FieldKind name k rest) (f ∷ fs) = ap (λ b. is_alike_field record {
  name = name;
  kind = k;
} f && b) (fields_row _ rest fs)

-- whether two layers are alike, by what they are made of
abbrev pub part_alike : Kind → ℤ → ℤ → Layer → Bool
part_alike host low high (seen.Part other from to) = are_same_bounds low high from to && is_alike
    host other
part_alike host low high _ = false

abbrev pub set_alike : Kind → Layer → Bool
set_alike base (seen.SetOf other) = is_alike base other
set_alike base _ = false

abbrev pub array_alike : Kind → Kind → Layer → Bool
array_alike index of (seen.ArrayOf other held) = is_alike index other && is_alike of held
array_alike index of _ = false

abbrev pub record_alike : List FieldKind → Layer → Bool
record_alike fields (seen.Fields others) = are_alike fields others
record_alike fields _ = false

abbrev pub layer_alike : Layer → Layer → Bool
layer_alike seen.Integer l = is_integers l
layer_alike seen.Boolean l = is_booleans l
layer_alike seen.Char l = is_characters l
layer_alike (seen.Enumeration place names) l = is_enumeration place l
layer_alike (seen.Part host low high) l = part_alike host low high l
layer_alike (seen.SetOf base) l = set_alike base l
layer_alike (seen.ArrayOf index of) l = array_alike index of l
layer_alike (seen.Fields fields) l = record_alike fields l

-- a box is its kind, or its fields
box_part : (host : Kind) (low high : ℤ) (l : Layer)
    → is_part (hidden-the_row-Kind-0 host) low high l ≡ part_alike host low high l
unfolding shape-the_row-Kind-0 hidden-the_row-Kind-0 denote.Hole.Carrier.hidden
box_part host low high (seen.Part other from to) = refl
box_part host low high _ = refl

box_set : (base : Kind) (l : Layer) → is_set (hidden-the_row-Kind-0 base) l ≡ set_alike base l
unfolding shape-the_row-Kind-0 hidden-the_row-Kind-0 denote.Hole.Carrier.hidden
box_set base (seen.SetOf other) = refl
box_set base _ = refl

box_array : (index of : Kind) (l : Layer)
    → (is_indexed (hidden-the_row-Kind-0 index) l && is_array_of (hidden-the_row-Kind-0 of) l)
    ≡ array_alike index of l
unfolding shape-the_row-Kind-0 hidden-the_row-Kind-0 denote.Hole.Carrier.hidden
box_array index of (seen.ArrayOf other held) = refl
box_array index of _ = refl

box_record : (fields : List FieldKind) (l : Layer)
    → is_record (hidden-the_row-Kind-Fields-0-1-2 fields) l ≡ record_alike fields l
unfolding shape-the_row-Kind-0 hidden-the_row-Kind-0 shape-the_row-FieldKind-1
    hidden-the_row-FieldKind-1 shape-the_row-Kind-Fields-0-1-2 hidden-the_row-Kind-Fields-0-1-2
    denote.Hole.Carrier.hidden
box_record fields (seen.Fields others) =
    fields_row _ (hidden-the_row-FieldKind-1 fields) others
    ∙ ap (λ l. are_alike l others) (items_hidden-the_row-FieldKind-1 fields)
box_record fields _ = refl

-- kinds are alike as their layers are
rolled_alike : (j : Layer) (k : Kind) → is_alike (roll-Kind j) k ≡ layer_alike j (out-Kind k)
unfolding roll-Kind denote.Hole.Carrier.roll
rolled_alike seen.Integer k = refl
rolled_alike seen.Boolean k = refl
rolled_alike seen.Char k = refl
rolled_alike (seen.Enumeration place names) k = refl
rolled_alike (seen.Part host low high) k = box_part host low high (out-Kind k)
rolled_alike (seen.SetOf base) k = box_set base (out-Kind k)
rolled_alike (seen.ArrayOf index of) k = box_array index of (out-Kind k)
rolled_alike (seen.Fields fields) k = box_record fields (out-Kind k)

pub layers_alike : (j k : Kind) → is_alike j k ≡ layer_alike (out-Kind j) (out-Kind k)
layers_alike j k = ap (λ x. is_alike x k) (sym (roll-out-Kind j)) ∙ rolled_alike (out-Kind j) k

-- and parts, sets, arrays and records by what they are made of
pub parts_alike : (j k host other : Kind) (low high from to : ℤ) → j ≡ kind.Part host low high
    → k ≡ kind.Part other from to
    → is_alike j k ≡ are_same_bounds low high from to && is_alike host other
parts_alike j k host other low high from to is others =
    layers_alike j k
    ∙ (λ i. layer_alike ((ap out-Kind is ∙ kind.outs-Part host low high) i)
    ((ap out-Kind others ∙ kind.outs-Part other from to) i))

pub sets_alike : (j k base other : Kind) → j ≡ kind.SetOf base → k ≡ kind.SetOf other
    → is_alike j k ≡ is_alike base other
sets_alike j k base other is others =
    layers_alike j k
    ∙ (λ i. layer_alike ((ap out-Kind is ∙ kind.outs-SetOf base) i)
    ((ap out-Kind others ∙ kind.outs-SetOf other) i))

pub arrays_alike : (j k index of other held : Kind) → j ≡ kind.ArrayOf index of
    → k ≡ kind.ArrayOf other held
    → is_alike j k ≡ is_alike index other && is_alike of held
arrays_alike j k index of other held is others =
    layers_alike j k
    ∙ (λ i. layer_alike ((ap out-Kind is ∙ kind.outs-ArrayOf index of) i)
    ((ap out-Kind others ∙ kind.outs-ArrayOf other held) i))

pub records_alike : (j k : Kind) (fields others : List FieldKind) → j ≡ kind.Fields fields
    → k ≡ kind.Fields others → is_alike j k ≡ are_alike fields others
records_alike j k fields others is same =
    layers_alike j k
    ∙ (λ i. layer_alike ((ap out-Kind is ∙ kind.outs-Fields fields) i)
    ((ap out-Kind same ∙ kind.outs-Fields others) i))

-- both of two answers, the second of which is found where the first is true
pub both_hold : (r s a b : Bool) → r ≡ a → r ≡ true → s ≡ b → s ≡ a && b
both_hold r s a b is holds second = second ∙ ap (λ x. x && b) (sym holds ∙ is)

pub first_fails : (r a b : Bool) → r ≡ a → r ≡ false → r ≡ a && b
first_fails r a b is fails = fails ∙ ap (λ x. x && b) (sym fails ∙ is)

second_fails : (a b : Bool) → false ≡ b → false ≡ a && b
second_fails true b fails = fails
second_fails false b fails = refl

-- fields of different lengths are not alike
pub lengths_differ : (fs gs : List FieldKind) → (length fs ≡ length gs → ⊥)
    → false ≡ are_alike fs gs
lengths_differ [] [] differ = absurd (differ refl)
lengths_differ [] (g ∷ gs) differ = refl
lengths_differ (f ∷ fs) [] differ = refl
lengths_differ (f ∷ fs) (g ∷ gs) differ = second_fails (is_alike_field f g) (are_alike fs gs)
    (lengths_differ fs gs (λ e. differ (ap suc e)))
