-- The values of ordinal kinds, and tuples of such values (ISO 7185, 6.4.2).
use Rattle.std.specs.Prelude.{ℕ, ℤ, pos, negsuc, ◌+ℤ◌, List, [], ◌∷◌, map, flat_map}
use Rattle.std.specs.List.{range_with_len}
use Rattle.est_syntax.specs.declared.kind.Kind.{Kind, out-Kind}
use Rattle.est_syntax.specs.declared.kind.Kind.TheOpen as seen
use Rattle.est_syntax.specs.declared.kind.FieldKind.{FieldKind}
use Rattle.rule_kinds.specs.TypeTexts.{count}

-- the first value of an ordinal kind
abbrev pub first_value : Kind → ℤ
first_value k = of (out-Kind k)
  where
    of : seen.Kind-F Kind FieldKind → ℤ
    of seen.Integer = negsuc 2147483646
    of (seen.Part host low high) = low
    of _ = pos 0

-- the values of an ordinal kind, from the first to the last; a kind that is not ordinal has none
unfoldable pub values_of : Kind → List ℤ
values_of k = map (λ (i : ℕ). first_value k +ℤ pos i) (range_with_len 0 (count k))

-- the tuples of values of these kinds, in lexicographic order
abbrev pub tuples_of : List Kind → List (List ℤ)
tuples_of [] = [] ∷ []
tuples_of (k ∷ ks) = flat_map (λ (z : ℤ). map (λ (t : List ℤ). z ∷ t) (tuples_of ks)) (values_of k)
