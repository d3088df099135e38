-- Tuples of ordinals, one for each of some kinds, in lexicographic order: the choices of the `any`
-- variables of a transition (ISO 9074, any-clause).
use Rattle.std.specs.Prelude.{◌≡◌, ℕ, suc, slice_get, ℤ, pos, ◌+ℤ◌, int_lt, List, [], ◌∷◌, map}
use Rattle.std.specs.Prelude.{flat_map}
use Rattle.std.specs.Prelude.{Option, Some, None, if◌then◌else◌}
use Rattle.std.specs.List.{range_with_len}
use Rattle.est_syntax.specs.declared.kind.Kind.{Kind}
use Rattle.est_values.specs.FittingValues.{first_ordinal, last_ordinal, ordinal_count}

-- the ordinals of a kind, from the first to the last
abbrev pub ordinals_of : Kind → List ℤ
ordinals_of k = map (λ (i : ℕ). first_ordinal k +ℤ pos i) (range_with_len 0 (ordinal_count k))

-- the tuples of ordinals of these kinds, in lexicographic order
abbrev pub ordinal_tuples : List Kind → List (List ℤ)
ordinal_tuples [] = [] ∷ []
ordinal_tuples (k ∷ ks) =
    flat_map (λ (z : ℤ). map (λ (t : List ℤ). z ∷ t) (ordinal_tuples ks)) (ordinals_of k)

-- the tuple of the first ordinals
abbrev pub first_tuple : List Kind → List ℤ
first_tuple ks = map first_ordinal ks

-- the tuple after one that begins with an ordinal of a kind, where that after its rest is known
abbrev pub carried : Kind → List Kind → ℤ → Option (List ℤ) → Option (List ℤ)
carried k ks z (Some t) = Some (z ∷ t)
carried k ks z None =
    if int_lt z (last_ordinal k) then Some ((z +ℤ pos 1) ∷ first_tuple ks) else None

-- the tuple after another in lexicographic order, if there is one
abbrev pub next_tuple : List Kind → List ℤ → Option (List ℤ)
next_tuple (k ∷ ks) (z ∷ t) = carried k ks z (next_tuple ks t)
next_tuple _ _ = None

-- in the list of tuples each one is followed by its next one, and the last by none
abbrev pub TuplesFollow : Type 0
TuplesFollow = (ks : List Kind) (i : ℕ) (t : List ℤ) → slice_get (ordinal_tuples ks) i ≡ Some t
    → slice_get (ordinal_tuples ks) (suc i) ≡ next_tuple ks t
