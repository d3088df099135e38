-- Values that are drawn, by their kinds (ISO 7185, 6.4).
use Rattle.std.specs.Prelude.{◌≡◌, ℕ, ◌+◌, ◌<◌, ◌%◌, ℤ, pos, ◌+ℤ◌, Bool, true, false, IsTrue}
use Rattle.std.specs.Prelude.{List, [], ◌∷◌, ◌++◌, map, replicate}
use Rattle.rand_core.specs.Stream.{Stream}
use Rattle.est_syntax.specs.declared.kind.Kind.{Kind, out-Kind}
use Rattle.est_syntax.specs.declared.kind.Kind.TheOpen as kind
use Rattle.est_syntax.specs.declared.kind.FieldKind.{FieldKind}
use Rattle.est_values.specs.FittingValues.{KindLayer, first_ordinal, ordinal_count}
use Rattle.est_values.specs.declared.value.Value.{Value, out-Value}
use Rattle.est_values.specs.declared.value.Value.TheOpen as value
use Rattle.run_make.specs.Words.{IsDrawn}

-- whether the values of a kind are ordinals
abbrev pub ordinal_layer : KindLayer → Bool
ordinal_layer (kind.SetOf base) = false
ordinal_layer (kind.ArrayOf index of) = false
ordinal_layer (kind.Fields fields) = false
ordinal_layer _ = true

abbrev pub is_ordinal : Kind → Bool
is_ordinal k = ordinal_layer (out-Kind k)

-- of so many first values of a base, those whose words are odd
pub data DrawsMembers (base : Kind) : ℕ → Stream → List ℤ → Stream → Type 0 where
  no_members : {s : Stream} → DrawsMembers base 0 s [] s
  member : {n : ℕ} {s t u : Stream} {zs : List ℤ} (w : ℕ) → DrawsMembers base n s zs t
      → IsDrawn t w u → w % 2 ≡ 1
      → DrawsMembers base (n + 1) s (zs ++ (first_ordinal base +ℤ pos n) ∷ []) u
  no_member : {n : ℕ} {s t u : Stream} {zs : List ℤ} (w : ℕ) → DrawsMembers base n s zs t
      → IsDrawn t w u → w % 2 ≡ 0 → DrawsMembers base (n + 1) s zs u

mutual
  -- A value of a kind. An ordinal takes one word (one of a kind without ordinals is undefined), a
  -- set one word for each value of its base, and a group the words of its components, in order.
  pub data DrawsValue : Kind → Stream → Value → Stream → Type 0 where
    ordinal : {k : Kind} {v : Value} {s t : Stream} (w : ℕ) → IsTrue (is_ordinal k)
        → 0 < ordinal_count k → IsDrawn s w t
        → out-Value v ≡ value.Ordinal (first_ordinal k +ℤ pos (w % ordinal_count k))
        → DrawsValue k s v t
    no_ordinal : {k : Kind} {v : Value} {s t : Stream} (w : ℕ) → IsTrue (is_ordinal k)
        → ordinal_count k ≡ 0 → IsDrawn s w t → out-Value v ≡ value.Undefined
        → DrawsValue k s v t
    set : {k : Kind} {v : Value} {s t : Stream} (base : Kind) (members : List ℤ)
        → out-Kind k ≡ kind.SetOf base
        → DrawsMembers base (ordinal_count base) s members t
        → out-Value v ≡ value.Set members → DrawsValue k s v t
    array : {k : Kind} {v : Value} {s t : Stream} (index of : Kind) (parts : List Value)
        → out-Kind k ≡ kind.ArrayOf index of
        → DrawsValues (replicate (ordinal_count index) of) s parts t
        → out-Value v ≡ value.Group parts → DrawsValue k s v t
    fields : {k : Kind} {v : Value} {s t : Stream} (fields : List FieldKind) (parts : List Value)
        → out-Kind k ≡ kind.Fields fields
        → DrawsValues (map (λ (f : FieldKind). f.kind) fields) s parts t
        → out-Value v ≡ value.Group parts → DrawsValue k s v t

  -- values of kinds, in order
  pub data DrawsValues : List Kind → Stream → List Value → Stream → Type 0 where
    no_values : {s : Stream} → DrawsValues [] s [] s
    value_more : {k : Kind} {ks : List Kind} {v : Value} {vs : List Value} {s t u : Stream}
        → DrawsValue k s v t → DrawsValues ks t vs u → DrawsValues (k ∷ ks) s (v ∷ vs) u
