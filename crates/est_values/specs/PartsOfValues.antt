-- The parts of values, by paths of numbers from 0 (ISO 7185, 6.5.3: component-variables).
use Rattle.std.specs.Prelude.{ℕ, List, [], ◌∷◌, Option, Some, None, slice_get, slice_set}
use Rattle.est_values.specs.declared.value.Value.{Value, out-Value}
use Rattle.est_values.specs.declared.value.Value.TheOpen as seen
use Rattle.est_values.specs.declared.value.Value.TheVariants as value

-- a layer: the form of a value, with the values that it is made of
abbrev pub ValueLayer : Type 0
ValueLayer = seen.Value-F Value

-- the parts of a group
abbrev pub parts_of : ValueLayer → Option (List Value)
parts_of (seen.Group parts) = Some parts
parts_of _ = None

-- a part by its number
abbrev pub numbered_part : ℕ → Option (List Value) → Option Value
numbered_part k None = None
numbered_part k (Some parts) = slice_get parts k

-- what follows for a value, if there is one
abbrev pub onward : Option Value → (Value → Option Value) → Option Value
onward None go = None
onward (Some v) go = go v

-- the part at a path
abbrev pub part_at : List ℕ → Value → Option Value
part_at [] v = Some v
part_at (k ∷ ks) v = onward (numbered_part k (parts_of (out-Value v))) (part_at ks)

-- a group with another part of a number, if there is one
abbrev pub put_back : ℕ → List Value → Option Value → Option Value
put_back k parts None = None
put_back k parts (Some part) = Some (value.Group (slice_set parts k part))

-- a group in which the part of a number is changed
abbrev pub changed_in : (Value → Option Value) → ℕ → List Value → Option Value
changed_in change k parts = put_back k parts (onward (slice_get parts k) change)

-- a value in which the part of a number is changed, where it is a group
abbrev pub changed : (Value → Option Value) → ℕ → Option (List Value) → Option Value
changed change k None = None
changed change k (Some parts) = changed_in change k parts

-- the value with another part at a path
abbrev pub with_part : Value → List ℕ → Value → Option Value
with_part new [] v = Some new
with_part new (k ∷ ks) v = changed (with_part new ks) k (parts_of (out-Value v))

-- a group with another part at a path in the part of a number
abbrev pub with_part_in : Value → ℕ → List ℕ → List Value → Option Value
with_part_in new k ks parts = changed_in (with_part new ks) k parts
