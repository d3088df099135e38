-- Names that differ.
use Rattle.std.specs.Prelude.{◌≡◌, ℕ, List, Some, slice_get}

-- no two items have one name
abbrev pub HaveDifferentNames : {A N : Type 0} → (A → N) → List A → Type 0
HaveDifferentNames {A} name xs =
    (i j : ℕ) (x y : A) → slice_get xs i ≡ Some x → slice_get xs j ≡ Some y → name x ≡ name y
    → i ≡ j
