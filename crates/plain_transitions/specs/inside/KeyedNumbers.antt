-- Ascending numbers of transitions, and numbers under keys.
use Rattle.std.specs.Prelude.{◌≡◌, ◌<◌, ◌≤◌, ℕ, nat_eq, Bool, true, List, [], ◌∷◌, ◌++◌, length}
use Rattle.std.specs.Prelude.{slice_index, nat_lt, if◌then◌else◌, Option, Some, None, unwrap_or}
use Rattle.std.specs.Map.{lookup, set_value}

-- NUMBERS UNDER KEYS

-- the numbers under a key
abbrev pub listed : List (ℕ × List ℕ) → ℕ → List ℕ
listed es key = unwrap_or (lookup (nat_eq key) es) []

-- one number more under a key, which has these already if it has any
abbrev pub added : Option (List ℕ) → List (ℕ × List ℕ) → ℕ → ℕ → List (ℕ × List ℕ)
added None es key n = es ++ (key, n ∷ []) ∷ []
added (Some ns) es key n = set_value (nat_eq key) es (ns ++ n ∷ [])

-- ASCENDING NUMBERS

-- no number stands after a greater one
pub record Ascend (ns : List ℕ) : Type 0 where
  pub ascend : (i j : ℕ) → i ≤ j → j < length ns → slice_index ns i ≤ slice_index ns j

-- these are the numbers, up to the last one, that pass a test
pub record AreNumbers (test : ℕ → Bool) (last : ℕ) (ns : List ℕ) : Type 0 where
  pub ascend : (i j : ℕ) → i ≤ j → j < length ns → slice_index ns i ≤ slice_index ns j
  pub few : (i : ℕ) → i < length ns → slice_index ns i ≤ last
  pub pass : (i : ℕ) → i < length ns → test (slice_index ns i) ≡ true
  pub all : (n : ℕ) → n ≤ last → test n ≡ true
      → (i : ℕ) × (i < length ns) × (slice_index ns i ≡ n)

-- so many of ascending numbers are not above another one
pub record IsCountUpTo (ns : List ℕ) (after count : ℕ) : Type 0 where
  pub below : (i : ℕ) → i < count → slice_index ns i ≤ after
  pub above : (i : ℕ) → count ≤ i → i < length ns → after < slice_index ns i

-- the least of some numbers that is above another one, if there is one
abbrev pub IsLeastAbove : List ℕ → ℕ → Option ℕ → Type 0
IsLeastAbove ns after (Some n) = (after < n)
    × ((i : ℕ) × (i < length ns) × (slice_index ns i ≡ n))
    × ((i : ℕ) → i < length ns → after < slice_index ns i → n ≤ slice_index ns i)
IsLeastAbove ns after None = (i : ℕ) → i < length ns → slice_index ns i ≤ after

-- the first number after another one that passes a test, if there is one
abbrev pub IsNext : (ℕ → Bool) → ℕ → Option ℕ → Type 0
IsNext test after (Some n) = (after < n) × (test n ≡ true)
    × ((m : ℕ) → after < m → m < n → test m ≡ true → ⊥)
IsNext test after None = (m : ℕ) → after < m → test m ≡ true → ⊥

-- the smaller of two numbers, as far as they are there
abbrev pub smaller : Option ℕ → Option ℕ → Option ℕ
smaller None other = other
smaller (Some n) None = Some n
smaller (Some n) (Some m) = if nat_lt m n then Some m else Some n
