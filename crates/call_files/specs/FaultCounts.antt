-- Counts of faults.
use Rattle.std.specs.Prelude.{◌≡◌, ℕ, ◌<◌, ◌≤◌, ◌⊎◌, List}

-- the last value of a count, 2 ^ 64 - 1
abbrev pub last_count : ℕ
last_count = 18446744073709551615

-- a count rose: it is greater than before, or stands at its last value
abbrev pub Rose : ℕ → ℕ → Type 0
Rose old new = (old < new) ⊎ (new ≡ last_count)

-- a count goes on: it did not fall, and it stays at its last value once it is there
pub record GoesOn (old new : ℕ) : Type 0 where
  pub never_falls : old ≤ new
  pub stays_last : old ≡ last_count → new ≡ last_count

-- the count of each name is as it was
abbrev pub AllStay : (List ℕ → ℕ) → (List ℕ → ℕ) → Type 0
AllStay old new = (name : List ℕ) → new name ≡ old name

-- the count of each name goes on
abbrev pub AllGoOn : (List ℕ → ℕ) → (List ℕ → ℕ) → Type 0
AllGoOn old new = (name : List ℕ) → GoesOn (old name) (new name)
