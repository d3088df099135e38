-- Chunks as one list.
use Rattle.std.specs.Prelude.{◌≡◌, ℕ, List, [], ◌∷◌, ◌++◌, length, ⊤}

-- the items of full chunks in order, and after them those of the last
abbrev pub laid : {T : Type 0} → List (List T) → List T → List T
laid [] last = last
laid (x ∷ xs) last = x ++ laid xs last

-- each chunk is full
abbrev pub AreFull : {T : Type 0} → List (List T) → Type 0
AreFull [] = ⊤
AreFull (x ∷ xs) = (length x ≡ 128) × AreFull xs

-- so many items are in chunks that are full, and in the last
abbrev pub IsCounted : {T : Type 0} → ℕ → List (List T) → List T → Type 0
IsCounted count full last = AreFull full × (count ≡ length (laid full last))
