-- Calls by number.
use Rattle.std.specs.Prelude.{ℕ, ◌+◌, min, List, Bool, nat_eq}
use Rattle.std.specs.List.{list_any}
use Rattle.call_files.specs.FaultCounts.{last_count}

-- the number after this one, which stays at its last value once it is there
abbrev pub next_number : ℕ → ℕ
next_number made = min (made + 1) last_count

-- whether a number is among those of a list
abbrev pub is_listed : List ℕ → ℕ → Bool
is_listed numbers n = list_any (λ m. nat_eq m n) numbers
