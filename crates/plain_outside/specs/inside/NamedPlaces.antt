-- Names by the places where they stand.
use Rattle.std.specs.Prelude.{◌≡◌, ℕ, nat_eq, Bool, List, Option, Some, None, find}
use Rattle.std.specs.Prelude.{if◌then◌else◌}
use Rattle.std.specs.Map.{lookup}
use Rattle.std.specs.Option.{option_or, option_map}
use Rattle.est_syntax.specs.declared.name.Name.{Name}
use Rattle.est_meaning.specs.rule_scope.declared.declaration.Standing.{Standing}
use Rattle.est_meaning.specs.rule_scope.Outline.{Region}

-- whether a name stands at a place
abbrev pub stands_at : ℕ → List ℕ × Standing → Bool
stands_at place n = nat_eq place n.1.place

-- the first name of a region that stands at a place
abbrev pub first_name : Region → ℕ → Option (List ℕ)
first_name names place = option_map (λ (n : List ℕ × Standing). n.0) (find (stands_at place) names)

-- the name that is kept for a place
abbrev pub named : List (ℕ × Name) → ℕ → Option (List ℕ)
named entries place = option_map (λ (n : Name). n.bytes) (lookup (nat_eq place) entries)

-- a name was added for its place, unless one was there
abbrev pub IsAdded : List ℕ → ℕ → List (ℕ × Name) → List (ℕ × Name) → Type 0
IsAdded name place old new = (p : ℕ)
    → named new p ≡ option_or (named old p) (if nat_eq p place then Some name else None)

-- for each place the first name that stands there is kept
abbrev pub AreFirst : Region → List (ℕ × Name) → Type 0
AreFirst names entries = (p : ℕ) → named entries p ≡ first_name names p
