-- The order of firings: by instance, transition and choice (profile).
use Rattle.std.specs.Prelude.{◌≡◌, ◌<◌, ◌⊎◌, List, [], ◌∷◌}
use Rattle.est_meaning.specs.declared.firing.Firing.{Firing}

-- a firing comes before another
unfoldable pub FiringBefore : Firing → Firing → Type 0
FiringBefore f g = (f.instance < g.instance) ⊎ ((f.instance ≡ g.instance)
    × ((f.transition < g.transition) ⊎ ((f.transition ≡ g.transition) × (f.choice < g.choice))))

-- a firing comes before each of these
abbrev pub IsBeforeAll : Firing → List Firing → Type 0
IsBeforeAll f [] = Unit {0}
IsBeforeAll f (g ∷ gs) = FiringBefore f g × IsBeforeAll f gs

-- each firing comes before those after it
abbrev pub IsAscending : List Firing → Type 0
IsAscending [] = Unit {0}
IsAscending (f ∷ fs) = IsBeforeAll f fs × IsAscending fs
