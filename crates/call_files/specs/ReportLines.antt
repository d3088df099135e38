-- The lines of reports.
use Rattle.std.specs.Prelude.{ℕ, List, [], ◌∷◌, ◌++◌}

-- the byte that ends a line
abbrev pub line_feed : List ℕ
line_feed = 10 ∷ []

-- a line of its own
abbrev pub line_of : List ℕ → List ℕ
line_of why = why ++ line_feed
