-- The rows of a table of names that the code reads.
use Rattle.std.specs.Prelude.{ℕ, List, map}
use Rattle.std.specs.Borrow.{Bor}
use Rattle.rule_scope.specs.declared.predeclared.PredeclaredName.{PredeclaredName}

abbrev pub rows : List (Bor (List ℕ) × PredeclaredName) → List (List ℕ × PredeclaredName)
rows table = map (λ w. (w.0.now, w.1)) table
