-- The faults of a specification.
use Rattle.std.specs.Prelude.{ℕ, Bool, List, [], ◌∷◌, if◌then◌else◌}
use Rattle.est_syntax.specs.declared.rule.Fault.{Fault}
use Rattle.est_syntax.specs.declared.rule.Rule.{Rule}

-- the fault that a rule is broken at a place
abbrev pub broken : ℕ → Rule → List Fault
broken place r = record { place = place; rule = r } ∷ []

-- the fault that a rule is broken at a place, under a condition
abbrev pub broken_if : Bool → ℕ → Rule → List Fault
broken_if b place r = if b then broken place r else []
