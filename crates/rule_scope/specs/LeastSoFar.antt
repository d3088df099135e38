-- The least of the faults that were met.
use Rattle.std.specs.Prelude.{List, [], ◌∷◌, Option, Some, None, if◌then◌else◌}
use Rattle.est_syntax.specs.declared.rule.Fault.{Fault}
use Rattle.est_syntax.specs.Least.{is_before}

-- the lesser of the least fault so far and another
abbrev pub lesser : Option Fault → Fault → Option Fault
lesser None f = Some f
lesser (Some g) f = if is_before f g then Some f else Some g

-- the least of the least fault so far and these
abbrev pub least_with : Option Fault → List Fault → Option Fault
least_with least [] = least
least_with least (f ∷ fs) = least_with (lesser least f) fs
