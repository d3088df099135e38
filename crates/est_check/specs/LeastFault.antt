-- All rules that a specification breaks, and the least of them.
use Rattle.std.specs.Prelude.{List, ◌++◌, Option, None}
use Rattle.est_syntax.specs.Least.{IsIn, IsLeast}
use Rattle.est_syntax.specs.declared.rule.Fault.{Fault}
use Rattle.est_syntax.specs.declared.specification.Spec.{Spec}
use Rattle.est_types.specs.DeclarationFaults.{declaration_faults}
use Rattle.est_check.specs.BlockFaults.{bodies_faults}

-- all that a specification breaks
abbrev pub specification_faults : Spec → List Fault
specification_faults s = declaration_faults s ++ bodies_faults s

-- this is the least fault of a specification, or it breaks no rule
unfoldable pub IsLeastFault : Spec → Option Fault → Type 0
IsLeastFault spec fault = IsLeast (λ f. IsIn f (specification_faults spec)) fault

-- a good specification breaks no rule
abbrev pub IsGood : Spec → Type 0
IsGood spec = IsLeastFault spec None
