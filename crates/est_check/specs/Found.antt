-- What is found of a specification.
use Rattle.std.specs.Prelude.{◌≡◌, Some}
use Rattle.est_syntax.specs.declared.specification.Spec.{Spec}
use Rattle.est_check.specs.LeastFault.{IsGood, IsLeastFault}
use Rattle.est_check.specs.declared.error.CheckError.{CheckError}
use Rattle.est_check.specs.declared.error.CheckError.TheVariants as errors

-- it breaks no rule, and this is kept of it
abbrev pub IsFound : Spec → Spec → Type 0
IsFound s checked = (checked ≡ s) × IsGood s

-- it breaks this rule first; out of memory says nothing of it
abbrev pub IsRefused : Spec → CheckError → Type 0
IsRefused s (errors.Fault place rule) = IsLeastFault s (Some record { place = place; rule = rule })
IsRefused s (errors.Memory error) = Unit {0}
