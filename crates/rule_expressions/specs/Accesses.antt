-- The name of an interaction point or of a module variable with its subscripts (ISO 9074).
use Rattle.std.specs.Prelude.{ℕ, List, ◌++◌, Option}
use Rattle.std.specs.Option.{option_map}
use Rattle.est_syntax.specs.declared.expression.Access.{Access}
use Rattle.est_syntax.specs.declared.rule.Fault.{Fault}
use Rattle.rule_scope.specs.declared.declaration.Sort.{Sort}
use Rattle.rule_scope.specs.Outline.{Outline}
use Rattle.rule_scope.specs.Uses.{use_faults, declaration_of}
use Rattle.rule_expressions.specs.declared.receivers.Receiver.{Receiver}
use Rattle.rule_expressions.specs.declared.receivers.Receiver.TheVariants as receiver
use Rattle.rule_expressions.specs.Expressions.{are_taken_faults}

-- what takes the subscripts of what is declared at a place
abbrev pub subscripts_at : Option ℕ → Option Receiver
subscripts_at place = option_map (λ (p : ℕ). receiver.Subscripts p) place

-- what a name with its subscripts breaks where this sort is wanted
abbrev pub access_faults : Outline → Sort → Access → List Fault
access_faults o s a = use_faults o s a.name
    ++ are_taken_faults o (subscripts_at (declaration_of o s a.name)) 0 a.name.place a.index
