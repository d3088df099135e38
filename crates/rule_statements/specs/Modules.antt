-- Modules that are started and let go of (ISO 9074, init-statement and release-statement).
use Rattle.std.specs.Prelude.{ℕ, nat_eq, List, [], ◌++◌, Option, Some, None, option_and_then}
use Rattle.std.specs.Prelude.{if◌then◌else◌}
use Rattle.std.specs.Option.{option_map}
use Rattle.est_syntax.specs.Faults.{broken}
use Rattle.est_syntax.specs.declared.expression.Access.{Access}
use Rattle.est_syntax.specs.declared.expression.Expr.{Expr}
use Rattle.est_syntax.specs.declared.name.Used.{Used}
use Rattle.est_syntax.specs.declared.rule.Fault.{Fault}
use Rattle.est_syntax.specs.declared.rule.Rule.TheVariants.{NotWritable, WrongBody}
use Rattle.est_syntax.specs.declared.statement.Statement.{Statement}
use Rattle.est_syntax.specs.declared.statement.Statement.TheVariants as statement
use Rattle.rule_scope.specs.declared.declaration.Entry.{Entry}
use Rattle.rule_scope.specs.declared.declaration.Section.{Section}
use Rattle.rule_scope.specs.declared.declaration.Section.TheVariants as section
use Rattle.rule_scope.specs.declared.declaration.Sort.TheVariants as sort
use Rattle.rule_scope.specs.Outline.{Outline, entry_at, lies_in}
use Rattle.rule_scope.specs.Uses.{declaration_of, use_faults}
use Rattle.rule_declares.specs.LookUps.{header_in, header_at}
use Rattle.rule_expressions.specs.declared.receivers.Receiver.{Receiver}
use Rattle.rule_expressions.specs.declared.receivers.Receiver.TheVariants as receiver
use Rattle.rule_declares.specs.LookUps.{header_in}
use Rattle.rule_expressions.specs.Expressions.{are_taken_faults}
use Rattle.rule_expressions.specs.Accesses.{access_faults}

-- the name of an `all` gets no module
abbrev pub section_faults : Section → ℕ → List Fault
section_faults section.All place = broken place NotWritable
section_faults _ place = []

-- the same of a declaration
abbrev pub started_by : Option Entry → ℕ → List Fault
started_by None place = []
started_by (Some e) place = section_faults e.section place

-- the same of what is declared at a place
abbrev pub started_faults : Outline → Option ℕ → ℕ → List Fault
started_faults o None place = []
started_faults o (Some p) place = started_by (entry_at o p) place

-- what a body breaks that is not for the header of the module variable
abbrev pub header_faults : Option ℕ → Option ℕ → ℕ → List Fault
header_faults (Some h) (Some g) place = if nat_eq h g then [] else broken place WrongBody
header_faults _ _ place = []

-- what a body breaks whose text has not ended, or that is not for that header
abbrev pub body_faults : Outline → Option ℕ → Option ℕ → ℕ → List Fault
body_faults o header None place = []
body_faults o header (Some body) place = if lies_in o place body then broken place WrongBody
    else header_faults header (header_in (entry_at o body)) place

-- the parameters of a body are those of its header
abbrev pub parameters_of : Option ℕ → Option Receiver
parameters_of header = option_map (λ (h : ℕ). receiver.Parameters h) header

-- what an `init` breaks
abbrev pub init_faults : Outline → Access → Used → List Expr → List Fault
init_faults o target body arguments = access_faults o sort.ModuleVariable target
    ++ started_faults o (declaration_of o sort.ModuleVariable target.name) target.name.place
    ++ use_faults o sort.Body body
    ++ body_faults o (header_at o (declaration_of o sort.ModuleVariable target.name))
    (declaration_of o sort.Body body) body.place
    ++ are_taken_faults o (parameters_of (header_at o (declaration_of o sort.Body body))) 0
    body.place arguments
