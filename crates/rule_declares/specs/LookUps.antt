-- What is looked up of a declaration: its subscripts, its header, its side (ISO 9074, module
-- variables, interaction points and init-statement).
use Rattle.std.specs.Prelude.{ℕ, Bool, List, Option, None, option_and_then}
use Rattle.est_syntax.specs.declared.channel.Role.{Role}
use Rattle.est_syntax.specs.declared.channel.Role.TheVariants.{First, Second}
use Rattle.est_syntax.specs.declared.kind.Kind.{Kind}
use Rattle.est_syntax.specs.declared.name.Used.{Used}
use Rattle.est_syntax.specs.declared.ports.Direction.{Direction}
use Rattle.est_syntax.specs.declared.ports.Direction.TheVariants.{Sends, Receives}
use Rattle.est_syntax.specs.declared.statement.Statement.{Statement}
use Rattle.est_syntax.specs.declared.statement.Statement.TheVariants as statement
use Rattle.rule_kinds.specs.rule_scope.declared.declaration.Entry.{Entry}
use Rattle.rule_kinds.specs.rule_scope.declared.declaration.Senders.{Senders}
use Rattle.rule_kinds.specs.rule_scope.declared.declaration.Side.{Side}
use Rattle.rule_kinds.specs.rule_scope.declared.declaration.Sort.TheVariants as sort
use Rattle.rule_kinds.specs.rule_scope.Outline.{Outline, entry_at}
use Rattle.rule_kinds.specs.rule_scope.Uses.{declaration_of}

-- the kinds of the subscripts of a declaration
abbrev pub dims_in : Option Entry → Option (List Kind)
dims_in entry = option_and_then (λ (e : Entry). e.dims) entry

-- the header of a declaration, if it has one
abbrev pub header_in : Option Entry → Option ℕ
header_in entry = option_and_then (λ (e : Entry). e.header) entry

-- the header of the module variable or body that is declared at a place
abbrev pub header_at : Outline → Option ℕ → Option ℕ
header_at o place = header_in (option_and_then (entry_at o) place)

-- the header of the module that a specification starts, by its initialization
abbrev pub started_header : Outline → Statement → Option ℕ
started_header o (statement.Init target body arguments place) =
    header_at o (declaration_of o sort.ModuleVariable target.name)
started_header o _ = None

-- the channel and the role of the interaction point that is declared at a place
abbrev pub side_at : Outline → Option ℕ → Option Side
side_at o place = option_and_then (λ (e : Entry). e.side) (option_and_then (entry_at o) place)

-- the channel and the role of the interaction point that a name means
abbrev pub point_side : Outline → Used → Option Side
point_side o at = side_at o (declaration_of o sort.Point at)

-- whether a role of a channel sends or receives an interaction that these roles may send
abbrev pub may_pass : Direction → Role → Senders → Bool
may_pass Sends First s = s.first
may_pass Sends Second s = s.second
may_pass Receives First s = s.second
may_pass Receives Second s = s.first
