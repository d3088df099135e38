-- Interaction points and what passes them (ISO 9074, output and when-clause).
use Rattle.std.specs.Prelude.{ℕ, Bool, List, [], ◌∷◌, ◌++◌, Option, Some, None, option_and_then}
use Rattle.std.specs.Prelude.{if◌then◌else◌}
use Rattle.est_syntax.specs.Names.{spelled}
use Rattle.est_syntax.specs.Faults.{broken}
use Rattle.est_syntax.specs.declared.channel.Role.{Role}
use Rattle.est_syntax.specs.declared.channel.Role.TheVariants.{First, Second}
use Rattle.est_syntax.specs.declared.expression.Access.{Access}
use Rattle.est_syntax.specs.declared.name.Used.{Used}
use Rattle.est_syntax.specs.declared.ports.Direction.{Direction}
use Rattle.est_syntax.specs.declared.ports.Direction.TheVariants.{Sends, Receives}
use Rattle.est_syntax.specs.declared.rule.Fault.{Fault}
use Rattle.est_syntax.specs.declared.rule.Rule.TheVariants.{UnknownName, WrongSort, WrongDirection}
use Rattle.est_syntax.specs.declared.statement.Sending.{Sending}
use Rattle.rule_scope.specs.declared.declaration.Entry.{Entry}
use Rattle.rule_scope.specs.declared.declaration.Member.{Member}
use Rattle.rule_scope.specs.declared.declaration.Member.TheVariants as member
use Rattle.rule_scope.specs.declared.declaration.Senders.{Senders}
use Rattle.rule_scope.specs.declared.declaration.Side.{Side}
use Rattle.rule_scope.specs.declared.declaration.Sort.TheVariants as sort
use Rattle.rule_scope.specs.declared.declaration.Standing.{Standing}
use Rattle.rule_scope.specs.Outline.{Outline, entry_at, member_at, standing}
use Rattle.rule_scope.specs.Uses.{declaration_of}
use Rattle.rule_declares.specs.LookUps.{point_side, may_pass}
use Rattle.rule_expressions.specs.declared.receivers.Receiver.{Receiver}
use Rattle.rule_expressions.specs.declared.receivers.Receiver.TheVariants as receiver
use Rattle.rule_expressions.specs.Expressions.{are_taken_faults}
use Rattle.rule_expressions.specs.Accesses.{access_faults}

-- what a name of a channel breaks that is no interaction, or that does not pass this way
abbrev pub direction_faults : Direction → Role → Option Member → ℕ → List Fault
direction_faults d r (Some (member.Interaction s)) place =
    if may_pass d r s then [] else broken place WrongDirection
direction_faults d r _ place = broken place WrongSort

-- what a name breaks that stands in a channel, or does not
abbrev pub standing_faults : Outline → Direction → Role → Option Standing → ℕ → List Fault
standing_faults o d r None place = broken place UnknownName
standing_faults o d r (Some s) place = direction_faults d r (member_at o s.place) place

-- what the name of an interaction breaks, which is looked up in the channel of a point
abbrev pub signal_by_faults : Outline → Direction → Option Side → Used → List Fault
signal_by_faults o d None u = []
signal_by_faults o d (Some s) u =
    standing_faults o d s.role (standing o s.channel (spelled u)) u.place

-- what an interaction point and the name of an interaction break that passes it
abbrev pub signal_faults : Outline → Direction → Access → Used → List Fault
signal_faults o d at u =
    access_faults o sort.Point at ++ signal_by_faults o d (point_side o at.name) u

-- the interaction, whose region has its parameters
abbrev pub signal_in : Option Member → ℕ → Option Receiver
signal_in (Some (member.Interaction s)) place = Some (receiver.Parameters place)
signal_in _ place = None

-- the interaction that stands in a channel, if one does
abbrev pub signal_standing : Outline → Option Standing → Option Receiver
signal_standing o found =
    option_and_then (λ (s : Standing). signal_in (member_at o s.place) s.place) found

-- the interaction that a name means at a point of this side
abbrev pub signal_of : Outline → Option Side → Used → Option Receiver
signal_of o None u = None
signal_of o (Some s) u = signal_standing o (standing o s.channel (spelled u))

-- an interaction that is sent
abbrev pub sending_faults : Outline → Sending → List Fault
sending_faults o s = signal_faults o Sends s.at s.signal
    ++ are_taken_faults o (signal_of o (point_side o s.at.name) s.signal) 0 s.signal.place
    s.arguments
