-- Interactions that their interaction points send (ISO 9074, 7: channel-definition).
use Rattle.std.specs.Prelude.{◌≡◌, ℕ, true, IsTrue, Some, Ok, slice_get}
use Rattle.std.specs.List.{AllZip}
use Rattle.est_syntax.specs.declared.kind.Kind.{Kind}
use Rattle.est_syntax.specs.declared.ports.Direction.TheVariants.{Sends}
use Rattle.est_syntax.specs.declared.ports.Port.{Port}
use Rattle.est_syntax.specs.declared.ports.Signal.{Signal}
use Rattle.est_syntax.specs.declared.specification.Spec.{Spec}
use Rattle.est_values.specs.declared.value.Value.{Value}
use Rattle.rule_scope.specs.declared.declaration.Member.TheVariants as member
use Rattle.rule_scope.specs.declared.declaration.Senders.{Senders}
use Rattle.rule_scope.specs.declared.declaration.Side.{Side}
use Rattle.rule_scope.specs.Outline.{Outline, names_of, member_at}
use Rattle.rule_declares.specs.LookUps.{side_at, may_pass}
use Rattle.rule_declares.specs.PortList.{ports_of, kinds_in}
use Rattle.mean_blocks.specs.declared.situation.InteractionPoint.{InteractionPoint}
use Rattle.mean_blocks.specs.declared.situation.Item.{Item}
use Rattle.mean_blocks.specs.GlobalSituation.{Situation}
use Rattle.mean_blocks.specs.TakenValues.{taken}
use Rattle.est_meaning.specs.declared.event.Event.{Event}
use Rattle.est_meaning.specs.declared.event.Event.TheVariants as event
use Rattle.est_meaning.specs.declared.event.Interaction.{Interaction}

-- ITEMS

-- a variable of the kind takes the value
abbrev pub Takes : Kind → Value → Type 0
Takes k v = taken k v ≡ Ok v

-- the role of an interaction point, in its channel, may send the interaction of an item
pub record MaySend (o : Outline) (point interaction : ℕ) : Type 0 where
  pub side : Side
  pub side_is : side_at o (Some point) ≡ Some side
  pub senders : Senders
  pub declared : member_at o interaction ≡ Some (member.Interaction senders)
  pub may : may_pass Sends side.role senders ≡ true

-- an item is one that its interaction point sends, and its parameters take its values
pub record IsSent (o : Outline) (i : Item) : Type 0 where
  pub sends : MaySend o i.at.declared i.signal
  pub values : AllZip Takes (kinds_in o (names_of o i.signal)) i.values

-- EVENTS

-- an interaction is a signal of a port of the specification that the port sends, and its values are
-- taken as those of its parameters
pub record IsSentAt (spec : Spec) (i : Interaction) : Type 0 where
  pub port : Port
  pub signal : Signal
  pub port_is : slice_get (ports_of spec) i.port ≡ Some port
  pub signal_is : slice_get port.signals i.signal ≡ Some signal
  pub sends : IsTrue signal.sends
  pub values : AllZip Takes signal.kinds i.values

-- what leaves is such an interaction
abbrev pub LeavesAsSent : Spec → Event → Type 0
LeavesAsSent spec (event.Arrives i) = Unit {0}
LeavesAsSent spec (event.Leaves i) = IsSentAt spec i
LeavesAsSent spec (event.Passes units) = Unit {0}

-- ATTACHMENTS

-- two interaction points have one channel and one role in it
abbrev pub HaveOneSide : Outline → InteractionPoint → InteractionPoint → Type 0
HaveOneSide o p q = side_at o (Some p.declared) ≡ side_at o (Some q.declared)

-- attachments join such interaction points
abbrev pub JoinOneSide : Outline → Situation → Type 0
JoinOneSide o s = (p q : InteractionPoint) → s.down p ≡ Some q → HaveOneSide o p q
