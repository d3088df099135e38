-- Situations and states in which each value fits the kind of what holds it (ISO 7185, 6.4.6).
use Rattle.std.specs.Prelude.{◌≡◌, List, Some}
use Rattle.std.specs.List.{AllByRecursion, AllZip}
use Rattle.est_syntax.specs.declared.kind.Kind.{Kind}
use Rattle.est_values.specs.FittingValues.{Fits}
use Rattle.rule_scope.specs.Outline.{Outline, names_of}
use Rattle.rule_declares.specs.PortList.{kinds_in}
use Rattle.mean_blocks.specs.declared.frame.Binding.{Binding}
use Rattle.mean_blocks.specs.declared.frame.Slot.{Slot}
use Rattle.mean_blocks.specs.declared.situation.Item.{Item}
use Rattle.mean_blocks.specs.declared.situation.Row.{Row}
use Rattle.mean_blocks.specs.GlobalSituation.{Frame, QueueName, Situation}
use Rattle.mean_blocks.specs.NamesInRuns.{kind_at}
use Rattle.mean_blocks.specs.WorkingState.{State}
use Rattle.mean_blocks.specs.declared.frame.Slot.TheVariants as slot
use Rattle.law_values.specs.KindsOfPlaces.{HasKind}

-- what stands under a name of a kind is a value that fits it, or the place of such a variable
abbrev pub SlotFits : Outline → Kind → Slot → Type 0
SlotFits o k (slot.Value v) = Fits k v
SlotFits o k (slot.Place p) = HasKind o p k
SlotFits o k (slot.Instance n) = Unit {0}

-- a name has what fits the kind that is declared for it
abbrev pub BindingFits : Outline → Binding → Type 0
BindingFits o b = (k : Kind) → kind_at o b.declared ≡ Some k → SlotFits o k b.slot

-- and so has each name of a frame
abbrev pub FrameFits : Outline → Frame → Type 0
FrameFits o f = AllByRecursion (BindingFits o) f

abbrev pub FramesFit : Outline → List Frame → Type 0
FramesFit o fs = AllByRecursion (FrameFits o) fs

-- the variables of an instance
abbrev pub RowFits : Outline → Row → Type 0
RowFits o r = FrameFits o r.variables

-- the values of an item fit the kinds of the parameters of its interaction
abbrev pub ItemFits : Outline → Item → Type 0
ItemFits o i = AllZip Fits (kinds_in o (names_of o i.signal)) i.values

-- in a situation each variable of each instance has what fits it, and each item that waits
pub record SituationFits (o : Outline) (s : Situation) : Type 0 where
  pub rows : AllByRecursion (RowFits o) s.rows
  pub items : (q : QueueName) → AllByRecursion (ItemFits o) (s.queues q)

-- in a state the names of its frames too, and each item that was sent out of the system
pub record StateFits (o : Outline) (s : State) : Type 0 where
  pub situation : SituationFits o s.situation
  pub frames : FramesFit o s.frames
  pub sent : AllByRecursion (ItemFits o) s.outs
