-- What stays in order in a system that changes.
use Rattle.std.specs.List.{AllByRecursion}
use Rattle.mean_blocks.specs.declared.frame.Binding.{Binding}
use Rattle.mean_blocks.specs.declared.frame.Slot.{Slot}
use Rattle.mean_blocks.specs.declared.frame.Slot.TheVariants as slot
use Rattle.mean_blocks.specs.Outcome.{Outcome, Done, Fault, Limit}
use Rattle.mean_blocks.specs.GlobalSituation.{Frame}
use Rattle.mean_blocks.specs.WorkingState.{State}

-- a property of what is left, where the evaluation is done
abbrev pub OnDone : {A : Type 0} → (State → Type 0) → Outcome State A → Type 0
OnDone P (Done a u) = P u
OnDone P (Fault f) = Unit {0}
OnDone P Limit = Unit {0}

-- what stands under a name is no instance
abbrev pub IsPlainSlot : Slot → Type 0
IsPlainSlot (slot.Value v) = Unit {0}
IsPlainSlot (slot.Place p) = Unit {0}
IsPlainSlot (slot.Instance n) = ⊥

-- a frame names no instance
abbrev pub IsPlain : Frame → Type 0
IsPlain f = AllByRecursion (λ (b : Binding). IsPlainSlot b.slot) f
