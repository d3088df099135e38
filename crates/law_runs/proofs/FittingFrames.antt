-- Frames name no instance whose release would take the one that executes.
use Rattle.std.proofs.Common.{ℕ, zero, suc, Bool, true, false, List, []}
use Rattle.std.proofs.Common.{◌∷◌, ◌++◌, Option, Some, None}
use Rattle.std.specs.Prelude.{if◌then◌else◌, slice_set, take, find}
use Rattle.std.specs.List.{AllByRecursion}
use Rattle.std.specs.Option.{option_map}
use Rattle.est_values.specs.declared.value.Value.{Value}
use Rattle.mean_blocks.specs.declared.frame.Binding.{Binding}
use Rattle.mean_blocks.specs.declared.frame.Slot.{Slot}
use Rattle.mean_blocks.specs.declared.frame.Slot.TheVariants as slot
use Rattle.mean_blocks.specs.GlobalSituation.{Frame}
use Rattle.mean_blocks.specs.Frames.{is_declared, slot_of, with_value, given_value, frame_at}
use Rattle.mean_blocks.specs.Frames.{found_in, numbered}
use Rattle.mean_blocks.specs.ReachedVariables.{instance_by}
use Rattle.law_runs.specs.UpkeepLaws.{IsPlainSlot, IsPlain}
use Rattle.law_runs.proofs.ParentsOlder.{changed_all, joined_all}

-- a property of the instance that a slot stands for, if it does
abbrev pub OnSlot : (ℕ → Type 0) → Slot → Type 0
OnSlot Q (slot.Value v) = Unit {0}
OnSlot Q (slot.Place p) = Unit {0}
OnSlot Q (slot.Instance n) = Q n

abbrev pub OnFrame : (ℕ → Type 0) → Frame → Type 0
OnFrame Q f = AllByRecursion (λ (b : Binding). OnSlot Q b.slot) f

abbrev pub OnFrames : (ℕ → Type 0) → List Frame → Type 0
OnFrames Q fs = AllByRecursion (OnFrame Q) fs

more_all : {A : Type 0} (P R : A → Type 0) → ((x : A) → P x → R x) → (xs : List A)
    → AllByRecursion P xs → AllByRecursion R xs
more_all P R f [] h = tt
more_all P R f (x ∷ xs) h = (f x h.0, more_all P R f xs h.1)

module _ (Q : ℕ → Type 0) where
  plain_slot : (x : Slot) → IsPlainSlot x → OnSlot Q x
  plain_slot (slot.Value v) h = tt
  plain_slot (slot.Place p) h = tt
  plain_slot (slot.Instance n) h = absurd h

  pub plain_frame : (f : Frame) → IsPlain f → OnFrame Q f
  plain_frame f h = more_all (λ (b : Binding). IsPlainSlot b.slot)
      (λ (b : Binding). OnSlot Q b.slot) (λ b g. plain_slot b.slot g) f h

  pub plain_frames : (fs : List Frame) → AllByRecursion IsPlain fs → OnFrames Q fs
  plain_frames fs h = more_all IsPlain (OnFrame Q) plain_frame fs h

  pub opened_frames : (fs : List Frame) (f : Frame) → OnFrames Q fs → OnFrame Q f
      → OnFrames Q (fs ++ f ∷ [])
  opened_frames fs f h g = joined_all (OnFrame Q) fs (f ∷ []) h (g, tt)

  pub taken_frames : (k : ℕ) (fs : List Frame) → OnFrames Q fs → OnFrames Q (take k fs)
  taken_frames zero fs h = tt
  taken_frames (suc k) [] h = tt
  taken_frames (suc k) (f ∷ fs) h = (h.0, taken_frames k fs h.1)

  pub frame_fits : (fs : List Frame) (k : ℕ) → OnFrames Q fs → OnFrame Q (frame_at fs k)
  frame_fits [] k h = tt
  frame_fits (f ∷ fs) zero h = h.0
  frame_fits (f ∷ fs) (suc k) h = frame_fits fs k h.1

  set_frames : (fs : List Frame) (k : ℕ) (f : Frame) → OnFrames Q fs → OnFrame Q f
      → OnFrames Q (slice_set fs k f)
  set_frames [] k f h g = tt
  set_frames (x ∷ fs) zero f h g = (g, h.1)
  set_frames (x ∷ fs) (suc k) f h g = (h.0, set_frames fs k f h.1 g)

  pub altered_frames : (fs : List Frame) (k d : ℕ) (v : Value) → OnFrames Q fs
      → OnFrames Q (slice_set fs k (with_value d v (frame_at fs k)))
  altered_frames fs k d v h = set_frames fs k (with_value d v (frame_at fs k)) h
      (changed_all (λ (b : Binding). OnSlot Q b.slot) (is_declared d) (given_value v)
      (λ b e g. tt) (frame_at fs k) (frame_fits fs k h))

  -- what is found in frames
  abbrev pub OnFound : Option Slot → Type 0
  OnFound None = Unit {0}
  OnFound (Some x) = OnSlot Q x

  pub slot_fits : (d : ℕ) (f : Frame) → OnFrame Q f → OnFound (slot_of d f)
  slot_fits d [] h = tt
  slot_fits d (b ∷ f) h = one (is_declared d b) (slot_fits d f h.1)
    where
      one : (c : Bool) → OnFound (slot_of d f)
          → OnFound (option_map (λ (b : Binding). b.slot)
          (if c then Some b else find (is_declared d) f))
      one true g = h.0
      one false g = g

  -- the instance that a name stands for, or else another
  abbrev pub OnNumber : Option ℕ → Type 0
  OnNumber None = Unit {0}
  OnNumber (Some i) = Q i

  named : (n : ℕ) (o : Option Slot) (other : Option ℕ) → OnFound o → OnNumber other
      → OnNumber (instance_by (numbered n o) other)
  named n None other h g = g
  named n (Some (slot.Value v)) other h g = g
  named n (Some (slot.Place p)) other h g = g
  named n (Some (slot.Instance i)) other h g = h

  pub named_fits : (fs : List Frame) (d : ℕ) (k other : Option ℕ) → OnFrames Q fs
      → OnNumber other → OnNumber (instance_by (found_in d fs k) other)
  named_fits fs d None other h g = g
  named_fits fs d (Some k) other h g =
      named k (slot_of d (frame_at fs k)) other (slot_fits d (frame_at fs k) (frame_fits fs k h)) g

-- a weaker property
pub weaker_frames : (P Q : ℕ → Type 0) → ((n : ℕ) → P n → Q n) → (fs : List Frame)
    → OnFrames P fs → OnFrames Q fs
weaker_frames P Q f fs h = more_all (OnFrame P) (OnFrame Q)
    (λ x g. more_all (λ (b : Binding). OnSlot P b.slot) (λ (b : Binding). OnSlot Q b.slot)
    (λ b k. weaker_slot b.slot k) x g) fs h
  where
    weaker_slot : (x : Slot) → OnSlot P x → OnSlot Q x
    weaker_slot (slot.Value v) k = tt
    weaker_slot (slot.Place p) k = tt
    weaker_slot (slot.Instance n) k = f n k
