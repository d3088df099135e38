-- A value that is written to a frame.
use Rattle.std.proofs.Common.{◌≡◌, refl, sym, ap, ◌∙◌, ℕ, List, Option, Some, None, Result, Ok, Err}
use Rattle.std.proofs.Common.{slice_get, slice_set}
use Rattle.std.specs.List.{position}
use Rattle.est_values.specs.declared.value.Value.{Value}
use Rattle.est_values.specs.PartsOfValues.{with_part}
use Rattle.est_values.proofs.WrittenValues.{set_twice}
use Rattle.plain_declared.specs.mean_blocks.declared.fault.BlockFault.{BlockFault}
use Rattle.plain_declared.specs.mean_blocks.declared.fault.BlockFault.TheVariants.{Undefined}
use Rattle.plain_declared.specs.mean_blocks.declared.frame.Binding.{Binding}
use Rattle.plain_declared.specs.mean_blocks.declared.frame.Slot.{Slot}
use Rattle.plain_declared.specs.mean_blocks.declared.frame.Slot.TheVariants as slot
use Rattle.plain_declared.specs.mean_blocks.declared.situation.Row.{Row}
use Rattle.plain_declared.specs.mean_blocks.declared.stop.Stop.{Stop}
use Rattle.plain_declared.specs.mean_blocks.declared.stop.Stop.TheVariants as stop
use Rattle.plain_declared.specs.mean_blocks.AnswersOfCalls.{Says}
use Rattle.plain_declared.specs.mean_blocks.Outcome.{on_ok}
use Rattle.plain_declared.specs.mean_blocks.GlobalSituation.{Frame}
use Rattle.plain_declared.specs.mean_blocks.Frames.{is_declared, slot_of, given_value, with_value}
use Rattle.plain_declared.specs.mean_blocks.Frames.{existing, value_in, frame_written}
use Rattle.plain_frames.specs.HeldFrames.{Leaves}
use Rattle.plain_frames.specs.inside.WrittenLists.{rewritten}
use Rattle.plain_systems.proofs.FirstFound.{changed_at}
use Rattle.plain_frames.proofs.NamesFound.{slot_in, slot_by, no_slot}

-- what follows a thing that follows another
pub on_ok_twice : {A B C : Type 0} (r : Result A BlockFault) (go : A → Result B BlockFault)
    (on : B → Result C BlockFault) → on_ok (on_ok r go) on ≡ on_ok r (λ a. on_ok (go a) on)
on_ok_twice (Ok a) go on = refl
on_ok_twice (Err f) go on = refl

-- a frame is written by what stands under the name
by_slot : (d : ℕ) (ks : List ℕ) (w : Value) (f : Frame) (o : Option Slot) → slot_of d f ≡ o
    → frame_written d ks w f ≡ on_ok (rewritten ks w o) (λ x. Ok (with_value d x f))
by_slot d ks w f o h =
    sym (on_ok_twice (value_in (slot_of d f)) (λ v. existing (with_part w ks v))
    (λ x. Ok (with_value d x f)))
    ∙ ap (λ s. on_ok (rewritten ks w s) (λ x. Ok (with_value d x f))) h

-- a name that the frame has not
pub nothing_written : (d : ℕ) (ks : List ℕ) (w : Value) (f : Frame)
    → position (is_declared d) f ≡ None → frame_written d ks w f ≡ Err Undefined
nothing_written d ks w f h = by_slot d ks w f None (no_slot d f h)

-- a value that does not become another
pub stopped_at : (d : ℕ) (ks : List ℕ) (w : Value) (f : Frame) (i : ℕ) (b : Binding)
    (e : BlockFault) → position (is_declared d) f ≡ Some i → slice_get f i ≡ Some b
    → rewritten ks w (Some b.slot) ≡ Err e → frame_written d ks w f ≡ Err e
stopped_at d ks w f i b e h at s =
    by_slot d ks w f (Some b.slot) (slot_by d f i h ∙ ap slot_in at)
    ∙ ap (λ r. on_ok r (λ x. Ok (with_value d x f))) s

-- a binding is taken out, its value changed, and put back
pub written_at : (d : ℕ) (ks : List ℕ) (w : Value) (f without back : Frame) (i : ℕ)
    (b hole : Binding) (x : Value) → position (is_declared d) f ≡ Some i
    → slice_get f i ≡ Some b → rewritten ks w (Some b.slot) ≡ Ok x
    → without ≡ slice_set f i hole → back ≡ slice_set without i (given_value x b)
    → frame_written d ks w f ≡ Ok back
written_at d ks w f without back i b hole x h at s out in' =
    by_slot d ks w f (Some b.slot) (slot_by d f i h ∙ ap slot_in at)
    ∙ ap (λ r. on_ok r (λ y. Ok (with_value d y f))) s
    ∙ ap Ok (changed_at (is_declared d) (given_value x) f i b h at
    ∙ sym (in' ∙ ap (λ l. slice_set l i (given_value x b)) out
    ∙ set_twice f i hole (given_value x b)))

-- where a value does not become another, nothing is written
pub stopped_leaves : (d : ℕ) (ks : List ℕ) (w : Value) (f : Frame) (i : ℕ) (b : Binding)
    (e : Stop) (g : Frame) → position (is_declared d) f ≡ Some i → slice_get f i ≡ Some b
    → Says (rewritten ks w (Some b.slot)) (Err e) → Leaves (frame_written d ks w f) (Err e) g
stopped_leaves d ks w f i b (stop.Fault e) g h at s = stopped_at d ks w f i b e h at s
stopped_leaves d ks w f i b stop.Limit g h at s = absurd s
stopped_leaves d ks w f i b (stop.Memory e) g h at s = tt

-- what is undefined, whatever comes before
abbrev pub fails : Frame → Result (List Row) BlockFault
fails f = Err Undefined

-- a frame that is not written has no other fault than that something is undefined
undefined_arm : (o : Option Value) (d : ℕ) (f : Frame)
    → on_ok (on_ok (existing o) (λ x. Ok (with_value d x f))) fails ≡ Err Undefined
undefined_arm None d f = refl
undefined_arm (Some x) d f = refl

undefined_by : (o : Option Slot) (ks : List ℕ) (w : Value) (d : ℕ) (f : Frame)
    → on_ok (on_ok (rewritten ks w o) (λ x. Ok (with_value d x f))) fails ≡ Err Undefined
undefined_by (Some (slot.Value v)) ks w d f = undefined_arm (with_part w ks v) d f
undefined_by (Some (slot.Place p)) ks w d f = refl
undefined_by (Some (slot.Instance n)) ks w d f = refl
undefined_by None ks w d f = refl

pub undefined_written : (d : ℕ) (ks : List ℕ) (w : Value) (f : Frame)
    → on_ok (frame_written d ks w f) fails ≡ Err Undefined
undefined_written d ks w f =
    ap (λ r. on_ok r fails) (by_slot d ks w f (slot_of d f) refl)
    ∙ undefined_by (slot_of d f) ks w d f
