-- What stands under a name, in a frame and in the innermost one that has it.
use Rattle.std.proofs.Common.{◌≡◌, sym, ap, ◌∙◌, arith, ℕ, zero, suc, ◌+◌}
use Rattle.std.proofs.Common.{List, [], ◌∷◌, drop, Option, Some, None, slice_get, is_some}
use Rattle.std.specs.Prelude.{if◌then◌else◌}
use Rattle.std.specs.List.{position}
use Rattle.std.specs.Option.{option_map, option_or}
use Rattle.std.proofs.lemmas.Option.{none-some, same_Some, get_or_from_slice_get}
use Rattle.plain_declared.specs.mean_blocks.declared.frame.Binding.{Binding}
use Rattle.plain_declared.specs.mean_blocks.declared.frame.Slot.{Slot}
use Rattle.plain_declared.specs.mean_blocks.GlobalSituation.{Frame}
use Rattle.plain_declared.specs.mean_blocks.Frames.{is_declared, slot_of, innermost}
use Rattle.plain_declared.specs.mean_blocks.Frames.{numbered, found_in, found}
use Rattle.plain_systems.proofs.FirstFound.{first_found, none_found}

-- IN A FRAME

-- what stands under a name
abbrev pub slot_in : Option Binding → Option Slot
slot_in o = option_map (λ (b : Binding). b.slot) o

-- the first binding of a name has what stands under it
pub slot_by : (d : ℕ) (f : Frame) (i : ℕ) → position (is_declared d) f ≡ Some i
    → slot_of d f ≡ slot_in (slice_get f i)
slot_by d f i h = ap slot_in (first_found (is_declared d) f i h)

-- no binding is that of the name
pub no_slot : (d : ℕ) (f : Frame) → position (is_declared d) f ≡ None → slot_of d f ≡ None
no_slot d f h = ap slot_in (none_found (is_declared d) f h)

-- IN THE INNERMOST FRAME

-- one frame more, outside those in which a name was looked for
abbrev with_frame : ℕ → Option ℕ → Option Slot → Option ℕ
with_frame n inner slot = option_or inner (if is_some slot then Some n else None)

-- where it has the name and no inner one has
pub innermost_here : (d n : ℕ) (fs : List Frame) (i : ℕ) (f : Frame) (x : Slot)
    → slice_get fs i ≡ Some f → slot_of d f ≡ Some x
    → innermost d (n + i + 1) (drop (i + 1) fs) ≡ None → innermost d n fs ≡ Some (n + i)
innermost_here d n [] i f x at has inner = absurd (none-some f at)
innermost_here d n (g ∷ gs) zero f x at has inner =
    let e : n + zero ≡ n = omega arith in
    let same : slot_of d g ≡ Some x = ap (slot_of d) (same_Some g f at) ∙ has in
    ap (with_frame n (innermost d (n + 1) gs)) same
    ∙ ap (λ o. with_frame n o (Some x))
    (sym (ap (λ m. innermost d (m + 1) gs) e) ∙ inner)
    ∙ ap Some (sym e)
innermost_here d n (g ∷ gs) (suc i) f x at has inner =
    let e : n + 1 + i ≡ n + suc i = omega arith in
    let k : suc i + 1 ≡ suc (i + 1) = omega arith in
    let rest : innermost d (n + 1 + i + 1) (drop (i + 1) gs) ≡ None =
    ap (λ m. innermost d (m + 1) (drop (i + 1) gs)) e
    ∙ sym (ap (λ m. innermost d (n + suc i + 1) (drop m (g ∷ gs))) k) ∙ inner in
    ap (λ o. with_frame n o (slot_of d g)) (innermost_here d (n + 1) gs i f x at has rest)
    ∙ ap Some e

-- what it has is found
pub found_here : (d : ℕ) (fs : List Frame) (i : ℕ) (f : Frame) (x : Slot)
    → slice_get fs i ≡ Some f → slot_of d f ≡ Some x
    → innermost d (i + 1) (drop (i + 1) fs) ≡ None → found d fs ≡ Some (i, x)
found_here d fs i f x at has inner =
    let e : 0 + i ≡ i = omega arith in
    let here : innermost d 0 fs ≡ Some i =
    innermost_here d 0 fs i f x at has
    (ap (λ m. innermost d (m + 1) (drop (i + 1) fs)) e ∙ inner) ∙ ap Some e in
    ap (found_in d fs) here
    ∙ ap (λ g. numbered i (slot_of d g)) (get_or_from_slice_get fs i f [] at)
    ∙ ap (numbered i) has
