-- Frames and places, and how they are read and written (ISO 7185, 6.2.2, 6.5 and 6.8.2.2).
use Rattle.std.specs.Prelude.{ℕ, ◌+◌, Bool, nat_eq, find, List, [], ◌∷◌, ◌++◌, Option, Some}
use Rattle.std.specs.Prelude.{None, is_some, Result, Ok, Err, slice_index_or, if◌then◌else◌}
use Rattle.std.specs.Option.{option_map, option_or}
use Rattle.est_syntax.specs.declared.kind.Kind.{Kind}
use Rattle.est_values.specs.declared.value.Value.{Value}
use Rattle.est_values.specs.PartsOfValues.{part_at, with_part}
use Rattle.mean_blocks.specs.declared.fault.BlockFault.{BlockFault}
use Rattle.mean_blocks.specs.declared.fault.BlockFault.TheVariants.{NoModule, Undefined}
use Rattle.mean_blocks.specs.declared.frame.Binding.{Binding}
use Rattle.mean_blocks.specs.declared.frame.Holder.{Holder}
use Rattle.mean_blocks.specs.declared.frame.Holder.TheVariants as holder
use Rattle.mean_blocks.specs.declared.frame.Place.{Place}
use Rattle.mean_blocks.specs.declared.frame.Slot.{Slot}
use Rattle.mean_blocks.specs.declared.frame.Slot.TheVariants as slot
use Rattle.mean_blocks.specs.declared.situation.Row.{Row}
use Rattle.mean_blocks.specs.Outcome.{on_ok}
use Rattle.mean_blocks.specs.GlobalSituation.{Frame, Situation, first_changed, row_of}
use Rattle.mean_blocks.specs.TakenValues.{taken}

-- NAMES IN FRAMES

-- whether a name is declared at a place
abbrev pub is_declared : ℕ → Binding → Bool
is_declared declared b = nat_eq declared b.declared

-- what stands in a frame under a name that is declared at a place
abbrev pub slot_of : ℕ → Frame → Option Slot
slot_of declared f = option_map (λ (b : Binding). b.slot) (find (is_declared declared) f)

-- a name with another value
abbrev pub given_value : Value → Binding → Binding
given_value v b = record b { slot = slot.Value v }

-- a frame with another value under a name
abbrev pub with_value : ℕ → Value → Frame → Frame
with_value declared v f = first_changed (is_declared declared) (given_value v) f

-- the number of the innermost frame that has a name, of frames that are numbered from n on, the
-- outermost first
abbrev pub innermost : ℕ → ℕ → List Frame → Option ℕ
innermost declared n [] = None
innermost declared n (f ∷ fs) = option_or (innermost declared (n + 1) fs)
    (if is_some (slot_of declared f) then Some n else None)

-- a frame by its number from the outermost one
abbrev pub frame_at : List Frame → ℕ → Frame
frame_at frames n = slice_index_or frames n []

-- what a frame of this number has under a name
abbrev pub numbered : ℕ → Option Slot → Option (ℕ × Slot)
numbered n None = None
numbered n (Some x) = Some (n, x)

-- the same of the frame of this number, if there is one
abbrev pub found_in : ℕ → List Frame → Option ℕ → Option (ℕ × Slot)
found_in declared frames None = None
found_in declared frames (Some n) = numbered n (slot_of declared (frame_at frames n))

-- what the innermost frame that has a name has under it, with the number of that frame
abbrev pub found : ℕ → List Frame → Option (ℕ × Slot)
found declared frames = found_in declared frames (innermost declared 0 frames)

-- the place of a whole variable that is held there
abbrev pub whole : Holder → ℕ → Place
whole h declared = record { holder = h; declared = declared; path = [] }

-- the place of what stands under a name in a frame: its own, or that which it stands for
abbrev pub place_by : ℕ → ℕ → Option (ℕ × Slot) → Place
place_by instance declared (Some (n, slot.Place p)) = p
place_by instance declared (Some (n, x)) = whole (holder.Frame n) declared
place_by instance declared None = whole (holder.Instance instance) declared

-- The place of a variable: in the innermost frame that has its name, and after all frames in the
-- instance (ISO 7185, 6.2.2 and 6.6.3.3).
abbrev pub place_of : ℕ → List Frame → ℕ → Place
place_of instance frames declared = place_by instance declared (found declared frames)

-- a component of a place, by its number
abbrev pub component_of : ℕ → Place → Place
component_of k p = record p { path = p.path ++ k ∷ [] }

-- READING AND WRITING

-- a part that each value has that breaks no rule
abbrev pub existing : Option Value → Result Value BlockFault
existing None = Err Undefined
existing (Some v) = Ok v

-- the value under a name
abbrev pub value_in : Option Slot → Result Value BlockFault
value_in (Some (slot.Value v)) = Ok v
value_in _ = Err Undefined

-- the names that an instance has, if it lives
abbrev pub variables_in : Option Row → Result Frame BlockFault
variables_in None = Err NoModule
variables_in (Some r) = Ok r.variables

-- the names that a holder has
abbrev pub held_by : Holder → Situation → List Frame → Result Frame BlockFault
held_by (holder.Frame n) s frames = Ok (frame_at frames n)
held_by (holder.Instance n) s frames = variables_in (row_of s n)

-- the value at a place
abbrev pub read_at : Place → Situation → List Frame → Result Value BlockFault
read_at p s frames = on_ok (held_by p.holder s frames)
    (λ f. on_ok (value_in (slot_of p.declared f)) (λ v. existing (part_at p.path v)))

-- a frame with another value at a path under a name
abbrev pub frame_written : ℕ → List ℕ → Value → Frame → Result Frame BlockFault
frame_written declared path w f = on_ok (value_in (slot_of declared f))
    (λ v. on_ok (existing (with_part w path v)) (λ x. Ok (with_value declared x f)))

-- The names of the holder of a place after a value is written there, which a kind has to take.
-- NoModule comes before Range.
abbrev pub names_written : Place → Kind → Value → Situation → List Frame → Result Frame BlockFault
names_written p k w s frames = on_ok (held_by p.holder s frames)
    (λ f. on_ok (taken k w) (λ x. frame_written p.declared p.path x f))
