-- What is found in frames, and what is written there, as the program shows it.
use Rattle.std.specs.Prelude.{◌≡◌, ℕ, ℤ, Bool, List, Option, Result, Ok, Err}
use Rattle.std.specs.Option.{option_map}
use Rattle.std.specs.Borrow.{Bor}
use Rattle.est_syntax.specs.declared.kind.Kind.{Kind}
use Rattle.est_values.specs.declared.value.Value.{Value}
use Rattle.plain_declared.specs.mean_blocks.declared.fault.BlockFault.{BlockFault}
use Rattle.plain_declared.specs.mean_blocks.declared.frame.Place.{Place}
use Rattle.plain_declared.specs.mean_blocks.declared.frame.Slot.{Slot}
use Rattle.plain_declared.specs.mean_blocks.declared.stop.Stop.{Stop}
use Rattle.plain_declared.specs.mean_blocks.declared.stop.Stop.TheVariants as stop
use Rattle.plain_declared.specs.mean_blocks.GlobalSituation.{Frame, Situation}
use Rattle.plain_declared.specs.mean_blocks.Frames.{found, slot_of, frame_at, value_in}
use Rattle.plain_declared.specs.mean_blocks.Outcome.{on_ok}
use Rattle.plain_declared.specs.mean_blocks.ValueOperators.{defined_in}
use Rattle.plain_declared.specs.mean_blocks.AnswersOfCalls.{Answers}
use Rattle.plain_declared.specs.mean_blocks.ReachedVariables.{Component, instance_by, living}
use Rattle.plain_declared.specs.mean_blocks.ReachedVariables.{held_in}
use Rattle.plain_declared.specs.mean_blocks.WriteEffects.{stored}
use Rattle.plain_systems.specs.declared.system.Working.{Working}
use Rattle.plain_systems.specs.HeldSystems.{state_of}

-- READING

-- what was found in a frame, with the number of that frame
abbrev pub seen : Option (ℕ × Bor Slot) → Option (ℕ × Slot)
seen o = option_map (λ (p : ℕ × Bor Slot). (p.0, p.1.now)) o

-- the child that a module variable of an instance holds, by the place of its name and its
-- subscripts
abbrev pub child_in : Situation → ℕ → List Frame → ℕ → List ℤ → Result ℕ BlockFault
child_in s n frames p zs = living s (instance_by (found p frames)
    (held_in s n (record { declared = p; index = zs })))

-- the result of a function, whose frame is the outermost one
abbrev pub result_in : ℕ → List Frame → Result Value BlockFault
result_in p frames = on_ok (value_in (slot_of p (frame_at frames 0))) defined_in

-- WRITING

-- what a call leaves that makes one thing of another: that, unless it stops
abbrev pub Leaves : {S : Type 0} → Result S BlockFault → Result (Unit {0}) Stop → S → Type 0
Leaves made (Ok a) s = made ≡ Ok s
Leaves made (Err (stop.Fault f)) s = made ≡ Err f
Leaves made (Err stop.Limit) s = ⊥
Leaves made (Err (stop.Memory e)) s = Unit {0}

-- what a call leaves that writes a value to a variable of a kind, in a function or not
abbrev pub Stores : Bool → Place → Kind → Value → Working → Result (Unit {0}) Stop → Working
    → Type 0
Stores function p k v old result new =
    (n : ℕ) → Answers (stored function (Component p k) v (state_of old n)) result (state_of new n)
