-- A value is stored in the row of an instance.
use Rattle.std.proofs.Common.{◌≡◌, refl, ap, ◌∙◌, ℕ, Bool, true, false, List, Result, Ok, Err}
use Rattle.est_syntax.specs.declared.kind.Kind.{Kind}
use Rattle.est_values.specs.declared.value.Value.{Value}
use Rattle.plain_declared.specs.mean_blocks.declared.fault.BlockFault.{BlockFault}
use Rattle.plain_declared.specs.mean_blocks.declared.frame.Holder.TheVariants as holder
use Rattle.plain_declared.specs.mean_blocks.declared.frame.Place.{Place}
use Rattle.plain_declared.specs.mean_blocks.declared.situation.Row.{Row}
use Rattle.plain_declared.specs.mean_blocks.declared.stop.Stop.{Stop}
use Rattle.plain_declared.specs.mean_blocks.declared.stop.Stop.TheVariants as stop
use Rattle.plain_declared.specs.mean_blocks.Outcome.{Outcome, Done, Fault, onward, lift, on_ok}
use Rattle.plain_declared.specs.mean_blocks.AnswersOfCalls.{Answers}
use Rattle.plain_declared.specs.mean_blocks.GlobalSituation.{Frame}
use Rattle.plain_declared.specs.mean_blocks.Frames.{held_by, frame_written}
use Rattle.plain_declared.specs.mean_blocks.ReachedVariables.{Component}
use Rattle.plain_declared.specs.mean_blocks.TakenValues.{taken}
use Rattle.plain_declared.specs.mean_blocks.WorkingState.{State}
use Rattle.plain_declared.specs.mean_blocks.WriteEffects.{given_names, stored}
use Rattle.plain_frames.specs.HeldFrames.{Leaves}
use Rattle.plain_frames.specs.inside.WrittenLists.{given_variables, variables_written}
use Rattle.plain_frames.specs.inside.WrittenLists.{instance_written}

-- a state with other rows, or a fault
abbrev with_rows : State → Result (List Row) BlockFault → Outcome State (Unit {0})
with_rows st (Ok rows) = Done tt (record st { situation = record st.situation { rows = rows } })
with_rows st (Err f) = Fault f

given_arm : (function : Bool) (m : ℕ) (named : Result Frame BlockFault) (st : State)
    → onward (lift named st) (given_names function (holder.Instance m))
    ≡ with_rows st (on_ok named (given_variables function m st.situation.rows))
given_arm true m (Ok f) st = refl
given_arm false m (Ok f) st = refl
given_arm function m (Err e) st = refl

stored_in_instance : (function : Bool) (p : Place) (k : Kind) (v : Value) (st : State) (m : ℕ)
    → p.holder ≡ holder.Instance m → stored function (Component p k) v st
    ≡ with_rows st (instance_written function m p k v st.situation.rows)
stored_in_instance function p k v st m e =
    ap (λ h. onward (lift (on_ok (held_by h st.situation st.frames)
    (λ f. on_ok (taken k v) (λ x. frame_written p.declared p.path x f))) st)
    (given_names function h)) e
    ∙ given_arm function m (variables_written m p k v st.situation.rows) st

-- where it is not written, it is not stored
pub stops_in_instance : (function : Bool) (p : Place) (k : Kind) (v : Value) (st after : State)
    (m : ℕ) (e : Stop) (rows : List Row) → p.holder ≡ holder.Instance m
    → Leaves (instance_written function m p k v st.situation.rows) (Err e) rows
    → Answers (stored function (Component p k) v st) (Err e) after
stops_in_instance function p k v st after m (stop.Fault f) rows e h =
    stored_in_instance function p k v st m e ∙ ap (with_rows st) h
stops_in_instance function p k v st after m stop.Limit rows e h = absurd h
stops_in_instance function p k v st after m (stop.Memory a) rows e h = tt
