-- What is written to frames and rows, list by list.
use Rattle.std.specs.Prelude.{ℕ, Bool, List, Option, Some, None, Result, Ok, Err}
use Rattle.std.specs.Prelude.{find, slice_get, slice_set, if◌then◌else◌}
use Rattle.est_syntax.specs.declared.kind.Kind.{Kind}
use Rattle.est_values.specs.declared.value.Value.{Value}
use Rattle.est_values.specs.PartsOfValues.{with_part}
use Rattle.plain_declared.specs.mean_blocks.declared.fault.BlockFault.{BlockFault}
use Rattle.plain_declared.specs.mean_blocks.declared.fault.BlockFault.TheVariants.{Undefined}
use Rattle.plain_declared.specs.mean_blocks.declared.frame.Place.{Place}
use Rattle.plain_declared.specs.mean_blocks.declared.frame.Slot.{Slot}
use Rattle.plain_declared.specs.mean_blocks.declared.situation.Row.{Row}
use Rattle.plain_declared.specs.mean_blocks.Outcome.{on_ok}
use Rattle.plain_declared.specs.mean_blocks.GlobalSituation.{Frame, first_changed, is_numbered}
use Rattle.plain_declared.specs.mean_blocks.Frames.{value_in, existing, frame_at, variables_in}
use Rattle.plain_declared.specs.mean_blocks.Frames.{frame_written}
use Rattle.plain_declared.specs.mean_blocks.TakenValues.{taken}

-- the value that stands under a name, with another part
abbrev pub rewritten : List ℕ → Value → Option Slot → Result Value BlockFault
rewritten path w o = on_ok (value_in o) (λ v. existing (with_part w path v))

-- frames of which that of a number has another value at a place
abbrev pub frames_written : ℕ → Place → Value → List Frame → Result (List Frame) BlockFault
frames_written n p w frames = on_ok (frame_written p.declared p.path w (frame_at frames n))
    (λ f. Ok (slice_set frames n f))

-- a row with these variables
abbrev pub with_names : Frame → Row → Row
with_names f r = record r { variables = f }

-- rows of which one, which stands there, has another value at a place
abbrev pub row_written : ℕ → Place → Value → List Row → Option Row → Result (List Row) BlockFault
row_written i p w rows None = Err Undefined
row_written i p w rows (Some r) = on_ok (frame_written p.declared p.path w r.variables)
    (λ f. Ok (slice_set rows i (with_names f r)))

-- the same of the row that stands there
abbrev pub rows_written : ℕ → Place → Value → List Row → Result (List Row) BlockFault
rows_written i p w rows = row_written i p w rows (slice_get rows i)

-- the variables of an instance after a value is written there, which a kind has to take
abbrev pub variables_written : ℕ → Place → Kind → Value → List Row → Result Frame BlockFault
variables_written n p k w rows = on_ok (variables_in (find (is_numbered n) rows))
    (λ f. on_ok (taken k w) (λ x. frame_written p.declared p.path x f))

-- rows of which that of an instance has these variables; a function writes none
abbrev pub given_variables : Bool → ℕ → List Row → Frame → Result (List Row) BlockFault
given_variables function n rows f =
    if function then Err Undefined else Ok (first_changed (is_numbered n) (with_names f) rows)

-- rows of which that of an instance has another value at a place
abbrev pub instance_written : Bool → ℕ → Place → Kind → Value → List Row
    → Result (List Row) BlockFault
instance_written function n p k w rows =
    on_ok (variables_written n p k w rows) (given_variables function n rows)
