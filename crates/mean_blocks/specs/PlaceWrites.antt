-- Reading and writing at a place change nothing elsewhere.
use Rattle.std.specs.Prelude.{◌≡◌, ℕ, nat_eq, false, Some}
use Rattle.est_values.specs.declared.value.Value.{Value}
use Rattle.mean_blocks.specs.declared.frame.Slot.{Slot}
use Rattle.mean_blocks.specs.declared.frame.Slot.TheVariants as slot
use Rattle.mean_blocks.specs.declared.situation.Row.{Row}
use Rattle.mean_blocks.specs.GlobalSituation.{Frame, Situation, row_of, with_row}
use Rattle.mean_blocks.specs.Frames.{slot_of, with_value}

-- a frame has what is written under a name that it has
abbrev pub FramesHaveWhatIsWritten : Type 0
FramesHaveWhatIsWritten = (d : ℕ) (v : Value) (f : Frame) (x : Slot) → slot_of d f ≡ Some x
    → slot_of d (with_value d v f) ≡ Some (slot.Value v)

-- and what it had under other names
abbrev pub FramesKeepOtherNames : Type 0
FramesKeepOtherNames = (d e : ℕ) (v : Value) (f : Frame) → nat_eq d e ≡ false
    → slot_of e (with_value d v f) ≡ slot_of e f

-- a change of a row leaves its number
abbrev pub KeepsNumber : (Row → Row) → Type 0
KeepsNumber change = (r : Row) → (change r).number ≡ r.number

-- the row of a living instance is the changed one
abbrev pub ChangedRowsAreFound : Type 0
ChangedRowsAreFound = (n : ℕ) (change : Row → Row) (s : Situation) (r : Row) → KeepsNumber change
    → row_of s n ≡ Some r → row_of (with_row n change s) n ≡ Some (change r)

-- and those of other instances stay
abbrev pub OtherRowsStay : Type 0
OtherRowsStay = (n m : ℕ) (change : Row → Row) (s : Situation) → KeepsNumber change
    → nat_eq n m ≡ false → row_of (with_row n change s) m ≡ row_of s m
