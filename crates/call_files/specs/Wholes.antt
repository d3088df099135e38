-- What reading a whole file answers.
use Rattle.std.specs.Prelude.{◌≡◌, ℕ, ◌+◌, ◌<◌, ◌≤◌, List, Bool, true, length, Result, Ok, Err}
use Rattle.std.specs.Global.{Vec}
use Rattle.call_files.specs.FaultCounts.{Rose, AllStay}
use Rattle.call_files.specs.declared.whole.ReadError.{ReadError}
use Rattle.call_files.specs.declared.whole.ReadError.TheVariants.{Failed, TooLong, Memory}

-- the answer for a file of these bytes: they all, or that they are too many
abbrev pub IsWhole : ℕ → List ℕ → Result (Vec ℕ) ReadError → Type 0
IsWhole limit bytes (Ok read) = (read.items ≡ bytes) × (length bytes ≤ limit)
IsWhole limit bytes (Err TooLong) = limit < length bytes
IsWhole limit bytes (Err Failed) = Unit {0}
IsWhole limit bytes (Err (Memory _)) = Unit {0}

-- the answer for a file that is untold, by the number of bytes taken and whether the end was seen
abbrev pub IsTakenWhole : ℕ → ℕ → Bool → Result (Vec ℕ) ReadError → Type 0
IsTakenWhole limit taken ended (Ok read) =
    (length read.items ≡ taken) × (taken ≤ limit) × (ended ≡ true)
IsTakenWhole limit taken ended (Err TooLong) = taken ≡ limit + 1
IsTakenWhole limit taken ended (Err Failed) = Unit {0}
IsTakenWhole limit taken ended (Err (Memory _)) = Unit {0}

-- A fault is answered: the count of its name rose where the file could not be read, and each count
-- is as it was where the answer is another.
abbrev pub AnswersFaults : List ℕ → (List ℕ → ℕ) → (List ℕ → ℕ) → Result (Vec ℕ) ReadError → Type 0
AnswersFaults name before after (Ok read) = AllStay before after
AnswersFaults name before after (Err TooLong) = AllStay before after
AnswersFaults name before after (Err Failed) = Rose (before name) (after name)
AnswersFaults name before after (Err (Memory _)) = AllStay before after
