-- How far a text was read, and what is said where a call stops on the way.
use Rattle.std.specs.Prelude.{◌≡◌, ℕ, ◌+◌, ◌≤◌, ◌⊎◌, true, List, [], ◌∷◌, ◌++◌, All, Option}
use Rattle.std.specs.Prelude.{length}
use Rattle.est_syntax.specs.declared.specification.Spec.{Spec}
use Rattle.est_meaning.specs.Run.{Setup}
use Rattle.est_meaning.specs.SituationStacks.{Stack}
use Rattle.call_files.specs.FaultCounts.{Rose}
use Rattle.call_files.specs.Files.{limit_of}
use Rattle.call_files.specs.Pieces.{appended, IsPrefix, TakesOff}
use Rattle.call_files.specs.declared.file.File.TheVariants as file
use Rattle.call_files.specs.declared.status.Status.{Status}
use Rattle.call_files.specs.declared.status.Status.TheVariants as status
use Rattle.call_watch.specs.Lines.{Line, AreLines, HasNoFeed}
use Rattle.call_watch.specs.Answers.{Watch, Standing, at_first, goes_on, ended}
use Rattle.call_watch.specs.Answers.{AreLinesAnswered, IsLineAnswered, IsLineBegun}
use Rattle.call_watch.specs.Endings.{IsWatchEnd, IsCutAtLine, IsCutAtEnd, IsSpentEnd}
use Rattle.call_watch.specs.inside.Recordings.{IsWaiting, standing_of, watch_of}
use Rattle.call_watch.specs.declared.answering.Went.{Went}
use Rattle.call_watch.specs.declared.answering.Went.TheVariants.{On, Ended}
use Rattle.call_watch.specs.declared.reading.Reading.{Reading}

-- The bytes that were taken are lines that were answered, of which none ends the call, and then a
-- line that no line feed has closed yet.
pub record IsSoFar (w : Watch) (taken line : List ℕ) (row : ℕ) (s : Standing)
    (before after : Option (List ℕ)) : Type 0 where
  pub front : List ℕ
  pub taken_is : taken ≡ front ++ line
  pub lines : List Line
  pub front_is : AreLines front lines
  pub fed : All (λ (l : Line). l.fed ≡ true) lines
  pub out : List ℕ
  pub answered : AreLinesAnswered w 1 at_first lines (goes_on s) (length front) out
  pub after_is : after ≡ appended before out
  pub row_is : row ≡ length lines + 1

-- the bytes that were taken are lines that were all answered, and none of them ends the call
pub record IsAllAnswered (w : Watch) (taken : List ℕ) (row : ℕ)
    (before after : Option (List ℕ)) : Type 0 where
  pub lines : List Line
  pub taken_are : AreLines taken lines
  pub standing : Standing
  pub out : List ℕ
  pub answered : AreLinesAnswered w 1 at_first lines (goes_on standing) (length taken) out
  pub after_is : after ≡ appended before out
  pub row_is : row ≡ length lines + 1

-- What a line came to that was closed: it goes on from a new standing, or it has ended with a
-- status, where an answer could not be written or memory ran out as well.
abbrev pub IsClosed : Watch → ℕ → Standing → List ℕ → Standing → Went → Option (List ℕ)
    → Option (List ℕ) → Type 0
IsClosed w row s line new On before after = (here : List ℕ)
    × IsLineAnswered w row s line (goes_on new) here × (after ≡ appended before here)
IsClosed w row s line new (Ended status.WriteFault) before after = (part : List ℕ)
    × IsLineBegun w row s line part × (after ≡ appended before part)
IsClosed w row s line new (Ended status.OutOfMemory) before after = (part : List ℕ)
    × ((part ≡ []) ⊎ IsLineBegun w row s line part) × (after ≡ appended before part)
IsClosed w row s line new (Ended with) before after = (here : List ℕ)
    × IsLineAnswered w row s line (ended with) here × (after ≡ appended before here)

-- how a call ends that no read has failed, by the whole text and how much of it was taken
abbrev pub StopsWith : Watch → List ℕ → ℕ → Option (List ℕ) → Option (List ℕ) → Status → Type 0
StopsWith w text taken before after status.ReadFault = ⊥
StopsWith w text taken before after status.Usage = ⊥
StopsWith w text taken before after status.WriteFault = (out : List ℕ)
    × (IsCutAtLine w text out taken ⊎ IsCutAtEnd w text out taken) × (after ≡ appended before out)
StopsWith w text taken before after status.OutOfMemory = (out : List ℕ)
    × IsSpentEnd w text taken out × (after ≡ appended before out)
StopsWith w text taken before after with = (out : List ℕ)
    × IsWatchEnd w text with out taken × (after ≡ appended before out)

-- what one byte more comes to
abbrev pub IsAfterByte : Watch → List ℕ → ℕ → List ℕ → ℕ → Standing → Option (List ℕ)
    → Option (List ℕ) → Went → Type 0
IsAfterByte w taken byte line row s before after On =
    IsSoFar w (taken ++ byte ∷ []) line row s before after
IsAfterByte w taken byte line row s before after (Ended with) =
    length taken + 1 ≤ limit_of file.Trace → (rest : List ℕ)
    → StopsWith w (taken ++ byte ∷ rest) (length taken + 1) before after with

-- the last line of a report was written whole, or a part of it, or memory ran out before
pub data IsLastWritten (last : List ℕ) (with : Status) (before after : Option (List ℕ))
    : Status → Type 0 where
  written : after ≡ appended before last → IsLastWritten last with before after with
  cut : (part : List ℕ) → IsPrefix part last → after ≡ appended before part
      → IsLastWritten last with before after status.WriteFault
  unmade : after ≡ before → IsLastWritten last with before after status.OutOfMemory

-- the count of the output rose where an answer could not be written, and is as it was else; and a
-- line ends a call with no status that stands for other causes
abbrev pub IsCounted : Went → ℕ → ℕ → Type 0
IsCounted (Ended status.WriteFault) old new = Rose old new
IsCounted (Ended status.ReadFault) old new = ⊥
IsCounted (Ended status.Usage) old new = ⊥
IsCounted _ old new = new ≡ old

-- What is known of a recording between two bytes: so many were taken, the line is a part of
-- them, and what they came to for each specification of which the world spoke at first.
pub record IsReading {W : Type 0} (speaks : W → Spec → Type 0) (stack : W → Spec → Stack)
    (limit fired : W → ℕ) (setup : Spec → Setup) (world : W) (budget : ℕ)
    (told left : Option (List ℕ)) (count : ℕ) (before after : Option (List ℕ)) (r : Reading W)
    : Type 0 where
  pub taken : List ℕ
  pub size : length taken ≡ count
  pub front : TakesOff told taken left
  pub waiting : IsWaiting speaks stack limit fired setup r.recording
  pub speaks_on : (spec : Spec) → speaks world spec → speaks r.recording.watcher.world spec
  pub budget_is : r.recording.limits.budget ≡ budget
  pub one : HasNoFeed r.line.items
  pub short : length r.line.items ≤ count
  pub row_in : r.row ≤ count + 1
  pub far : (spec : Spec) → speaks world spec → IsSoFar (watch_of setup budget spec) taken
      r.line.items r.row (standing_of r.recording) before after
