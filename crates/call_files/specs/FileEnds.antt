-- How a call ends at a file, and what a file holds.
use Rattle.std.specs.Prelude.{◌≡◌, ℕ, ◌+◌, ◌<◌, List, length, IfSome}
use Rattle.call_files.specs.FaultCounts.{Rose}
use Rattle.est_syntax.specs.declared.specification.Spec.{Spec}
use Rattle.est_meaning.specs.RecordedTraces.{Recorded}
use Rattle.est_explanation.specs.declared.explanation.Explanation.{Explanation}
use Rattle.mean_ports.specs.declared.lists.PortLists.{PortLists}
use Rattle.call_files.specs.declared.file.File.{File}
use Rattle.call_files.specs.declared.file.File.TheVariants as file
use Rattle.call_files.specs.declared.status.Status.{Status}
use Rattle.call_files.specs.declared.status.Status.TheVariants.{TooLong}
use Rattle.call_files.specs.Files.{limit_of}
use Rattle.call_files.specs.RefusalLines.{too_long_line}
use Rattle.call_files.specs.Seen.{Seen}
use Rattle.call_files.specs.FileTexts.{IsText, Holds, OfSpecification, OfTrace, OfLists}
use Rattle.call_files.specs.FileTexts.{OfExplanation, Refusals, IsReported}

-- an end of a call: a status with a report, or a file that could not be read
pub data End : Type 0 where
  reported : Status → List ℕ → End
  unread : End

-- the file is longer than its limit; of one that is untold, a byte more than the limit was taken
pub record IsTooLong
    (shelf : Seen) (file : File) (name : List ℕ) (status : Status) (report : List ℕ)
    : Type 0 where
  pub longer : IfSome (shelf.before.told name) (λ bytes. limit_of file < length bytes)
  pub taken : shelf.after.taken ≡ limit_of file + 1
  pub status_is : status ≡ TooLong
  pub report_is : report ≡ too_long_line file

-- a call ends at a file: it is too long, its text is refused, or its count of faults rose
pub data EndsAt (shelf : Seen) (file : File) (name : List ℕ) (Refuses : Refusals)
    : End → Type 0 where
  longer : (status : Status) (report : List ℕ) → IsTooLong shelf file name status report
      → EndsAt shelf file name Refuses (reported status report)
  refused : (status : Status) (report : List ℕ)
      → Holds file (shelf.before.told name) (IsReported file Refuses status report)
      → EndsAt shelf file name Refuses (reported status report)
  failed : Rose (shelf.before.faults name) (shelf.after.faults name)
      → EndsAt shelf file name Refuses unread

-- a call ends at a text that it takes as a file's: it is too long, or refused
pub data EndsAtText (file : File) (text : List ℕ) (Refuses : Refusals) : End → Type 0 where
  text_longer : limit_of file < length text
      → EndsAtText file text Refuses (reported TooLong (too_long_line file))
  text_refused : (status : Status) (report : List ℕ)
      → IsText file text (IsReported file Refuses status report)
      → EndsAtText file text Refuses (reported status report)

-- the file of this name holds the text of this specification, which breaks no rule
abbrev pub HoldsSpecification : Seen → List ℕ → Spec → Type 0
HoldsSpecification shelf name spec =
    Holds file.Specification (shelf.before.told name) (OfSpecification spec)

-- the file holds the text of this trace of a specification, and of no other
abbrev pub HoldsTrace : Seen → List ℕ → Spec → Recorded → Type 0
HoldsTrace shelf name spec trace = Holds file.Trace (shelf.before.told name) (OfTrace spec trace)

-- the file, which is that of a trace, holds the text of these lists, and of no others
abbrev pub HoldsLists : Seen → List ℕ → Spec → PortLists → Type 0
HoldsLists shelf name spec lists = Holds file.Trace (shelf.before.told name) (OfLists spec lists)

-- the file holds the text of this explanation, and of no other
abbrev pub HoldsExplanation : Seen → List ℕ → Explanation → Type 0
HoldsExplanation shelf name explanation =
    Holds file.Explanation (shelf.before.told name) (OfExplanation explanation)
