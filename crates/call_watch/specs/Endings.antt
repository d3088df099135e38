-- How a call ends that watches a text, and what it has written and taken by then. The text is spoken
-- of as a whole, and never of pieces in which it comes.
use Rattle.std.specs.Prelude.{◌≡◌, ℕ, ◌+◌, ◌<◌, ◌≤◌, ◌⊎◌, List, ◌∷◌, ◌++◌, Option, Some}
use Rattle.std.specs.Prelude.{None, codes, length, take}
use Rattle.call_files.specs.FaultCounts.{Rose}
use Rattle.call_files.specs.Files.{limit_of}
use Rattle.call_files.specs.Pieces.{appended, IsPrefix}
use Rattle.call_files.specs.RefusalLines.{refusal_line, too_long_line}
use Rattle.call_files.specs.Seen.{Seen}
use Rattle.call_files.specs.declared.file.File.TheVariants as file
use Rattle.call_files.specs.declared.status.Status.{Status}
use Rattle.call_files.specs.declared.status.Status.TheVariants as status
use Rattle.call_watch.specs.Lines.{Line, AreLines, AreWholeLines, taken_by}
use Rattle.call_watch.specs.Answers.{Watch, Standing, at_first, goes_on, ended}
use Rattle.call_watch.specs.Answers.{AreLinesAnswered, IsLineBegun}

-- the name of the text: that of standard input
abbrev pub standard_input : List ℕ
standard_input = codes "-"

-- these lines are answered, and none of them ends it: how far it has come, and what was written
abbrev pub GoOn : Watch → List Line → Standing → List ℕ → Type 0
GoOn w lines s out = (taken : ℕ) × AreLinesAnswered w 1 at_first lines (goes_on s) taken out

-- THE REPORT OF A WHOLE TEXT
--
-- The status, what is written, and how many bytes are taken.
pub data IsWatchEnd (w : Watch) (text : List ℕ) : Status → List ℕ → ℕ → Type 0 where
  -- a line ends it, within the bytes that may be taken
  at_line : (lines : List Line) (with : Status) (out : List ℕ) (taken : ℕ) → AreLines text lines
      → AreLinesAnswered w 1 at_first lines (ended with) taken out → taken ≤ limit_of file.Trace
      → IsWatchEnd w text with out taken
  -- all lines go on: the refusal stands at the line after the last one
  without_end : (lines : List Line) (s : Standing) (out : List ℕ) → AreLines text lines
      → GoOn w lines s out → length text ≤ limit_of file.Trace
      → IsWatchEnd w text status.BadTrace
      (out ++ refusal_line file.Trace (length lines + 1) 1 (codes "bad token")) (length text)
  -- one byte more was taken than may be, and the line that holds it is not looked at
  too_long : (lines : List Line) (s : Standing) (out : List ℕ)
      → limit_of file.Trace < length text → AreWholeLines (take (limit_of file.Trace) text) lines
      → GoOn w lines s out
      → IsWatchEnd w text status.TooLong (out ++ too_long_line file.Trace)
      (limit_of file.Trace + 1)

-- WHERE A CALL FAILS ON THE WAY

-- The watched bytes that were taken when a read failed: exactly the answers to all whole lines among
-- them were written, and none of these lines ends the call.
pub record IsUnreadEnd (w : Watch) (taken out : List ℕ) : Type 0 where
  pub lines : List Line
  pub whole : AreWholeLines taken lines
  pub standing : Standing
  pub answered : GoOn w lines standing out

-- The answers to a line were broken off: all those to the lines before are written, and a front part
-- of those to this line. No byte behind it was taken.
pub record IsCutAtLine (w : Watch) (text out : List ℕ) (taken : ℕ) : Type 0 where
  pub lines : List Line
  pub last : Line
  pub rest : List Line
  pub text_is : AreLines text (lines ++ last ∷ rest)
  pub standing : Standing
  pub before : List ℕ
  pub bytes : ℕ
  pub answered : AreLinesAnswered w 1 at_first lines (goes_on standing) bytes before
  pub taken_is : taken ≡ bytes + taken_by last
  pub within : taken ≤ limit_of file.Trace
  pub part : List ℕ
  pub begun : IsLineBegun w (length lines + 1) standing last.bytes part
  pub out_is : out ≡ before ++ part

-- The last line of the report, which answers no line, could not be written whole: that there is no
-- `end`, or that the text is too long.
pub data IsCutAtEnd (w : Watch) (text : List ℕ) : List ℕ → ℕ → Type 0 where
  cut_without_end : (lines : List Line) (s : Standing) (before part : List ℕ) → AreLines text lines
      → GoOn w lines s before → length text ≤ limit_of file.Trace
      → IsPrefix part (refusal_line file.Trace (length lines + 1) 1 (codes "bad token"))
      → IsCutAtEnd w text (before ++ part) (length text)
  cut_too_long : (lines : List Line) (s : Standing) (before part : List ℕ)
      → limit_of file.Trace < length text → AreWholeLines (take (limit_of file.Trace) text) lines
      → GoOn w lines s before → IsPrefix part (too_long_line file.Trace)
      → IsCutAtEnd w text (before ++ part) (limit_of file.Trace + 1)

-- the lines that are closed among the bytes taken: by their line feeds, or by the end of the text
abbrev pub AreClosed : List ℕ → ℕ → List Line → Type 0
AreClosed text taken lines =
    AreWholeLines (take taken text) lines ⊎ (AreLines text lines × (taken ≡ length text))

-- memory ran out
pub data IsSpentEnd (w : Watch) (text : List ℕ) (taken : ℕ) : List ℕ → Type 0 where
  -- all closed lines are answered but the last one at most, to which nothing was written
  between_lines : (lines last : List Line) (s : Standing) (bytes : ℕ) (out : List ℕ)
      → AreClosed text taken (lines ++ last) → length last ≤ 1
      → AreLinesAnswered w 1 at_first lines (goes_on s) bytes out
      → bytes ≤ limit_of file.Trace → taken ≤ limit_of file.Trace + 1
      → IsSpentEnd w text taken out
  -- a front part of the answers to the last line is written
  within_line : (out : List ℕ) → IsCutAtLine w text out taken → IsSpentEnd w text taken out

-- WHAT A CALL DOES

-- the text that is told, or some text where none is
abbrev pub IsTold : Option (List ℕ) → List ℕ → Type 0
IsTold (Some told) text = told ≡ text
IsTold None text = Unit {0}

-- What a call does that watches the text from its first byte on, and ends with a status: what is
-- written before and after, and how much of the text it has taken. Each answer is written by itself.
pub data Watches (w : Watch) (shelf : Seen) (before after : Option (List ℕ)) : Status → Type 0 where
  answers : (text out : List ℕ) (with : Status) → IsTold (shelf.before.told standard_input) text
      → IsWatchEnd w text with out shelf.after.taken → after ≡ appended before out
      → Watches w shelf before after with
  cannot_read : (text out : List ℕ) → IsTold (shelf.before.told standard_input) text
      → Rose (shelf.before.faults standard_input) (shelf.after.faults standard_input)
      → shelf.after.taken ≤ limit_of file.Trace
      → IsUnreadEnd w (take shelf.after.taken text) out → after ≡ appended before out
      → Watches w shelf before after status.ReadFault
  cannot_write : (text out : List ℕ) → IsTold (shelf.before.told standard_input) text
      → IsCutAtLine w text out shelf.after.taken ⊎ IsCutAtEnd w text out shelf.after.taken
      → after ≡ appended before out → Watches w shelf before after status.WriteFault
  spent : (text out : List ℕ) → IsTold (shelf.before.told standard_input) text
      → IsSpentEnd w text shelf.after.taken out → after ≡ appended before out
      → Watches w shelf before after status.OutOfMemory

-- one byte was asked for at a time: each call gave one, but the last may have found the end or failed
abbrev pub IsBytewise : ℕ → ℕ → Type 0
IsBytewise asked taken = (asked ≡ taken) ⊎ (asked ≡ taken + 1)
