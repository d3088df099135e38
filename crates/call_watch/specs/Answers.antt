-- What is answered to the lines of a trace that is read as it comes.
use Rattle.std.specs.Prelude.{◌≡◌, ◌≢◌, ℕ, ◌+◌, Bool, true, false, List, [], ◌∷◌, ◌++◌}
use Rattle.std.specs.Prelude.{codes, length}
use Rattle.std.specs.Fmt.{decimal}
use Rattle.est_syntax.specs.declared.ports.Port.{Port}
use Rattle.est_meaning.specs.declared.event.Event.{Event}
use Rattle.est_meaning.specs.Run.{Setup}
use Rattle.call_files.specs.ReportLines.{line_of}
use Rattle.call_files.specs.RefusalLines.{refusal_line}
use Rattle.call_files.specs.declared.file.File.TheVariants as file
use Rattle.call_files.specs.declared.status.Status.{Status}
use Rattle.call_files.specs.declared.status.Status.TheVariants as status
use Rattle.mean_watch.specs.declared.watched.Watched.{Watched}
use Rattle.mean_watch.specs.declared.watched.Watched.TheVariants.{Possible, Impossible}
use Rattle.mean_watch.specs.declared.watched.Watched.TheVariants.{OverFirings, OverAction}
use Rattle.mean_watch.specs.Watching.{IsWatched, IsFinished}
use Rattle.call_watch.specs.Lines.{Line, taken_by, IsSkipped, IsEndLine, HasEvents}
use Rattle.call_watch.specs.Lines.{IsRefusedLine, room_after}

-- what is watched: runs from a start that is ready, with the ports and the budget
pub record Watch : Type 0 where
  pub setup : Setup
  pub ports : List Port
  pub budget : ℕ

-- LINES OF THE REPORT

abbrev pub possible_line : ℕ → List ℕ
possible_line k = line_of (codes "possible " ++ decimal k)

abbrev pub over_limit_line : ℕ → ℕ → List ℕ
over_limit_line limit k =
    line_of (codes "over budget: limit " ++ decimal limit ++ codes " at event " ++ decimal k)

abbrev pub over_watch_line : ℕ → List ℕ
over_watch_line budget =
    line_of (codes "over budget: " ++ decimal budget ++ codes " firings tried")

-- the answer to event k
abbrev pub event_line : Watch → ℕ → Watched → List ℕ
event_line w k Possible = possible_line k
event_line w k Impossible = line_of (codes "refused at event " ++ decimal k)
event_line w k OverFirings = over_watch_line w.budget
event_line w k OverAction = over_limit_line w.setup.limit k

-- the answer at the end of so many events
abbrev pub finish_line : Watch → ℕ → Watched → List ℕ
finish_line w n Possible = line_of (codes "accepted: " ++ decimal n ++ codes " events")
finish_line w n Impossible =
    line_of (codes "refused at the end after " ++ decimal n ++ codes " events")
finish_line w n OverFirings = over_watch_line w.budget
finish_line w n OverAction = over_limit_line w.setup.limit (n + 1)

-- the status of an answer
abbrev pub watched_status : Watched → Status
watched_status Possible = status.Fine
watched_status Impossible = status.Refused
watched_status OverFirings = status.OverBudget
watched_status OverAction = status.OverBudget

-- HOW IT GOES ON

-- how far it has come: whether the first line with tokens is still awaited, and the events given
pub record Standing : Type 0 where
  pub first : Bool
  pub given : List Event

-- at the beginning
abbrev pub at_first : Standing
at_first = record { first = true; given = [] }

-- it goes on from here, or it has ended with this status
pub data Next : Type 0 where
  goes_on : Standing → Next
  ended : Status → Next

-- The answers to events that are given one after the other: each `possible` but the last, and the
-- last one too where it goes on.
pub data AreAnswered (w : Watch) : List Event → List Event → Next → List ℕ → Type 0 where
  all_given : (given : List Event)
      → AreAnswered w given [] (goes_on (record { first = false; given = given })) []
  one_given : (given events : List Event) (e : Event) (next : Next) (out : List ℕ)
      → IsWatched w.setup w.budget (given ++ e ∷ []) Possible
      → AreAnswered w (given ++ e ∷ []) events next out
      → AreAnswered w given (e ∷ events) next (possible_line (length given + 1) ++ out)
  one_ends : (given events : List Event) (e : Event) (answer : Watched)
      → answer ≢ Possible → IsWatched w.setup w.budget (given ++ e ∷ []) answer
      → AreAnswered w given (e ∷ events) (ended (watched_status answer))
      (event_line w (length given + 1) answer)

-- What is answered to the line of a row. A line that is not the first one with tokens may be `end`.
pub data IsLineAnswered (w : Watch) (row : ℕ) (s : Standing) (bytes : List ℕ)
    : Next → List ℕ → Type 0 where
  skipped : IsSkipped bytes → IsLineAnswered w row s bytes (goes_on s) []
  refused : (column : ℕ) (why : List ℕ) → (IsSkipped bytes → ⊥)
      → (s.first ≡ false → IsEndLine bytes → ⊥)
      → IsRefusedLine w.ports (room_after (length s.given)) s.first bytes column why
      → IsLineAnswered w row s bytes (ended status.BadTrace)
      (refusal_line file.Trace row column why)
  ends : (answer : Watched) → s.first ≡ false → IsEndLine bytes
      → IsFinished w.setup w.budget s.given answer
      → IsLineAnswered w row s bytes (ended (watched_status answer))
      (finish_line w (length s.given) answer)
  answered : (events : List Event) (next : Next) (out : List ℕ) → (IsSkipped bytes → ⊥)
      → HasEvents w.ports (room_after (length s.given)) s.first bytes events
      → AreAnswered w s.given events next out → IsLineAnswered w row s bytes next out

-- The answers to lines one after the other, from a row on: what comes next, how many bytes the lines
-- have that were answered, and what was written. No line after one that ends it is looked at.
pub data AreLinesAnswered (w : Watch) : ℕ → Standing → List Line → Next → ℕ → List ℕ → Type 0 where
  no_more : (row : ℕ) (s : Standing) → AreLinesAnswered w row s [] (goes_on s) 0 []
  line_on : (row : ℕ) (s t : Standing) (l : Line) (ls : List Line) (next : Next) (taken : ℕ)
      (here out : List ℕ) → IsLineAnswered w row s l.bytes (goes_on t) here
      → AreLinesAnswered w (row + 1) t ls next taken out
      → AreLinesAnswered w row s (l ∷ ls) next (taken_by l + taken) (here ++ out)
  line_ends : (row : ℕ) (s : Standing) (l : Line) (ls : List Line) (with : Status)
      (here : List ℕ) → IsLineAnswered w row s l.bytes (ended with) here
      → AreLinesAnswered w row s (l ∷ ls) (ended with) (taken_by l) here

-- a front part of the answers to a line: of all of them, or of those to its first events
pub data IsLineBegun (w : Watch) (row : ℕ) (s : Standing) (bytes : List ℕ)
    : List ℕ → Type 0 where
  of_all : (next : Next) (part left : List ℕ) → IsLineAnswered w row s bytes next (part ++ left)
      → IsLineBegun w row s bytes part
  of_first : (first rest : List Event) (next : Next) (part left : List ℕ)
      → HasEvents w.ports (room_after (length s.given)) s.first bytes (first ++ rest)
      → AreAnswered w s.given first next (part ++ left) → IsLineBegun w row s bytes part
