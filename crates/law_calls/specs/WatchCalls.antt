-- Laws of calls that watch a trace as it comes.
use Rattle.std.specs.Prelude.{◌≡◌, ◌≢◌, ℕ, ◌≤◌, List, ◌∷◌, ◌++◌, false, String, length}
use Rattle.std.specs.Global.{Global}
use Rattle.est_syntax.specs.declared.ports.Port.{Port}
use Rattle.rule_declares.specs.PortList.{ports_of}
use Rattle.est_meaning.specs.declared.event.Event.{Event}
use Rattle.est_meaning.specs.RecordedTraces.{known_trace}
use Rattle.est_meaning.specs.Run.{Setup, IsBegun}
use Rattle.call_files.specs.FaultCounts.{Rose}
use Rattle.call_files.specs.declared.file.File.TheVariants as file
use Rattle.call_files.specs.declared.status.Status.{Status}
use Rattle.call_files.specs.declared.status.Status.TheVariants.{OutOfMemory}
use Rattle.call_files.specs.Files.{limit_of}
use Rattle.call_files.specs.FileEnds.{HoldsSpecification}
use Rattle.call_files.specs.Seen.{Seen, Sent}
use Rattle.call_watch.specs.Answers.{Standing, at_first}
use Rattle.call_watch.specs.Endings.{standard_input}
use Rattle.call_watch.specs.Lines.{Line, AreLines, IsSkipped, IsEndLine, HasEvents, room_after}
use Rattle.est_tool.specs.Result.{IsResult, AsksForWatch}
use Rattle.law_calls.specs.Completeness.{IsToldWell, IsJudged, IsWithinLimits, Decides, IsSearchOf}

-- THE TEXT

-- a line is `end` alone, and some line with tokens stands before it
pub record IsLast (s : Standing) (bytes : List ℕ) : Type 0 where
  pub later : s.first ≡ false
  pub is_end : IsEndLine bytes

-- a line that is not skipped has these whole events
pub record Brings (ports : List Port) (s : Standing) (bytes : List ℕ) (events : List Event)
    : Type 0 where
  pub unskipped : IsSkipped bytes → ⊥
  pub has : HasEvents ports (room_after (length s.given)) s.first bytes events

-- Lines that are skipped or bring whole events, up to one that is `end`: with what was given
-- already they bring these events. What stands after it is not looked at.
pub data AreGoodLines (ports : List Port) : Standing → List Line → List Event → Type 0 where
  line_skipped : (s : Standing) (l : Line) (ls : List Line) (events : List Event)
      → IsSkipped l.bytes → AreGoodLines ports s ls events → AreGoodLines ports s (l ∷ ls) events
  line_brings : (s : Standing) (l : Line) (ls : List Line) (here events : List Event)
      → Brings ports s l.bytes here
      → AreGoodLines ports (record { first = false; given = s.given ++ here }) ls events
      → AreGoodLines ports s (l ∷ ls) events
  line_last : (s : Standing) (l : Line) (ls : List Line) → IsLast s l.bytes
      → AreGoodLines ports s (l ∷ ls) s.given

-- the text is within its limit, and its lines are a good trace of these events to its end
pub record IsGoodTrace (ports : List Port) (text : List ℕ) (events : List Event) : Type 0 where
  pub short : length text ≤ limit_of file.Trace
  pub lines : List Line
  pub lines_are : AreLines text lines
  pub good : AreGoodLines ports at_first lines events

-- COMPLETENESS

-- The words ask to watch the runs of the setup within this budget: the file of the specification
-- and standard input are told, they hold the specification and the trace, the start is ready, and
-- no count rose.
pub record IsWatchFor (words : List (String Global)) (shelf : Seen) (output : Sent) (budget : ℕ)
    (c : Setup) : Type 0 where
  pub specification : List ℕ
  pub events : List Event
  pub asked : AsksForWatch words specification c.silent budget c.limit
  pub specification_told : IsToldWell shelf specification
  pub text_told : IsToldWell shelf standard_input
  pub written : Rose output.before.faults output.after.faults → ⊥
  pub good : HoldsSpecification shelf specification c.spec
  pub traced : IsGoodTrace (ports_of c.spec) text_told.bytes events
  pub trace_is : c.trace ≡ known_trace events
  pub begun : IsBegun c

-- A watch is complete: of good texts whose start is ready it ends with the status of an answer,
-- unless memory runs out; and where the limits suffice, this is whether a run explains the trace.
pub record WatchIsComplete : Type 0 where
  pub judged : (words : List (String Global)) (shelf : Seen) (asked : ℕ) (output : Sent)
      (status : Status) (budget : ℕ) (c : Setup) → IsWatchFor words shelf output budget c
      → IsResult words shelf asked output status → IsJudged status
  pub decided : (words : List (String Global)) (shelf : Seen) (asked : ℕ) (output : Sent)
      (status : Status) (budget : ℕ) (c : Setup) → IsWatchFor words shelf output budget c
      → IsResult words shelf asked output status → IsWithinLimits c budget → status ≢ OutOfMemory
      → Decides c status

-- A watch of a trace and a search for a run along it, of one specification and with the same limits
-- but for their budgets, which suffice, end with the same status: that of a trace that is accepted,
-- or refused.
abbrev pub WatchAgreesWithExplain : Type 0
WatchAgreesWithExplain =
    (words words' : List (String Global)) (shelf shelf' : Seen) (asked asked' : ℕ)
    (output output' : Sent) (status status' : Status) (budget budget' : ℕ) (c : Setup)
    → IsWatchFor words shelf output budget c → IsSearchOf words' shelf' output' budget' c
    → IsResult words shelf asked output status → IsResult words' shelf' asked' output' status'
    → IsWithinLimits c budget → IsWithinLimits c budget' → status ≢ OutOfMemory
    → status' ≢ OutOfMemory → status ≡ status'
