-- What a call for a trace answers, and what it leaves.
use Rattle.std.specs.Prelude.{◌≡◌, ◌≢◌, ◌↔◌, ℕ, List, [], ◌∷◌, ◌++◌, String}
use Rattle.std.specs.Global.{Global}
use Rattle.call_files.specs.FaultCounts.{Rose, AllStay}
use Rattle.call_files.specs.Pieces.{SameTold}
use Rattle.call_files.specs.FileEnds.{End, reported, unread}
use Rattle.call_files.specs.Seen.{Seen, Sent}
use Rattle.call_files.specs.Requests.{bytes_of}
use Rattle.call_files.specs.declared.status.Status.{Status}
use Rattle.call_files.specs.declared.status.Status.TheVariants.{Usage, ReadFault, WriteFault}
use Rattle.est_tool.specs.Result.{Writes}
use Rattle.est_tool.specs.TraceEnds.{TraceEnds}
use Rattle.est_tool.specs.TraceWords.{AsksForTrace, AsksForNoTrace}

-- the words ask for a trace, and that ends so
abbrev pub TraceCallEnds : List (String Global) → Seen → End → Type 0
TraceCallEnds words shelf end =
    (specification : List ℕ) × (seed : ℕ) × (count : ℕ)
    × AsksForTrace (bytes_of words) specification seed count
    × TraceEnds shelf specification seed count end

-- the words ask for a trace, and that ends with this status and this text
abbrev pub TraceReports : List (String Global) → Seen → Status → List ℕ → Type 0
TraceReports words shelf status report = TraceCallEnds words shelf (reported status report)

-- the file of the specification, for which the words ask, is all that a call starts, and once
abbrev pub StartsItsFile : List (String Global) → Seen → Type 0
StartsItsFile words shelf =
    (specification : List ℕ) × (seed : ℕ) × (count : ℕ)
    × AsksForTrace (bytes_of words) specification seed count
    × (shelf.after.started ≡ shelf.before.started ++ specification ∷ [])

-- What a call does that ends with a status, by its words, and by what is seen of its file and of
-- its output.
pub record IsTraceResult
    (words : List (String Global)) (shelf : Seen) (output : Sent) (status : Status)
    : Type 0 where
  -- the words ask for no trace, and nothing else ends so
  pub usage : (status ≡ Usage) ↔ AsksForNoTrace words
  -- the file could not be read: its count of faults rose
  pub read_fault : status ≡ ReadFault → TraceCallEnds words shelf unread
  -- else no count of a file rose
  pub no_read_fault : status ≢ ReadFault → AllStay shelf.before.faults shelf.after.faults
  -- the count of the output rose
  pub write_fault : status ≡ WriteFault → Rose output.before.faults output.after.faults
  -- else it is as it was
  pub no_write_fault : status ≢ WriteFault → output.after.faults ≡ output.before.faults
  -- the trace is written, or the report of why there is none, whole unless a write failed
  pub written : Writes (TraceReports words shelf) status output.before.written
      output.after.written
  -- what the shelf holds stays
  pub told : SameTold shelf.before.told shelf.after.told
  -- nothing is started where the words ask for no trace
  pub idle : status ≡ Usage → shelf.after.started ≡ shelf.before.started
  -- else the file that they name, once
  pub started : status ≢ Usage → StartsItsFile words shelf
