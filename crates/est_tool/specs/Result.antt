-- What a call answers, and what it leaves.
use Rattle.std.specs.Prelude.{◌≡◌, ◌≢◌, ◌↔◌, ℕ, List, ◌++◌, Option, String}
use Rattle.std.specs.Global.{Global}
use Rattle.call_files.specs.FaultCounts.{Rose, AllStay}
use Rattle.call_files.specs.Pieces.{SameTold, appended, IsPrefix}
use Rattle.call_files.specs.declared.status.Status.{Status}
use Rattle.call_files.specs.declared.status.Status.TheVariants.{Usage, ReadFault}
use Rattle.call_files.specs.declared.status.Status.TheVariants.{WriteFault, OutOfMemory}
use Rattle.call_files.specs.Seen.{Seen, Sent}
use Rattle.call_files.specs.FileEnds.{End, reported, unread}
use Rattle.est_tool.specs.Ends.{Ends}
use Rattle.est_tool.specs.Started.{Starts}
use Rattle.call_files.specs.Requests.{Request, watch, Asks, AsksNothing, bytes_of}
use Rattle.est_tool.specs.WatchEnds.{WatchDoes}

-- the words ask for something, and that ends so
abbrev pub CallEnds : List (String Global) → Seen → End → Type 0
CallEnds words shelf end =
    (request : Request) × Asks (bytes_of words) request × Ends shelf request end

-- the words ask for something, and that ends with this status and this report
abbrev pub Reports : List (String Global) → Seen → Status → List ℕ → Type 0
Reports words shelf status report = CallEnds words shelf (reported status report)

-- What a call writes that ends with a status: nothing where the words, a read or memory failed, a
-- front part of its report where a write failed, and else the report.
abbrev pub Writes : (Status → List ℕ → Type 0) → Status → Option (List ℕ) → Option (List ℕ) → Type 0
Writes Gives Usage before after = after ≡ before
Writes Gives ReadFault before after = after ≡ before
Writes Gives OutOfMemory before after = after ≡ before
Writes Gives WriteFault before after = (status : Status) × (report : List ℕ) × Gives status report
    × (part : List ℕ) × IsPrefix part report × (after ≡ appended before part)
Writes Gives status before after =
    (report : List ℕ) × Gives status report × (after ≡ appended before report)

-- The files that a call starts are the first ones of those that its words ask for, in their order,
-- and a file is started only where those before it are good. Each is started once; a name that
-- stands for two files is started for each of them.
abbrev pub StartsItsFiles : List (String Global) → Seen → Type 0
StartsItsFiles words shelf = (request : Request) × Asks (bytes_of words) request
    × (names : List (List ℕ)) × Starts shelf request names
    × (shelf.after.started ≡ shelf.before.started ++ names)

-- the words ask to watch
abbrev pub AsksForWatch : List (String Global) → List ℕ → ℕ → ℕ → ℕ → Type 0
AsksForWatch words specification silent budget statements =
    Asks (bytes_of words) (watch specification silent budget statements)

-- they do not
abbrev pub AsksForNoWatch : List (String Global) → Type 0
AsksForNoWatch words = (specification : List ℕ) (silent budget statements : ℕ)
    → AsksForWatch words specification silent budget statements → ⊥

-- What a call does that ends with a status, by its words, by what is seen of its files, of the last
-- of which bytes were asked for so often, and by what is seen of its output.
pub record IsResult
    (words : List (String Global)) (shelf : Seen) (asked : ℕ) (output : Sent) (status : Status)
    : Type 0 where
  -- the words ask for nothing that the program does, and nothing else ends so
  pub usage : (status ≡ Usage) ↔ AsksNothing words
  -- a file that the words ask for could not be read: its count of faults rose, and no refusal comes
  -- before it
  pub read_fault : status ≡ ReadFault → CallEnds words shelf unread
  -- else no count of a file rose
  pub no_read_fault : status ≢ ReadFault → AllStay shelf.before.faults shelf.after.faults
  -- the count of the output rose
  pub write_fault : status ≡ WriteFault → Rose output.before.faults output.after.faults
  -- else it is as it was
  pub no_write_fault : status ≢ WriteFault → output.after.faults ≡ output.before.faults
  -- one report is written, whole unless a write failed
  pub written : AsksForNoWatch words
      → Writes (Reports words shelf) status output.before.written output.after.written
  -- and where they ask to watch, each answer by itself
  pub watched : (specification : List ℕ) (silent budget statements : ℕ)
      → AsksForWatch words specification silent budget statements
      → WatchDoes shelf asked specification silent budget statements
      output.before.written output.after.written status
  -- what the shelf holds stays
  pub told : SameTold shelf.before.told shelf.after.told
  -- nothing is started where the words ask for nothing that the program does
  pub idle : status ≡ Usage → shelf.after.started ≡ shelf.before.started
  -- else files that they name, in their order, each once, where those before it are good
  pub started : status ≢ Usage → StartsItsFiles words shelf
