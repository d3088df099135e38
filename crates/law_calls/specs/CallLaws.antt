-- Laws of calls.
use Rattle.std.specs.Prelude.{◌≡◌, ℕ, List, Some}
use Rattle.call_files.specs.declared.status.Status.{Status}
use Rattle.call_files.specs.Seen.{Seen}
use Rattle.call_files.specs.FileEnds.{reported}
use Rattle.est_tool.specs.Ends.{Ends}
use Rattle.call_files.specs.Requests.{Request, check, print, explain, replay, selfrun, ports}
use Rattle.call_files.specs.Requests.{watch, Asks}

-- two shelves tell a file, and tell the same bytes of it
abbrev pub TellAlike : Seen → Seen → List ℕ → Type 0
TellAlike shelf shelf' name =
    (bytes : List ℕ) × (shelf.before.told name ≡ Some bytes)
    × (shelf'.before.told name ≡ Some bytes)

-- two shelves tell each file that is asked for, and tell the same bytes of it
abbrev pub TellFilesAlike : Seen → Seen → Request → Type 0
TellFilesAlike shelf shelf' (check specification) = TellAlike shelf shelf' specification
TellFilesAlike shelf shelf' (print specification) = TellAlike shelf shelf' specification
TellFilesAlike shelf shelf' (explain specification trace silent budget statements) =
    TellAlike shelf shelf' specification × TellAlike shelf shelf' trace
TellFilesAlike shelf shelf' (replay specification trace explanation silent statements) =
    TellAlike shelf shelf' specification × TellAlike shelf shelf' trace
    × TellAlike shelf shelf' explanation
TellFilesAlike shelf shelf' (selfrun specification seed count) =
    TellAlike shelf shelf' specification
TellFilesAlike shelf shelf' (ports specification lists silent budget statements) =
    TellAlike shelf shelf' specification × TellAlike shelf shelf' lists
TellFilesAlike shelf shelf' (watch specification silent budget statements) =
    TellAlike shelf shelf' specification

-- One report is right. Of several merges `ports` may report any, and `watch` writes an answer to each
-- event.
abbrev pub HasOneReport : Request → Type 0
HasOneReport (watch specification silent budget statements) = ⊥
HasOneReport (ports specification lists silent budget statements) = ⊥
HasOneReport _ = Unit {0}

-- Two calls that ask for the same, of which one report is right, and are told the same bytes of their
-- files, have the same status and report, where both end with a report.
abbrev pub OneResult : Type 0
OneResult =
    (shelf shelf' : Seen) (request : Request) (status status' : Status) (report report' : List ℕ)
    → HasOneReport request → TellFilesAlike shelf shelf' request
    → Ends shelf request (reported status report)
    → Ends shelf' request (reported status' report') → (status ≡ status') × (report ≡ report')

-- Words ask for one thing at most.
abbrev pub OneRequest : Type 0
OneRequest =
    (words : List (List ℕ)) (one other : Request) → Asks words one → Asks words other → one ≡ other
