-- What a function answers that does what the words ask for, or what is left of it.
use Rattle.std.specs.Prelude.{◌≡◌, ℕ, List, [], ◌++◌, length, Result, Ok, Err, String}
use Rattle.std.specs.Global.{Global}
use Rattle.call_files.specs.Pieces.{SameTold}
use Rattle.call_files.specs.declared.report.Report.{Report}
use Rattle.call_files.specs.declared.stop.Stop.{Stop}
use Rattle.call_files.specs.declared.stop.Stop.TheVariants.{OutOfMemory}
use Rattle.call_files.specs.declared.status.Status.{Status}
use Rattle.call_files.specs.declared.status.Status.TheVariants.{Fine, OverBudget, NoStart}
use Rattle.est_syntax.specs.declared.specification.Spec.{Spec}
use Rattle.est_syntax.specs.declared.ports.Port.{Port}
use Rattle.est_meaning.specs.rule_declares.PortList.{ports_of}
use Rattle.est_meaning.specs.RecordedTraces.{Recorded}
use Rattle.call_files.specs.est_explanation.Replay.{IsReplay}
use Rattle.call_files.specs.est_explanation.declared.explanation.Explanation.{Explanation}
use Rattle.call_files.specs.est_explanation.declared.verdict.Replayed.{Replayed}
use Rattle.call_files.specs.ReadableReports.{IsReadable}
use Rattle.est_tool.specs.ReplayReports.{replay_line}
use Rattle.call_files.specs.SearchReports.{no_start_line, over_start_line, verdict_report}
use Rattle.est_tool.specs.ReplayReports.{replay_status}
use Rattle.call_files.specs.SearchReports.{verdict_status}
use Rattle.call_files.specs.Seen.{Seen}
use Rattle.call_files.specs.FileEnds.{End, reported}
use Rattle.est_tool.specs.Ends.{Ends}
use Rattle.est_tool.specs.Started.{Starts}
use Rattle.call_files.specs.Requests.{Request, watch, Asks, bytes_of}
use Rattle.call_files.specs.declared.words.Command.{Command}
use Rattle.call_files.specs.declared.words.Command.TheVariants.{Watch}
use Rattle.est_meaning.specs.declared.run.Limits.{Limits}
use Rattle.est_tool.specs.declared.search.Searched.{Searched}
use Rattle.est_tool.specs.declared.search.Searched.TheVariants as searched
use Rattle.call_files.specs.Reads.{IsStop, IsQuiet}
use Rattle.est_tool.specs.inside.Searching.{IsSearched, IsPortsSearched}
use Rattle.est_tool.specs.declared.search.PortsSearched.{PortsSearched}
use Rattle.est_tool.specs.declared.search.PortsSearched.TheVariants as ports_searched
use Rattle.mean_ports.specs.declared.lists.PortLists.{PortLists}
use Rattle.call_files.specs.PortReports.{IsReadablePorts, ports_report, ports_status}

-- a command ends with a report, or stops before
abbrev pub IsMade : (End → Type 0) → Result Report Stop → Type 0
IsMade P (Ok report) = P (reported report.status report.text.items)
IsMade P (Err stop) = IsStop P stop

-- this holds of the report that is made, unless memory ran out
abbrev pub Gives : (Status → List ℕ → Type 0) → Result Report Stop → Type 0
Gives P (Ok report) = P report.status report.text.items
Gives P (Err stop) = stop ≡ OutOfMemory

-- this status, and this report
abbrev pub IsReport : Status → List ℕ → Status → List ℕ → Type 0
IsReport status report status' report' = (status' ≡ status) × (report' ≡ report)

-- the report of a good specification, of which it says this
abbrev pub IsFine : (Spec → List ℕ → Type 0) → Spec → Status → List ℕ → Type 0
IsFine Says spec status report = (status ≡ Fine) × Says spec report

-- the report of a replay within limits, by the one answer
abbrev pub IsAnswered : ℕ → ℕ → Spec → Recorded → Explanation → Status → List ℕ → Type 0
IsAnswered silent statements spec trace read status report =
    (answer : Replayed) × IsReplay statements silent spec trace read.moves read.claim answer
    × (status ≡ replay_status answer) × (report ≡ replay_line (length trace.events) answer)

-- the report of what came of a search on a trace of so many events, within this limit of statements
abbrev pub Tells : ℕ → ℕ → Searched → Status → List ℕ → Type 0
Tells limit events (searched.Found verdict) status report =
    (status ≡ verdict_status verdict) × (report ≡ verdict_report limit events verdict)
    × IsReadable limit events verdict
Tells limit events (searched.Fault fault) status report =
    IsReport NoStart (no_start_line fault) status report
Tells limit events searched.Limit status report =
    IsReport OverBudget (over_start_line limit) status report

-- the report of a search within limits, by the one thing that came of it
abbrev pub IsExplained : Limits → Spec → Recorded → Status → List ℕ → Type 0
IsExplained limits spec trace status report =
    (found : Searched) × IsSearched limits spec trace found
    × Tells limits.statements (length trace.events) found status report

-- the report of what came of a search along one trace for each port, at these ports and within this
-- limit of statements
abbrev pub TellsPorts : List Port → ℕ → PortsSearched → Status → List ℕ → Type 0
TellsPorts ports limit (ports_searched.Found verdict) status report =
    (status ≡ ports_status verdict) × (report ≡ ports_report ports limit verdict)
    × IsReadablePorts limit verdict
TellsPorts ports limit (ports_searched.Fault fault) status report =
    IsReport NoStart (no_start_line fault) status report
TellsPorts ports limit ports_searched.Limit status report =
    IsReport OverBudget (over_start_line limit) status report

-- the report of such a search within limits, by a thing that may come of it
abbrev pub IsMergedSo : Limits → Spec → PortLists → Status → List ℕ → Type 0
IsMergedSo limits spec lists status report =
    (found : PortsSearched) × IsPortsSearched limits spec lists found
    × TellsPorts (ports_of spec) limits.statements found status report

-- the work of a request is done, of which these files were started before
pub record IsWork
    (done : List (List ℕ)) (request : Request) (shelf : Seen) (result : Result Report Stop)
    : Type 0 where
  pub told : SameTold shelf.before.told shelf.after.told
  pub quiet : IsQuiet shelf result
  pub names : List (List ℕ)
  pub started : shelf.after.started ≡ shelf.before.started ++ names
  pub starts : Starts shelf request (done ++ names)
  pub ends : IsMade (Ends shelf request) result

-- one report is made of what is asked for: of all but to watch
abbrev pub MakesReport : Request → Type 0
MakesReport (watch specification silent budget statements) = ⊥
MakesReport _ = Unit {0}

-- one report is made of the command
abbrev pub HasReportMade : Command → Type 0
HasReportMade (Watch limits) = ⊥
HasReportMade _ = Unit {0}

-- the words ask for something, of which one report is made, and that is done
pub record IsObeyed
    (words : List (String Global)) (shelf : Seen) (result : Result Report Stop) : Type 0 where
  pub request : Request
  pub makes : MakesReport request
  pub asked : Asks (bytes_of words) request
  pub work : IsWork [] request shelf result
