-- What `explain` reports, `replay` confirms.
use Rattle.std.specs.Prelude.{◌≡◌, ℕ, ◌+◌, ◌≤◌, ◌⊎◌, List, ◌++◌, Option, Some, length}
use Rattle.call_files.specs.declared.file.File.TheVariants as file
use Rattle.call_files.specs.declared.status.Status.{Status}
use Rattle.call_files.specs.declared.status.Status.TheVariants.{Fine, Refused, OverBudget}
use Rattle.est_meaning.specs.declared.firing.Firing.{Firing}
use Rattle.call_files.specs.Files.{limit_of}
use Rattle.est_tool.specs.ReplayReports.{first_line, all_line}
use Rattle.call_files.specs.SearchReports.{accepted_line, refused_line, over_action_line}
use Rattle.call_files.specs.SearchReports.{over_firings_line, over_start_line}
use Rattle.call_files.specs.Seen.{Seen}
use Rattle.call_files.specs.FileEnds.{reported}
use Rattle.est_tool.specs.Ends.{Ends}
use Rattle.call_files.specs.Requests.{explain, replay, most_budget}
use Rattle.law_calls.specs.CallLaws.{TellAlike}

-- Two calls: a search ends with this status and this report, and a replay of this report as an
-- explanation, of the same bytes of specification and trace and with the same limits, ends with
-- that status and that report. The budget is one that words can ask for, or else the first report
-- is within the limit of an explanation.
pub record IsFedBack (status : Status) (report : List ℕ) (status' : Status) (report' : List ℕ)
    : Type 0 where
  pub shelf : Seen
  pub shelf' : Seen
  pub specification : List ℕ
  pub trace : List ℕ
  pub explanation : List ℕ
  pub silent : ℕ
  pub budget : ℕ
  pub statements : ℕ
  pub same_specification : TellAlike shelf shelf' specification
  pub same_trace : TellAlike shelf shelf' trace
  pub fed : shelf'.before.told explanation ≡ Some report
  pub within : (budget ≤ most_budget) ⊎ (length report ≤ limit_of file.Explanation)
  pub search : Ends shelf (explain specification trace silent budget statements)
      (reported status report)
  pub replayed : Ends shelf' (replay specification trace explanation silent statements)
      (reported status' report')

-- a report begins with this line
abbrev pub BeginsWith : List ℕ → List ℕ → Type 0
BeginsWith line report = (rest : List ℕ) × (report ≡ line ++ rest)

-- a trace of so many events was accepted, and all of them are confirmed
pub record IsConfirmedWhole (report : List ℕ) (status' : Status) (report' : List ℕ)
    : Type 0 where
  pub events : ℕ
  pub accepted : BeginsWith (accepted_line events) report
  pub fine : status' ≡ Fine
  pub confirmed : report' ≡ all_line events

-- one was refused at an event, and all before it are confirmed
pub record IsConfirmedBefore (report : List ℕ) (status' : Status) (report' : List ℕ)
    : Type 0 where
  pub events : ℕ
  pub claim : ℕ
  pub refused : BeginsWith (refused_line (claim + 1) events) report
  pub fine : status' ≡ Fine
  pub confirmed : report' ≡ first_line claim events

-- A block or a guard passed the limit of statements after some moves, and the events that these
-- yield are confirmed. Else the report is one line that is no explanation: so many firings were
-- tried, or the start passed the limit.
pub data IsConfirmedSoFar (report : List ℕ) (status' : Status) (report' : List ℕ) : Type 0 where
  action : (limit events claim : ℕ) (firing : Option Firing)
      → BeginsWith (over_action_line limit firing) report → status' ≡ Fine
      → report' ≡ first_line claim events → IsConfirmedSoFar report status' report'
  firings : (tried : ℕ) → report ≡ over_firings_line tried
      → IsConfirmedSoFar report status' report'
  start : (limit : ℕ) → report ≡ over_start_line limit → IsConfirmedSoFar report status' report'

-- What a search reports of a trace that it accepts or refuses is confirmed: all events, or all
-- before the refused one. So is what it reports where something passes the limit of statements.
pub record ExplainedIsConfirmed : Type 0 where
  pub accepted : (report : List ℕ) (status' : Status) (report' : List ℕ)
      → IsFedBack Fine report status' report' → IsConfirmedWhole report status' report'
  pub refused : (report : List ℕ) (status' : Status) (report' : List ℕ)
      → IsFedBack Refused report status' report' → IsConfirmedBefore report status' report'
  pub over : (report : List ℕ) (status' : Status) (report' : List ℕ)
      → IsFedBack OverBudget report status' report' → IsConfirmedSoFar report status' report'
