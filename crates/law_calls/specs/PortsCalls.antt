-- Laws of calls that search along one trace for each port.
use Rattle.std.specs.Prelude.{◌≡◌, ◌≢◌, ◌↔◌, ℕ, ◌≤◌, List, [], ◌++◌, length, Option, Some}
use Rattle.std.specs.Prelude.{String}
use Rattle.std.specs.Global.{Global}
use Rattle.est_meaning.specs.declared.firing.Firing.{Firing}
use Rattle.est_meaning.specs.declared.run.Move.{Move}
use Rattle.est_meaning.specs.RecordedTraces.{Recorded, known_trace}
use Rattle.est_meaning.specs.Run.{Setup, IsBegun}
use Rattle.mean_ports.specs.declared.lists.PortLists.{PortLists}
use Rattle.mean_ports.specs.HowMany.{HasAtMost}
use Rattle.mean_ports.specs.PortTrials.{IsPortTrial, PassesOnTree}
use Rattle.mean_ports.specs.PortsVerdict.{IsAcceptedMerge, NoneExplains}
use Rattle.est_explanation.specs.declared.explanation.Explanation.{Explanation}
use Rattle.est_explanation.specs.CanonicalExplanation.{canonical, IsWritable}
use Rattle.call_files.specs.FaultCounts.{Rose}
use Rattle.call_files.specs.declared.file.File.TheVariants as file
use Rattle.call_files.specs.declared.status.Status.{Status}
use Rattle.call_files.specs.declared.status.Status.TheVariants.{Fine, Refused, OverBudget}
use Rattle.call_files.specs.declared.status.Status.TheVariants.{OutOfMemory}
use Rattle.call_files.specs.Files.{limit_of}
use Rattle.call_files.specs.FileEnds.{reported, HoldsSpecification, HoldsLists}
use Rattle.call_files.specs.PortReports.{refused_ports_line, over_tries_line}
use Rattle.call_files.specs.Requests.{Asks, ports, replay, bytes_of}
use Rattle.call_files.specs.SearchReports.{accepted_line, over_action_line, over_start_line}
use Rattle.call_files.specs.Seen.{Seen, Sent}
use Rattle.est_tool.specs.Ends.{Ends}
use Rattle.est_tool.specs.ReplayReports.{first_line}
use Rattle.est_tool.specs.Result.{IsResult}
use Rattle.law_calls.specs.CallLaws.{TellAlike}
use Rattle.law_calls.specs.Completeness.{IsToldWell, IsJudged}
use Rattle.law_calls.specs.Confirmations.{BeginsWith, IsConfirmedWhole}

-- TWO CALLS

-- Two results do not speak against each other. They are the same; or one call ran out of tries; or
-- both accept lists of so many events, or refuse them with one most; or in both something passes its
-- limit. Of the merge and the run this says nothing.
pub data DoNotContradict (status status' : Status) (report report' : List ℕ) : Type 0 where
  are_same : status ≡ status' → report ≡ report' → DoNotContradict status status' report report'
  one_tried : (tried : ℕ) → status ≡ OverBudget → report ≡ over_tries_line tried
      → DoNotContradict status status' report report'
  other_tried : (tried : ℕ) → status' ≡ OverBudget → report' ≡ over_tries_line tried
      → DoNotContradict status status' report report'
  both_accepted : (events : ℕ) → status ≡ Fine → status' ≡ Fine
      → BeginsWith (accepted_line events) report → BeginsWith (accepted_line events) report'
      → DoNotContradict status status' report report'
  both_refused : (most events : ℕ) → status ≡ Refused → status' ≡ Refused
      → BeginsWith (refused_ports_line most events) report
      → BeginsWith (refused_ports_line most events) report'
      → DoNotContradict status status' report report'
  both_passed : (limit : ℕ) (firing other : Option Firing) → status ≡ OverBudget
      → status' ≡ OverBudget → BeginsWith (over_action_line limit firing) report
      → BeginsWith (over_action_line limit other) report'
      → DoNotContradict status status' report report'

-- So it is with two calls, within any budgets, that are told the same bytes of their files and have
-- the same other limits, where both end with a report.
abbrev pub PortsResultsAgree : Type 0
PortsResultsAgree = (shelf shelf' : Seen) (specification lists : List ℕ)
    (silent budget budget' statements : ℕ) (status status' : Status) (report report' : List ℕ)
    → TellAlike shelf shelf' specification → TellAlike shelf shelf' lists
    → Ends shelf (ports specification lists silent budget statements) (reported status report)
    → Ends shelf' (ports specification lists silent budget' statements) (reported status' report')
    → DoNotContradict status status' report report'

-- COMPLETENESS

-- The words ask for a search along these lists, within this budget, for the runs of the setup, whose
-- trace is left open: both files are told, they hold the specification and the lists, the start is
-- ready, and no count rose.
pub record IsPortsOf (words : List (String Global)) (shelf : Seen) (output : Sent) (budget : ℕ)
    (c : Setup) (lists : PortLists) : Type 0 where
  pub specification : List ℕ
  pub listed : List ℕ
  pub asked : Asks (bytes_of words) (ports specification listed c.silent budget c.limit)
  pub specification_told : IsToldWell shelf specification
  pub lists_told : IsToldWell shelf listed
  pub written : Rose output.before.faults output.after.faults → ⊥
  pub good : HoldsSpecification shelf specification c.spec
  pub holds : HoldsLists shelf listed c.spec lists
  pub untold : c.trace ≡ known_trace []
  pub begun : IsBegun c

-- some bounded run explains some merge
abbrev pub SomeMergeIsExplained : Setup → PortLists → Type 0
SomeMergeIsExplained c lists =
    (merge : Recorded) × (run : List Move) × IsAcceptedMerge c lists merge run

-- A search along one trace for each port is complete: of good texts whose start is ready a verdict is
-- told, unless memory runs out; where the trials are within the budget, some merge is accepted where
-- a bounded run explains one, and there alone; and where moreover nothing passes its limit, the lists
-- are refused where none does.
pub record PortsAreComplete : Type 0 where
  pub judged : (words : List (String Global)) (shelf : Seen) (asked : ℕ) (output : Sent)
      (status : Status) (budget : ℕ) (c : Setup) (lists : PortLists)
      → IsPortsOf words shelf output budget c lists
      → IsResult words shelf asked output status → IsJudged status
  pub accepted : (words : List (String Global)) (shelf : Seen) (asked : ℕ) (output : Sent)
      (status : Status) (budget : ℕ) (c : Setup) (lists : PortLists)
      → IsPortsOf words shelf output budget c lists
      → IsResult words shelf asked output status → status ≢ OutOfMemory
      → HasAtMost (IsPortTrial c lists) budget
      → (status ≡ Fine) ↔ SomeMergeIsExplained c lists
  pub refused : (words : List (String Global)) (shelf : Seen) (asked : ℕ) (output : Sent)
      (status : Status) (budget : ℕ) (c : Setup) (lists : PortLists)
      → IsPortsOf words shelf output budget c lists
      → IsResult words shelf asked output status → status ≢ OutOfMemory
      → HasAtMost (IsPortTrial c lists) budget → (PassesOnTree c lists → ⊥)
      → (status ≡ Refused) ↔ NoneExplains c lists

-- CONFIRMATION

-- a report is in two parts, of which the second one, from the line `explanation 1` on, is the
-- canonical text of an explanation
pub record IsInParts (report merge_part explanation_part : List ℕ) : Type 0 where
  pub explanation : Explanation
  pub writable : IsWritable explanation
  pub explanation_is : explanation_part ≡ canonical explanation
  pub parts : report ≡ merge_part ++ explanation_part

-- Two calls: a search along one trace for each port ends with this status and this report, and a replay
-- of its second part as an explanation of its first part as a trace, of the same bytes of the
-- specification and with the same limits, ends with that status and that report. Both parts are
-- within the limits of their files.
pub record IsFedInParts (status : Status) (report : List ℕ) (status' : Status) (report' : List ℕ)
    : Type 0 where
  pub shelf : Seen
  pub shelf' : Seen
  pub specification : List ℕ
  pub lists : List ℕ
  pub trace : List ℕ
  pub explanation : List ℕ
  pub silent : ℕ
  pub budget : ℕ
  pub statements : ℕ
  pub merge_part : List ℕ
  pub explanation_part : List ℕ
  pub same_specification : TellAlike shelf shelf' specification
  pub in_parts : IsInParts report merge_part explanation_part
  pub merge_told : shelf'.before.told trace ≡ Some merge_part
  pub explanation_told : shelf'.before.told explanation ≡ Some explanation_part
  pub merge_short : length merge_part ≤ limit_of file.Trace
  pub explanation_short : length explanation_part ≤ limit_of file.Explanation
  pub search : Ends shelf (ports specification lists silent budget statements)
      (reported status report)
  pub replayed : Ends shelf' (replay specification trace explanation silent statements)
      (reported status' report')

-- lists of so many events were refused, and the most that is yielded of a merge is confirmed
pub record IsConfirmedMost (report : List ℕ) (status' : Status) (report' : List ℕ) : Type 0 where
  pub most : ℕ
  pub events : ℕ
  pub refused : BeginsWith (refused_ports_line most events) report
  pub fine : status' ≡ Fine
  pub confirmed : report' ≡ first_line most events

-- A block or a guard passed the limit of statements after some moves, and the events that these
-- yield are confirmed. Else the report is one line that has no such parts.
pub data IsConfirmedBeforeLimit (report : List ℕ) (status' : Status) (report' : List ℕ)
    : Type 0 where
  action : (limit events claim : ℕ) (firing : Option Firing)
      → BeginsWith (over_action_line limit firing) report → status' ≡ Fine
      → report' ≡ first_line claim events → IsConfirmedBeforeLimit report status' report'
  tries : (tried : ℕ) → report ≡ over_tries_line tried
      → IsConfirmedBeforeLimit report status' report'
  start : (limit : ℕ) → report ≡ over_start_line limit
      → IsConfirmedBeforeLimit report status' report'

-- What a search along one trace for each port reports is confirmed: all events of the merge, or the most
-- that is yielded, or those up to where something passes its limit.
pub record PortsAreConfirmed : Type 0 where
  pub accepted : (report : List ℕ) (status' : Status) (report' : List ℕ)
      → IsFedInParts Fine report status' report' → IsConfirmedWhole report status' report'
  pub refused : (report : List ℕ) (status' : Status) (report' : List ℕ)
      → IsFedInParts Refused report status' report' → IsConfirmedMost report status' report'
  pub over : (report : List ℕ) (status' : Status) (report' : List ℕ)
      → IsFedInParts OverBudget report status' report'
      → IsConfirmedBeforeLimit report status' report'
