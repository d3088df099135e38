-- The reports of searches along one trace for each port: a line in braces, which is a comment; the text
-- of a merge; and the text of an explanation.
use Rattle.std.specs.Prelude.{ℕ, ◌+◌, ◌<◌, ◌≤◌, ◌^◌, List, ◌++◌, length, codes, IfSome}
use Rattle.std.specs.Fmt.{decimal}
use Rattle.est_syntax.specs.declared.ports.Port.{Port}
use Rattle.est_meaning.specs.AllowedEvents.{most_events}
use Rattle.est_explanation.specs.CanonicalExplanation.{IsWritable, IsWritableFiring}
use Rattle.est_trace.specs.WrittenTraces.{trace_text}
use Rattle.mean_ports.specs.declared.verdict.PortsVerdict.{PortsVerdict}
use Rattle.mean_ports.specs.declared.verdict.PortsVerdict.TheVariants.{Accepted, Refused}
use Rattle.mean_ports.specs.declared.verdict.PortsVerdict.TheVariants.{OverTries, OverAction}
use Rattle.call_files.specs.declared.status.Status.{Status}
use Rattle.call_files.specs.declared.status.Status.TheVariants as status
use Rattle.call_files.specs.ReportLines.{line_feed}
use Rattle.call_files.specs.SearchReports.{accepted_line, over_action_line, explanation_text}

-- no run yields more than so many of the events of any merge
abbrev pub refused_ports_line : ℕ → ℕ → List ℕ
refused_ports_line most events =
    codes "{ refused: " ++ decimal most ++ codes " of " ++ decimal events ++ codes " events }"
    ++ line_feed

-- more moves than the budget
abbrev pub over_tries_line : ℕ → List ℕ
over_tries_line tried =
    codes "{ over budget: " ++ decimal tried ++ codes " tries }" ++ line_feed

-- the report of a verdict at these ports, within this limit of statements
abbrev pub ports_report : List Port → ℕ → PortsVerdict → List ℕ
ports_report ports limit (Accepted merge run) =
    accepted_line (length merge.events) ++ trace_text ports merge
    ++ explanation_text run (length merge.events + 1)
ports_report ports limit (Refused most merge run) =
    refused_ports_line most (length merge.events) ++ trace_text ports merge
    ++ explanation_text run most
ports_report ports limit (OverTries tried) = over_tries_line tried
ports_report ports limit (OverAction merge run reached firing) =
    over_action_line limit firing ++ trace_text ports merge ++ explanation_text run reached

-- the status of such a search
abbrev pub ports_status : PortsVerdict → Status
ports_status (Accepted merge run) = status.Fine
ports_status (Refused most merge run) = status.Refused
ports_status (OverTries tried) = status.OverBudget
ports_status (OverAction merge run reached firing) = status.OverBudget

-- the numbers in the report of a verdict, within this limit of statements, are those that an
-- explanation may have, or the comment before it
abbrev pub IsReadablePorts : ℕ → PortsVerdict → Type 0
IsReadablePorts limit (Accepted merge run) =
    IsWritable (record { moves = run; claim = length merge.events + 1 })
IsReadablePorts limit (Refused most merge run) =
    (length merge.events ≤ most_events) × IsWritable (record { moves = run; claim = most })
IsReadablePorts limit (OverTries tried) = Unit {0}
IsReadablePorts limit (OverAction merge run reached firing) =
    (limit < 2 ^ 64) × IsWritable (record { moves = run; claim = reached })
    × IfSome firing IsWritableFiring

-- the merge of a verdict, if it has one, has no more events than a trace may have
abbrev pub HasFewEvents : PortsVerdict → Type 0
HasFewEvents (Accepted merge run) = length merge.events ≤ most_events
HasFewEvents (Refused most merge run) = length merge.events ≤ most_events
HasFewEvents (OverTries tried) = Unit {0}
HasFewEvents (OverAction merge run reached firing) = length merge.events ≤ most_events
