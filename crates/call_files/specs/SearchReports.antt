-- The reports of searches. A line in braces is a comment, so that a report with an explanation is
-- itself the text of that explanation.
use Rattle.std.specs.Prelude.{ℕ, ◌+◌, ◌-◌, List, ◌++◌, [], Option, Some, None, codes}
use Rattle.std.specs.Prelude.{if◌then◌else◌, nat_le}
use Rattle.std.specs.Fmt.{decimal}
use Rattle.est_meaning.specs.mean_blocks.declared.fault.BlockFault.{BlockFault}
use Rattle.est_meaning.specs.declared.firing.Firing.{Firing}
use Rattle.est_meaning.specs.declared.run.Move.{Move}
use Rattle.est_explanation.specs.CanonicalExplanation.{canonical}
use Rattle.est_search.specs.declared.verdict.Faulted.{Faulted}
use Rattle.est_search.specs.declared.verdict.Verdict.{Verdict}
use Rattle.est_search.specs.declared.verdict.Verdict.TheVariants.{Accepted, Refused}
use Rattle.est_search.specs.declared.verdict.Verdict.TheVariants.{OverFirings, OverAction}
use Rattle.call_files.specs.declared.status.Status.{Status}
use Rattle.call_files.specs.declared.status.Status.TheVariants as status
use Rattle.call_files.specs.ReportLines.{line_feed}
use Rattle.call_files.specs.Reports.{fault_text}

-- the numbers of a firing
abbrev pub firing_text : Firing → List ℕ
firing_text firing = decimal firing.instance ++ codes " " ++ decimal firing.transition ++ codes " "
    ++ decimal firing.choice

-- a trace of so many events is explained
abbrev pub accepted_line : ℕ → List ℕ
accepted_line events = codes "{ accepted: " ++ decimal events ++ codes " events }" ++ line_feed

-- no run yields the events up to this one
abbrev pub refused_at_line : ℕ → ℕ → List ℕ
refused_at_line at events =
    codes "{ refused at event " ++ decimal at ++ codes " of " ++ decimal events ++ codes " }"
    ++ line_feed

-- no run yields all events and nothing after them
abbrev pub refused_end_line : ℕ → List ℕ
refused_end_line events =
    codes "{ refused at the end after " ++ decimal events ++ codes " events }" ++ line_feed

-- where a trace of so many events is refused: a number of more than these is that of the end
abbrev pub refused_line : ℕ → ℕ → List ℕ
refused_line at events =
    if nat_le at events then refused_at_line at events else refused_end_line events

-- a block that goes wrong in this way
abbrev pub fault_line : List ℕ → Firing → List ℕ
fault_line why firing =
    codes "{ fault " ++ why ++ codes " in firing " ++ firing_text firing ++ codes " }" ++ line_feed

-- the first block that faults, where one does
abbrev pub faulted_line : Option Faulted → List ℕ
faulted_line None = []
faulted_line (Some faulted) = fault_line (fault_text faulted.fault) faulted.firing

-- more firings than the budget
abbrev pub over_firings_line : ℕ → List ℕ
over_firings_line tried =
    codes "{ over budget: " ++ decimal tried ++ codes " firings tried }" ++ line_feed

-- a block, or a guard where no firing is named, that passes the limit of statements
abbrev pub over_action_line : ℕ → Option Firing → List ℕ
over_action_line limit (Some firing) =
    codes "{ over budget: firing " ++ firing_text firing ++ codes " passed the limit "
    ++ decimal limit ++ codes " after these moves }" ++ line_feed
over_action_line limit None = codes "{ over budget: a guard passed the limit " ++ decimal limit
    ++ codes " after these moves }" ++ line_feed

-- a start that passes the limit of statements
abbrev pub over_start_line : ℕ → List ℕ
over_start_line limit =
    codes "{ over budget: the start passed the limit " ++ decimal limit ++ codes " }" ++ line_feed

-- a start that faults
abbrev pub no_start_line : BlockFault → List ℕ
no_start_line fault = codes "no start: " ++ fault_text fault ++ line_feed

-- the text of the explanation with these moves and this claim
abbrev pub explanation_text : List Move → ℕ → List ℕ
explanation_text moves claim = canonical (record { moves = moves; claim = claim })

-- the report of a verdict on a trace of so many events, within this limit of statements
abbrev pub verdict_report : ℕ → ℕ → Verdict → List ℕ
verdict_report limit events (Accepted run) =
    accepted_line events ++ explanation_text run (events + 1)
verdict_report limit events (Refused at run faulted) =
    refused_line at events ++ faulted_line faulted ++ explanation_text run (at - 1)
verdict_report limit events (OverFirings tried) = over_firings_line tried
verdict_report limit events (OverAction run reached firing) =
    over_action_line limit firing ++ explanation_text run reached

-- the status of a search
abbrev pub verdict_status : Verdict → Status
verdict_status (Accepted run) = status.Fine
verdict_status (Refused at run faulted) = status.Refused
verdict_status (OverFirings tried) = status.OverBudget
verdict_status (OverAction run events firing) = status.OverBudget
