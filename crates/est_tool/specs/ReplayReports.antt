-- The reports of replays.
use Rattle.std.specs.Prelude.{ℕ, List, ◌++◌, codes, if◌then◌else◌, nat_le}
use Rattle.std.specs.Fmt.{decimal}
use Rattle.call_files.specs.est_explanation.declared.verdict.Replayed.{Replayed}
use Rattle.call_files.specs.est_explanation.declared.verdict.Replayed.TheVariants.{Confirmed}
use Rattle.call_files.specs.est_explanation.declared.verdict.Replayed.TheVariants.{Rejected}
use Rattle.call_files.specs.est_explanation.declared.verdict.Why.{Why}
use Rattle.call_files.specs.est_explanation.declared.verdict.Why.TheVariants.{NoStart, Limit}
use Rattle.call_files.specs.est_explanation.declared.verdict.Why.TheVariants.{WrongOutput, NoEvent}
use Rattle.call_files.specs.est_explanation.declared.verdict.Why.TheVariants.{NotOffered, Fault}
use Rattle.call_files.specs.est_explanation.declared.verdict.Why.TheVariants.{TooSilent, NotAll}
use Rattle.call_files.specs.declared.status.Status.{Status}
use Rattle.call_files.specs.declared.status.Status.TheVariants.{Fine, Refused}
use Rattle.call_files.specs.ReportLines.{line_feed}
use Rattle.call_files.specs.Reports.{fault_text}

-- an explanation that is confirmed for the first events of a trace
abbrev pub first_line : ℕ → ℕ → List ℕ
first_line claim events =
    codes "confirmed: first " ++ decimal claim ++ codes " of " ++ decimal events ++ codes " events"
    ++ line_feed

-- an explanation that is confirmed for a whole trace
abbrev pub all_line : ℕ → List ℕ
all_line events = codes "confirmed: all " ++ decimal events ++ codes " events" ++ line_feed

-- an explanation that is rejected at a move
abbrev pub rejected_line : ℕ → List ℕ → List ℕ
rejected_line at why = codes "rejected at move " ++ decimal at ++ codes ": " ++ why ++ line_feed

-- why an explanation is rejected
abbrev pub why_text : Why → List ℕ
why_text (NoStart fault) = codes "no start " ++ fault_text fault
why_text Limit = codes "limit"
why_text WrongOutput = codes "wrong output"
why_text NoEvent = codes "no event"
why_text NotOffered = codes "not offered"
why_text (Fault fault) = codes "fault " ++ fault_text fault
why_text TooSilent = codes "too silent"
why_text NotAll = codes "not all"

-- a replay on a trace of so many events: a claim of more than these is one of the whole trace
abbrev pub replay_line : ℕ → Replayed → List ℕ
replay_line events (Confirmed claim) =
    if nat_le claim events then first_line claim events else all_line events
replay_line events (Rejected at why) = rejected_line at (why_text why)

-- the status of a replay
abbrev pub replay_status : Replayed → Status
replay_status (Confirmed claim) = Fine
replay_status (Rejected at why) = Refused
