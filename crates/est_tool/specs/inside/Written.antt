-- What a function writes.
use Rattle.std.specs.Prelude.{◌≡◌, ◌≢◌, ℕ, List, Option, Result, Ok, Err}
use Rattle.call_files.specs.FaultCounts.{Rose}
use Rattle.call_files.specs.Pieces.{appended, IsPrefix}
use Rattle.call_files.specs.declared.report.Report.{Report}
use Rattle.call_files.specs.declared.stop.Stop.{Stop}
use Rattle.call_files.specs.declared.stop.Stop.TheVariants as stop
use Rattle.call_files.specs.declared.status.Status.{Status}
use Rattle.call_files.specs.declared.status.Status.TheVariants.{Usage, ReadFault}
use Rattle.call_files.specs.declared.status.Status.TheVariants.{WriteFault, OutOfMemory}
use Rattle.call_files.specs.Seen.{Sent}
use Rattle.call_files.specs.FileEnds.{End, reported, unread}

-- the statuses with which a report is written
abbrev pub HasReport : Status → Type 0
HasReport Usage = ⊥
HasReport ReadFault = ⊥
HasReport WriteFault = ⊥
HasReport OutOfMemory = ⊥
HasReport _ = Unit {0}

-- an end with a report has such a status
abbrev pub IsReportable : End → Type 0
IsReportable (reported status report) = HasReport status
IsReportable unread = Unit {0}

-- a report was written: whole, and its status is the answer, or a front part of it, and the answer
-- is the fault
pub data IsSent (status : Status) (report : List ℕ)
    : Status → Option (List ℕ) → Option (List ℕ) → Type 0 where
  whole : (before after : Option (List ℕ)) → after ≡ appended before report
      → IsSent status report status before after
  broken_off : (before after : Option (List ℕ)) (part : List ℕ) → IsPrefix part report
      → after ≡ appended before part → IsSent status report WriteFault before after

-- a report was written where one was made
abbrev pub IsDelivered :
    Result Report Stop → Status → Option (List ℕ) → Option (List ℕ) → Type 0
IsDelivered (Ok report) status before after =
    IsSent report.status report.text.items status before after
IsDelivered (Err (stop.Refused report)) status before after =
    IsSent report.status report.text.items status before after
IsDelivered (Err stop.ReadFault) status before after = (status ≡ ReadFault) × (after ≡ before)
IsDelivered (Err stop.OutOfMemory) status before after = (status ≡ OutOfMemory) × (after ≡ before)

-- a fault of the output is the answer, and the answer is none where no fault was
pub record AnswersOutput (output : Sent) (status : Status) : Type 0 where
  pub asked : status ≢ Usage
  pub fault : status ≡ WriteFault → Rose output.before.faults output.after.faults
  pub quiet : status ≢ WriteFault → output.after.faults ≡ output.before.faults

-- a report that was made is written
pub record Delivers (made : Result Report Stop) (output : Sent) (status : Status) : Type 0 where
  pub answers : AnswersOutput output status
  pub delivered : IsDelivered made status output.before.written output.after.written

-- a report is written
pub record Sends (report : Report) (output : Sent) (status : Status) : Type 0 where
  pub answers : AnswersOutput output status
  pub sent : IsSent report.status report.text.items status
      output.before.written output.after.written
