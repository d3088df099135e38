-- A call whose reports tell a verdict ends with one, unless memory runs out.
use Rattle.std.proofs.Common.{◌≡◌, ◌≢◌, List, ℕ, refl}
use Rattle.std.specs.Prelude.{String}
use Rattle.std.specs.Global.{Global}
use Rattle.call_files.specs.FaultCounts.{Rose}
use Rattle.call_files.specs.Pieces.{appended}
use Rattle.call_files.specs.declared.status.Status.{Status}
use Rattle.call_files.specs.declared.status.Status.TheVariants.{Fine, Refused, BadSpec, BadTrace}
use Rattle.call_files.specs.declared.status.Status.TheVariants.{BadExplanation, OverBudget, TooLong}
use Rattle.call_files.specs.declared.status.Status.TheVariants.{Usage, ReadFault, WriteFault}
use Rattle.call_files.specs.declared.status.Status.TheVariants.{OutOfMemory, NoStart}
use Rattle.call_files.specs.FileEnds.{End, unread, EndsAt, longer, refused, failed}
use Rattle.call_files.specs.FileTexts.{Refusals}
use Rattle.call_files.specs.declared.file.File.{File}
use Rattle.call_files.specs.Requests.{Request, Asks, bytes_of}
use Rattle.call_files.specs.Seen.{Seen, Sent}
use Rattle.est_tool.specs.Result.{CallEnds, Reports, IsResult, AsksForNoWatch}
use Rattle.law_calls.specs.Completeness.{IsJudged}

-- a file ends a call unread only where its count of faults rose
pub unread_rose : (shelf : Seen) (file : File) (name : List ℕ) (Refuses : Refusals) (end : End)
    → end ≡ unread → EndsAt shelf file name Refuses end
    → Rose (shelf.before.faults name) (shelf.after.faults name)
unread_rose shelf file name Refuses _ is (longer s r x) = absurd cc
unread_rose shelf file name Refuses _ is (refused s r x) = absurd cc
unread_rose shelf file name Refuses _ is (failed rose) = rose

-- a report was made, and written whole
abbrev pub HasWritten : List (String Global) → Seen → Sent → Status → Type 0
HasWritten words shelf output status =
    (report : List ℕ) × Reports words shelf status report
    × (output.after.written ≡ appended output.before.written report)

-- a call that asks for something, and in which nothing fails outside, writes a report
module _ (words : List (String Global)) (shelf : Seen) (calls : ℕ) (output : Sent)
    (request : Request) (asked : Asks (bytes_of words) request) (unwatched : AsksForNoWatch words)
    (read : CallEnds words shelf unread → ⊥)
    (kept : Rose output.before.faults output.after.faults → ⊥) where
  pub has_written : (status : Status) → IsResult words shelf calls output status → status ≢ OutOfMemory
      → HasWritten words shelf output status
  has_written Fine result memory = result.written unwatched
  has_written Refused result memory = result.written unwatched
  has_written BadSpec result memory = result.written unwatched
  has_written BadTrace result memory = result.written unwatched
  has_written BadExplanation result memory = result.written unwatched
  has_written OverBudget result memory = result.written unwatched
  has_written TooLong result memory = result.written unwatched
  has_written NoStart result memory = result.written unwatched
  has_written Usage result memory = absurd (result.usage.0 refl request asked)
  has_written ReadFault result memory = absurd (read (result.read_fault refl))
  has_written WriteFault result memory = absurd (kept (result.write_fault refl))
  has_written OutOfMemory result memory = absurd (memory refl)

  -- where a report tells this, it is told
  module _ (IsTold : Status → Type 0)
      (told : (status : Status) (report : List ℕ) → Reports words shelf status report
      → IsTold status) where
    pub told_of : (status : Status) → IsResult words shelf calls output status → status ≢ OutOfMemory
        → IsTold status
    told_of status result memory =
        let h = has_written status result memory in told status h.0 h.1

    -- and where that is a decision, no other status comes
    pub judged : ((status : Status) → IsTold status → IsJudged status) → (status : Status)
        → IsResult words shelf calls output status → IsJudged status
    judged decision Fine result = tt
    judged decision Refused result = tt
    judged decision OverBudget result = tt
    judged decision OutOfMemory result = tt
    judged decision BadSpec result = decision BadSpec (told_of BadSpec result (λ e. cc))
    judged decision BadTrace result = decision BadTrace (told_of BadTrace result (λ e. cc))
    judged decision BadExplanation result =
        decision BadExplanation (told_of BadExplanation result (λ e. cc))
    judged decision TooLong result = decision TooLong (told_of TooLong result (λ e. cc))
    judged decision NoStart result = decision NoStart (told_of NoStart result (λ e. cc))
    judged decision Usage result = decision Usage (told_of Usage result (λ e. cc))
    judged decision ReadFault result = decision ReadFault (told_of ReadFault result (λ e. cc))
    judged decision WriteFault result = decision WriteFault (told_of WriteFault result (λ e. cc))
