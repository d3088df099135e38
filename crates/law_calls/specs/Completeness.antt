-- What is answered of good texts: of a specification that is checked or printed, or of which a
-- trace is made; of a trace, where the start is ready; and of an explanation.
use Rattle.std.specs.Prelude.{◌≡◌, ◌≢◌, ◌↔◌, ℕ, List, Some, String, length, reverse}
use Rattle.std.specs.Global.{Global}
use Rattle.call_files.specs.FaultCounts.{Rose}
use Rattle.call_files.specs.Pieces.{appended}
use Rattle.est_syntax.specs.declared.specification.Spec.{Spec}
use Rattle.run_make.specs.declared.made.Made.{Made}
use Rattle.est_meaning.specs.declared.run.Move.{Move}
use Rattle.est_meaning.specs.Order.{Mark}
use Rattle.est_meaning.specs.Run.{Setup, IsBegun, Explains, Yields}
use Rattle.est_meaning.specs.Trials.{IsTrial, PassesLimit, HasAtMost}
use Rattle.est_explanation.specs.Replay.{IsReplay}
use Rattle.est_explanation.specs.declared.explanation.Explanation.{Explanation}
use Rattle.est_explanation.specs.declared.verdict.Replayed.{Replayed}
use Rattle.est_print.specs.PrintedText.{IsPrintedText}
use Rattle.call_files.specs.declared.status.Status.{Status}
use Rattle.call_files.specs.declared.status.Status.TheVariants.{Fine, Refused, OverBudget}
use Rattle.call_files.specs.declared.status.Status.TheVariants.{OutOfMemory}
use Rattle.call_files.specs.Seen.{Seen, Sent}
use Rattle.call_files.specs.FileEnds.{reported, HoldsSpecification, HoldsTrace}
use Rattle.call_files.specs.FileEnds.{HoldsExplanation}
use Rattle.call_files.specs.Requests.{Request, Asks, check, print, explain, replay, selfrun}
use Rattle.call_files.specs.Requests.{bytes_of}
use Rattle.est_tool.specs.Ends.{TellsCounts}
use Rattle.est_tool.specs.ReplayReports.{replay_line, replay_status}
use Rattle.est_tool.specs.Result.{IsResult}
use Rattle.est_tool.specs.SelfRuns.{IsMadeOf, MadeEnds}

-- the file is told, and its count of faults did not rise
pub record IsToldWell (shelf : Seen) (name : List ℕ) : Type 0 where
  pub bytes : List ℕ
  pub told : shelf.before.told name ≡ Some bytes
  pub quiet : Rose (shelf.before.faults name) (shelf.after.faults name) → ⊥

-- CHECK AND PRINT

-- the words ask for this of a specification: its file is told and holds it, and no count rose
pub record IsAskedOf (request : List ℕ → Request) (words : List (String Global)) (shelf : Seen)
    (output : Sent) (spec : Spec) : Type 0 where
  pub name : List ℕ
  pub asked : Asks (bytes_of words) (request name)
  pub named : IsToldWell shelf name
  pub written : Rose output.before.faults output.after.faults → ⊥
  pub good : HoldsSpecification shelf name spec

-- the call ends well, and a whole report that says this of the specification is written
pub record TellsWell (Says : Spec → List ℕ → Type 0) (output : Sent) (status : Status)
    (spec : Spec) : Type 0 where
  pub fine : status ≡ Fine
  pub report : List ℕ
  pub says : Says spec report
  pub whole : output.after.written ≡ appended output.before.written report

-- of a good specification its numbers are told, unless memory runs out
abbrev pub CheckIsComplete : Type 0
CheckIsComplete =
    (words : List (String Global)) (shelf : Seen) (asked : ℕ) (output : Sent)
    (status : Status) (spec : Spec) → IsAskedOf check words shelf output spec
    → IsResult words shelf asked output status → status ≢ OutOfMemory
    → TellsWell TellsCounts output status spec

-- and so is its printed text
abbrev pub PrintIsComplete : Type 0
PrintIsComplete =
    (words : List (String Global)) (shelf : Seen) (asked : ℕ) (output : Sent)
    (status : Status) (spec : Spec) → IsAskedOf print words shelf output spec
    → IsResult words shelf asked output status → status ≢ OutOfMemory
    → TellsWell IsPrintedText output status spec

-- EXPLAIN

-- the words ask for a search within this budget for the runs of the setup: both files are told,
-- they hold the specification and the trace, the start is ready, and no count rose
pub record IsSearchOf (words : List (String Global)) (shelf : Seen) (output : Sent) (budget : ℕ)
    (c : Setup) : Type 0 where
  pub specification : List ℕ
  pub trace : List ℕ
  pub asked : Asks (bytes_of words) (explain specification trace c.silent budget c.limit)
  pub specification_told : IsToldWell shelf specification
  pub trace_told : IsToldWell shelf trace
  pub written : Rose output.before.faults output.after.faults → ⊥
  pub good : HoldsSpecification shelf specification c.spec
  pub traced : HoldsTrace shelf trace c.spec c.trace
  pub begun : IsBegun c

-- the trace is explained, refused or over budget, unless memory ran out
abbrev pub IsJudged : Status → Type 0
IsJudged Fine = Unit {0}
IsJudged Refused = Unit {0}
IsJudged OverBudget = Unit {0}
IsJudged OutOfMemory = Unit {0}
IsJudged _ = ⊥

-- all trials are within the budget, and nothing passes its limit
pub record IsWithinLimits (c : Setup) (budget : ℕ) : Type 0 where
  pub size : HasAtMost (IsTrial c) budget
  pub passes : (x : List Mark) → PassesLimit c x → ⊥

-- the status is that of a trace that is explained where a run explains it, and else that of one
-- that is refused
pub record Decides (c : Setup) (status : Status) : Type 0 where
  pub fine : (status ≡ Fine) ↔ ((run : List Move) × Explains c run)
  pub refused : (status ≡ Refused) ↔ ((run : List Move) → Explains c run → ⊥)

-- A search is complete: of good texts whose start is ready a verdict is told, unless memory runs
-- out; and where the limits suffice, this is whether a run explains the trace.
pub record SearchIsComplete : Type 0 where
  pub judged : (words : List (String Global)) (shelf : Seen) (asked : ℕ) (output : Sent)
      (status : Status) (budget : ℕ) (c : Setup) → IsSearchOf words shelf output budget c
      → IsResult words shelf asked output status → IsJudged status
  pub decided : (words : List (String Global)) (shelf : Seen) (asked : ℕ) (output : Sent)
      (status : Status) (budget : ℕ) (c : Setup) → IsSearchOf words shelf output budget c
      → IsResult words shelf asked output status → IsWithinLimits c budget → status ≢ OutOfMemory
      → Decides c status

-- REPLAY

-- the words ask for a replay of this explanation within the limits of the setup: the three files
-- are told, they hold the specification, the trace and the explanation, and no count rose
pub record IsReplayOf (words : List (String Global)) (shelf : Seen) (output : Sent)
    (read : Explanation) (c : Setup) : Type 0 where
  pub specification : List ℕ
  pub trace : List ℕ
  pub explanation : List ℕ
  pub asked : Asks (bytes_of words) (replay specification trace explanation c.silent c.limit)
  pub specification_told : IsToldWell shelf specification
  pub trace_told : IsToldWell shelf trace
  pub explanation_told : IsToldWell shelf explanation
  pub written : Rose output.before.faults output.after.faults → ⊥
  pub good : HoldsSpecification shelf specification c.spec
  pub traced : HoldsTrace shelf trace c.spec c.trace
  pub explained : HoldsExplanation shelf explanation read

-- the explanation is confirmed or rejected, and the whole report that says so is written
pub record TellsAnswer (output : Sent) (status : Status) (read : Explanation) (c : Setup)
    : Type 0 where
  pub answer : Replayed
  pub is : IsReplay c.limit c.silent c.spec c.trace read.moves read.claim answer
  pub status_is : status ≡ replay_status answer
  pub whole : output.after.written
      ≡ appended output.before.written (replay_line (length c.trace.events) answer)

-- the status is that of an explanation that is confirmed where its moves are a bounded run that
-- yields its claim, and else that of one that is rejected
pub record Confirms (c : Setup) (read : Explanation) (status : Status) : Type 0 where
  pub fine : (status ≡ Fine) ↔ Yields c (reverse read.moves) read.claim
  pub refused : (status ≡ Refused) ↔ (Yields c (reverse read.moves) read.claim → ⊥)

-- A replay is complete: of good texts the answer is told, unless memory runs out; and where the
-- start is ready, this is whether the moves are a bounded run that yields the claim.
pub record ReplayIsComplete : Type 0 where
  pub told : (words : List (String Global)) (shelf : Seen) (asked : ℕ) (output : Sent)
      (status : Status) (read : Explanation) (c : Setup)
      → IsReplayOf words shelf output read c
      → IsResult words shelf asked output status → status ≢ OutOfMemory
      → TellsAnswer output status read c
  pub decided : (words : List (String Global)) (shelf : Seen) (asked : ℕ) (output : Sent)
      (status : Status) (read : Explanation) (c : Setup)
      → IsReplayOf words shelf output read c → IsBegun c
      → IsResult words shelf asked output status → status ≢ OutOfMemory
      → Confirms c read status

-- SELFRUN

-- the words ask for a trace to be made of this specification: its file is told and holds it, and no
-- count rose
pub record IsSelfRunOf (words : List (String Global)) (shelf : Seen) (output : Sent)
    (seed count : ℕ) (spec : Spec) : Type 0 where
  pub name : List ℕ
  pub asked : Asks (bytes_of words) (selfrun name seed count)
  pub named : IsToldWell shelf name
  pub written : Rose output.before.faults output.after.faults → ⊥
  pub good : HoldsSpecification shelf name spec

-- this is made of the specification, and the whole report that tells it is written
pub record TellsMade (output : Sent) (status : Status) (seed count : ℕ) (spec : Spec)
    : Type 0 where
  pub made : Made
  pub is : IsMadeOf spec seed count made
  pub report : List ℕ
  pub ends : MadeEnds spec made (reported status report)
  pub whole : output.after.written ≡ appended output.before.written report

-- of a good specification what is made of it is told, unless memory runs out
abbrev pub SelfRunIsComplete : Type 0
SelfRunIsComplete =
    (words : List (String Global)) (shelf : Seen) (asked : ℕ) (output : Sent)
    (status : Status) (seed count : ℕ) (spec : Spec)
    → IsSelfRunOf words shelf output seed count spec
    → IsResult words shelf asked output status → status ≢ OutOfMemory
    → TellsMade output status seed count spec
