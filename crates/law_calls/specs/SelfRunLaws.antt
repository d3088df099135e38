-- A self-run does not refuse the trace that it makes, and explains it where its budget suffices.
use Rattle.std.specs.Prelude.{◌≡◌, ◌≢◌, ℕ, ◌≤◌, ◌<◌, List, length, String}
use Rattle.std.specs.Global.{Global}
use Rattle.est_syntax.specs.declared.specification.Spec.{Spec}
use Rattle.est_meaning.specs.AllowedEvents.{most_events}
use Rattle.est_meaning.specs.RecordedTraces.{Recorded}
use Rattle.est_meaning.specs.declared.run.Move.{Move}
use Rattle.est_meaning.specs.Run.{Setup, IsBegun, Explains}
use Rattle.est_meaning.specs.Task.{setup_from}
use Rattle.est_meaning.specs.Trials.{IsTrialUpTo, HasAtMost}
use Rattle.est_search.specs.Verdict.{IsVerdict, IsOverFirings}
use Rattle.est_search.specs.declared.verdict.Verdict.{Verdict}
use Rattle.est_search.specs.declared.verdict.Verdict.TheVariants.{Accepted, OverFirings}
use Rattle.run_make.specs.declared.made.Made.TheVariants as made
use Rattle.call_files.specs.Files.{limit_of}
use Rattle.call_files.specs.Seen.{Seen, Sent}
use Rattle.call_files.specs.declared.file.File.TheVariants as file
use Rattle.call_files.specs.declared.status.Status.{Status}
use Rattle.call_files.specs.declared.status.Status.TheVariants.{Fine, OverBudget, TooLong}
use Rattle.call_files.specs.declared.status.Status.TheVariants.{OutOfMemory}
use Rattle.call_files.specs.Requests.{usual_silent, usual_budget, usual_statements}
use Rattle.est_tool.specs.Result.{IsResult}
use Rattle.est_tool.specs.SelfRuns.{IsMadeOf, written}
use Rattle.law_calls.specs.Completeness.{IsSelfRunOf}

-- the verdict explains the trace, or more firings stand to be tried than the budget has
abbrev pub IsExplainedOrOver : Verdict → Type 0
IsExplainedOrOver (Accepted run) = Unit {0}
IsExplainedOrOver (OverFirings tried) = Unit {0}
IsExplainedOrOver _ = ⊥

-- where a run explains a trace, each verdict on it is so
abbrev pub ExplainedTracesAreNotRefused : Type 0
ExplainedTracesAreNotRefused = (c : Setup) (budget : ℕ) (run : List Move) (verdict : Verdict)
    → Explains c run → IsVerdict c budget verdict → IsExplainedOrOver verdict

-- the runs of a specification along a trace, within the usual limits, from a start that is ready
pub record IsUsual (spec : Spec) (trace : Recorded) (c : Setup) : Type 0 where
  pub same : c ≡ setup_from usual_statements usual_silent spec trace c.start c.start_outs
  pub begun : IsBegun c

-- of these more firings stand to be tried than the usual budget has, also up to each run that
-- explains the trace
abbrev pub IsTriedOut : Spec → Recorded → Type 0
IsTriedOut spec trace = (c : Setup) × IsUsual spec trace c × IsOverFirings c usual_budget

-- The trace is explained, or it is not since the firings to be tried are too many; or its text is
-- longer than a trace file may be, or memory ran out.
abbrev pub Agrees : Spec → Recorded → Status → Type 0
Agrees spec trace Fine = Unit {0}
Agrees spec trace OverBudget = IsTriedOut spec trace
Agrees spec trace TooLong = limit_of file.Trace < length (written spec trace)
Agrees spec trace OutOfMemory = Unit {0}
Agrees spec trace _ = ⊥

-- So ends a self-run of a good specification whose file is told, where no count rises and a trace
-- is made that has no more events than a trace may have.
abbrev pub SelfRunsAgree : Type 0
SelfRunsAgree =
    (words : List (String Global)) (shelf : Seen) (asked : ℕ) (output : Sent)
    (status : Status) (seed count : ℕ) (spec : Spec) (trace : Recorded) (run : List Move)
    → IsSelfRunOf words shelf output seed count spec
    → IsMadeOf spec seed count (made.Trace trace run) → length trace.events ≤ most_events
    → IsResult words shelf asked output status → Agrees spec trace status

-- The text of a trace is no longer than a trace file may be, and some run explains the trace, up to
-- which no more firings stand to be tried than the usual budget has.
pub record IsInReach (spec : Spec) (trace : Recorded) : Type 0 where
  pub short : length (written spec trace) ≤ limit_of file.Trace
  pub setup : Setup
  pub usual : IsUsual spec trace setup
  pub run : List Move
  pub explains : Explains setup run
  pub tried : HasAtMost (IsTrialUpTo setup run) usual_budget

-- such a trace is explained by the self-run that makes it, unless memory runs out
abbrev pub SelfRunsAccept : Type 0
SelfRunsAccept =
    (words : List (String Global)) (shelf : Seen) (asked : ℕ) (output : Sent)
    (status : Status) (seed count : ℕ) (spec : Spec) (trace : Recorded) (run : List Move)
    → IsSelfRunOf words shelf output seed count spec
    → IsMadeOf spec seed count (made.Trace trace run) → length trace.events ≤ most_events
    → IsInReach spec trace → IsResult words shelf asked output status → status ≢ OutOfMemory
    → status ≡ Fine
