-- How `selfrun` ends: a trace is made of a specification, its text is taken as that of a trace file,
-- and the trace that it is of is explained.
use Rattle.std.specs.Prelude.{◌≡◌, ℕ, List, ◌++◌, length}
use Rattle.est_syntax.specs.declared.specification.Spec.{Spec}
use Rattle.est_meaning.specs.rule_declares.PortList.{ports_of}
use Rattle.est_meaning.specs.mean_blocks.declared.fault.BlockFault.{BlockFault}
use Rattle.est_meaning.specs.mean_blocks.GlobalSituation.{Situation}
use Rattle.est_meaning.specs.mean_blocks.Outcome.{Done}
use Rattle.est_meaning.specs.mean_blocks.TextByPlace.{text_of}
use Rattle.est_meaning.specs.declared.event.Event.{Event}
use Rattle.est_meaning.specs.RecordedTraces.{Recorded}
use Rattle.est_meaning.specs.FiringSteps.{start_of}
use Rattle.est_meaning.specs.declared.run.Move.{Move}
use Rattle.est_search.specs.Verdict.{IsVerdict}
use Rattle.est_search.specs.declared.verdict.Verdict.{Verdict}
use Rattle.run_make.specs.declared.made.Made.{Made}
use Rattle.run_make.specs.declared.made.Made.TheVariants.{Trace, NoStart, StartLimit, Limit}
use Rattle.run_make.specs.Recipe as recipe
use Rattle.call_files.specs.est_trace.WrittenTraces.{trace_text}
use Rattle.call_files.specs.FileEnds.{End, reported, EndsAt, EndsAtText, HoldsSpecification}
use Rattle.call_files.specs.FileTexts.{IsText, OfTrace, RefusesSpecification, RefusesTrace}
use Rattle.call_files.specs.declared.file.File.TheVariants as file
use Rattle.call_files.specs.Seen.{Seen}
use Rattle.call_files.specs.declared.status.Status.TheVariants as status
use Rattle.call_files.specs.Requests.{usual_silent, usual_budget, usual_statements}
use Rattle.call_files.specs.SearchReports.{no_start_line, over_start_line, verdict_status}
use Rattle.call_files.specs.SelfRunReports.{limit_line, made_line, search_line}
use Rattle.est_meaning.specs.Task.{setup_from}

-- this is made of the specification, by a seed and a least number of events, within the usual limits
abbrev pub IsMadeOf : Spec → ℕ → ℕ → Made → Type 0
IsMadeOf spec seed count made =
    recipe.IsMade (recipe.task_of usual_statements usual_silent spec) seed count made

-- the text of a trace of the specification
abbrev pub written : Spec → Recorded → List ℕ
written spec trace = trace_text (ports_of spec) trace

-- the report of a trace that was made by a run, and of the search for an explanation of the one
-- that was read
abbrev pub self_run_report : Spec → Recorded → List Move → Recorded → Verdict → List ℕ
self_run_report spec trace run read verdict =
    made_line (length trace.events) (length (written spec trace)) (length run)
    ++ search_line usual_statements (length read.events) verdict

-- How a call ends once this was made. The text of a trace is one that is refused, or that of the
-- trace that is explained.
pub data MadeEnds (spec : Spec) : Made → End → Type 0 where
  faults : (fault : BlockFault)
      → MadeEnds spec (NoStart fault) (reported status.NoStart (no_start_line fault))
  start_passes : MadeEnds spec StartLimit
      (reported status.OverBudget (over_start_line usual_statements))
  passes : (run : List Move)
      → MadeEnds spec (Limit run) (reported status.OverBudget (limit_line (length run)))
  refuses : (trace : Recorded) (run : List Move) (end : End)
      → EndsAtText file.Trace (written spec trace) (RefusesTrace spec) end
      → MadeEnds spec (Trace trace run) end
  explains : (trace : Recorded) (run : List Move) (read : Recorded) (s : Situation)
      (outs : List Event) (verdict : Verdict)
      → IsText file.Trace (written spec trace) (OfTrace spec read)
      → start_of usual_statements (text_of spec) ≡ Done outs s
      → IsVerdict (setup_from usual_statements usual_silent spec read s outs) usual_budget verdict
      → MadeEnds spec (Trace trace run)
      (reported (verdict_status verdict) (self_run_report spec trace run read verdict))

-- `selfrun` ends at its file where that is refused, or by what is made of the specification
pub data SelfRunEnds (shelf : Seen) (name : List ℕ) (seed count : ℕ) : End → Type 0 where
  stops_at_its_file : (end : End) → EndsAt shelf file.Specification name RefusesSpecification end
      → SelfRunEnds shelf name seed count end
  makes : (spec : Spec) (made : Made) (end : End) → HoldsSpecification shelf name spec
      → IsMadeOf spec seed count made → MadeEnds spec made end
      → SelfRunEnds shelf name seed count end
