-- What functions answer that make a trace and explain it.
use Rattle.std.specs.Prelude.{◌≡◌, ℕ, List, ◌++◌, length}
use Rattle.est_syntax.specs.declared.specification.Spec.{Spec}
use Rattle.est_meaning.specs.mean_blocks.GlobalSituation.{Situation}
use Rattle.est_meaning.specs.mean_blocks.Outcome.{Done}
use Rattle.est_meaning.specs.mean_blocks.TextByPlace.{text_of}
use Rattle.est_meaning.specs.declared.event.Event.{Event}
use Rattle.est_meaning.specs.RecordedTraces.{Recorded}
use Rattle.est_meaning.specs.FiringSteps.{start_of}
use Rattle.est_search.specs.Verdict.{IsVerdict}
use Rattle.est_search.specs.declared.verdict.Verdict.{Verdict}
use Rattle.run_make.specs.declared.made.Made.{Made}
use Rattle.run_make.specs.declared.made.Made.TheVariants.{Trace, NoStart, StartLimit, Limit}
use Rattle.call_files.specs.declared.status.Status.{Status}
use Rattle.call_files.specs.Requests.{usual_silent, usual_budget, usual_statements}
use Rattle.call_files.specs.declared.self_run_report.Sizes.{Sizes}
use Rattle.call_files.specs.SearchReports.{verdict_status}
use Rattle.call_files.specs.SelfRunReports.{made_line, search_line}
use Rattle.call_files.specs.FileEnds.{End, reported, EndsAtText}
use Rattle.call_files.specs.FileTexts.{IsText, OfTrace, RefusesTrace}
use Rattle.call_files.specs.declared.file.File.TheVariants as file
use Rattle.est_tool.specs.SelfRuns.{IsMadeOf, MadeEnds}
use Rattle.est_meaning.specs.Task.{setup_from}

-- the specification starts
abbrev pub IsReady : Spec → Type 0
IsReady spec =
    (s : Situation) × (outs : List Event)
    × (start_of usual_statements (text_of spec) ≡ Done outs s)

-- where a trace was made, it does
abbrev pub IsReadyFor : Spec → Made → Type 0
IsReadyFor spec (Trace trace run) = IsReady spec
IsReadyFor spec (NoStart fault) = Unit {0}
IsReadyFor spec StartLimit = Unit {0}
IsReadyFor spec (Limit run) = Unit {0}

-- a call ends so for what is made of the specification
abbrev pub EndsMaking : ℕ → ℕ → Spec → End → Type 0
EndsMaking seed count spec end =
    (made : Made) × IsMadeOf spec seed count made × MadeEnds spec made end

-- the report of the search for an explanation of a trace, for one of these sizes that was made
abbrev pub IsSearchedFor : Sizes → Spec → Recorded → Status → List ℕ → Type 0
IsSearchedFor sizes spec trace status report =
    (s : Situation) × (outs : List Event) × (verdict : Verdict)
    × (start_of usual_statements (text_of spec) ≡ Done outs s)
    × IsVerdict (setup_from usual_statements usual_silent spec trace s outs) usual_budget verdict
    × (status ≡ verdict_status verdict)
    × (report ≡ made_line sizes.events sizes.bytes sizes.moves
    ++ search_line usual_statements (length trace.events) verdict)

-- a call ends so at the text of a trace that was made, of these sizes: it is refused, or the search
-- for an explanation of the trace that it is of is reported
pub data EndsWritten (sizes : Sizes) (spec : Spec) (text : List ℕ) : End → Type 0 where
  at_text : (end : End) → EndsAtText file.Trace text (RefusesTrace spec) end
      → EndsWritten sizes spec text end
  at_trace : (trace : Recorded) (status : Status) (report : List ℕ)
      → IsText file.Trace text (OfTrace spec trace)
      → IsSearchedFor sizes spec trace status report
      → EndsWritten sizes spec text (reported status report)
