-- How a call ends.
use Rattle.std.specs.Prelude.{◌≡◌, ℕ, List, length}
use Rattle.est_syntax.specs.declared.specification.Spec.{Spec}
use Rattle.rule_ports.specs.Counts.{counts_of}
use Rattle.est_meaning.specs.mean_blocks.declared.fault.BlockFault.{BlockFault}
use Rattle.est_meaning.specs.mean_blocks.GlobalSituation.{Situation}
use Rattle.est_meaning.specs.mean_blocks.Outcome.{Done, Fault, Limit}
use Rattle.est_meaning.specs.mean_blocks.TextByPlace.{text_of}
use Rattle.est_meaning.specs.declared.event.Event.{Event}
use Rattle.est_meaning.specs.RecordedTraces.{Recorded}
use Rattle.est_meaning.specs.FiringSteps.{start_of}
use Rattle.est_search.specs.Verdict.{IsVerdict}
use Rattle.est_search.specs.declared.verdict.Verdict.{Verdict}
use Rattle.call_files.specs.est_explanation.Replay.{IsReplay}
use Rattle.call_files.specs.est_explanation.declared.explanation.Explanation.{Explanation}
use Rattle.call_files.specs.est_explanation.declared.verdict.Replayed.{Replayed}
use Rattle.call_files.specs.FileEnds.{End, reported, EndsAt, HoldsSpecification}
use Rattle.call_files.specs.FileEnds.{HoldsTrace, HoldsExplanation}
use Rattle.call_files.specs.declared.file.File.TheVariants as file
use Rattle.call_files.specs.declared.status.Status.TheVariants.{Fine, OverBudget, NoStart}
use Rattle.call_files.specs.ReadableReports.{IsReadable}
use Rattle.call_files.specs.Reports.{ok_line}
use Rattle.est_tool.specs.ReplayReports.{replay_line}
use Rattle.call_files.specs.SearchReports.{no_start_line, over_start_line, verdict_report}
use Rattle.call_files.specs.Seen.{Seen}
use Rattle.est_tool.specs.ReplayReports.{replay_status}
use Rattle.est_tool.specs.SelfRuns.{SelfRunEnds}
use Rattle.est_meaning.specs.Task.{setup_from}
use Rattle.call_files.specs.SearchReports.{verdict_status}
use Rattle.call_files.specs.FileTexts.{RefusesSpecification}
use Rattle.call_files.specs.FileTexts.{RefusesTrace, RefusesExplanation}
use Rattle.call_files.specs.Requests.{Request, check, print, explain, replay, selfrun, ports}
use Rattle.call_files.specs.Requests.{watch}
use Rattle.est_print.specs.PrintedText.{IsPrintedText}
use Rattle.est_tool.specs.PortsEnds.{PortsEnds}
use Rattle.est_tool.specs.WatchEnds.{WatchStops}

-- the report tells the numbers of the specification
abbrev pub TellsCounts : Spec → List ℕ → Type 0
TellsCounts spec report = report ≡ ok_line (counts_of spec)

-- `check` and `print` end at their file, or with a report that says this of a good specification
pub data CheckEnds (Says : Spec → List ℕ → Type 0) (shelf : Seen) (name : List ℕ)
    : End → Type 0 where
  at_its_file : (end : End) → EndsAt shelf file.Specification name RefusesSpecification end
      → CheckEnds Says shelf name end
  good : (spec : Spec) (report : List ℕ) → HoldsSpecification shelf name spec → Says spec report
      → CheckEnds Says shelf name (reported Fine report)

-- `replay` ends at the first of its files that is refused, or tells the answer
pub data ReplayEnds
    (shelf : Seen) (specification trace explanation : List ℕ) (silent statements : ℕ)
    : End → Type 0 where
  at_specification : (end : End)
      → EndsAt shelf file.Specification specification RefusesSpecification end
      → ReplayEnds shelf specification trace explanation silent statements end
  at_trace : (spec : Spec) (end : End) → HoldsSpecification shelf specification spec
      → EndsAt shelf file.Trace trace (RefusesTrace spec) end
      → ReplayEnds shelf specification trace explanation silent statements end
  at_explanation : (spec : Spec) (recorded : Recorded) (end : End)
      → HoldsSpecification shelf specification spec → HoldsTrace shelf trace spec recorded
      → EndsAt shelf file.Explanation explanation RefusesExplanation end
      → ReplayEnds shelf specification trace explanation silent statements end
  replayed : (spec : Spec) (recorded : Recorded) (read : Explanation) (answer : Replayed)
      → HoldsSpecification shelf specification spec → HoldsTrace shelf trace spec recorded
      → HoldsExplanation shelf explanation read
      → IsReplay statements silent spec recorded read.moves read.claim answer
      → ReplayEnds shelf specification trace explanation silent statements
      (reported (replay_status answer) (replay_line (length recorded.events) answer))

-- `explain` ends at the first of its files that is refused, or at a start that faults or passes its
-- limit, or tells the verdict, in a report whose numbers an explanation may have
pub data ExplainEnds (shelf : Seen) (specification trace : List ℕ) (silent budget statements : ℕ)
    : End → Type 0 where
  ends_at_specification : (end : End)
      → EndsAt shelf file.Specification specification RefusesSpecification end
      → ExplainEnds shelf specification trace silent budget statements end
  ends_at_trace : (spec : Spec) (end : End) → HoldsSpecification shelf specification spec
      → EndsAt shelf file.Trace trace (RefusesTrace spec) end
      → ExplainEnds shelf specification trace silent budget statements end
  not_started : (spec : Spec) (recorded : Recorded) (fault : BlockFault)
      → HoldsSpecification shelf specification spec → HoldsTrace shelf trace spec recorded
      → start_of statements (text_of spec) ≡ Fault fault
      → ExplainEnds shelf specification trace silent budget statements
      (reported NoStart (no_start_line fault))
  start_over : (spec : Spec) (recorded : Recorded) → HoldsSpecification shelf specification spec
      → HoldsTrace shelf trace spec recorded
      → start_of statements (text_of spec) ≡ Limit
      → ExplainEnds shelf specification trace silent budget statements
      (reported OverBudget (over_start_line statements))
  searched : (spec : Spec) (recorded : Recorded) (s : Situation) (outs : List Event)
      (verdict : Verdict)
      → HoldsSpecification shelf specification spec → HoldsTrace shelf trace spec recorded
      → start_of statements (text_of spec) ≡ Done outs s
      → IsVerdict (setup_from statements silent spec recorded s outs) budget verdict
      → IsReadable statements (length recorded.events) verdict
      → ExplainEnds shelf specification trace silent budget statements
      (reported (verdict_status verdict)
      (verdict_report statements (length recorded.events) verdict))

-- how what the words ask for ends
abbrev pub Ends : Seen → Request → End → Type 0
Ends shelf (check specification) end = CheckEnds TellsCounts shelf specification end
Ends shelf (print specification) end = CheckEnds IsPrintedText shelf specification end
Ends shelf (explain specification trace silent budget statements) end =
    ExplainEnds shelf specification trace silent budget statements end
Ends shelf (replay specification trace explanation silent statements) end =
    ReplayEnds shelf specification trace explanation silent statements end
Ends shelf (selfrun specification seed count) end = SelfRunEnds shelf specification seed count end
Ends shelf (ports specification lists silent budget statements) end =
    PortsEnds shelf specification lists silent budget statements end
Ends shelf (watch specification silent budget statements) end =
    WatchStops shelf specification statements end
