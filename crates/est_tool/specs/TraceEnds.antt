-- How a call for a trace ends.
use Rattle.std.specs.Prelude.{ℕ, List, length}
use Rattle.est_syntax.specs.declared.specification.Spec.{Spec}
use Rattle.est_meaning.specs.rule_declares.PortList.{ports_of}
use Rattle.est_meaning.specs.mean_blocks.declared.fault.BlockFault.{BlockFault}
use Rattle.est_meaning.specs.RecordedTraces.{Recorded}
use Rattle.est_meaning.specs.declared.run.Move.{Move}
use Rattle.run_make.specs.declared.made.Made.TheVariants as made
use Rattle.call_files.specs.est_trace.WrittenTraces.{trace_text}
use Rattle.call_files.specs.FileEnds.{End, reported, EndsAt, HoldsSpecification}
use Rattle.call_files.specs.FileTexts.{RefusesSpecification}
use Rattle.call_files.specs.Seen.{Seen}
use Rattle.call_files.specs.declared.file.File.TheVariants as file
use Rattle.call_files.specs.Requests.{usual_statements}
use Rattle.call_files.specs.declared.status.Status.TheVariants.{Fine, OverBudget, NoStart}
use Rattle.call_files.specs.SearchReports.{no_start_line, over_start_line}
use Rattle.call_files.specs.SelfRunReports.{limit_line}
use Rattle.est_tool.specs.SelfRuns.{IsMadeOf}

-- It ends at its file; or with the text of the one trace that is made; or at a start that faults or
-- passes its limit, or where a guard or block passes its limit while the trace is made.
pub data TraceEnds (shelf : Seen) (specification : List ℕ) (seed count : ℕ) : End → Type 0 where
  stops_at_its_file : (end : End)
      → EndsAt shelf file.Specification specification RefusesSpecification end
      → TraceEnds shelf specification seed count end
  written : (spec : Spec) (trace : Recorded) (run : List Move)
      → HoldsSpecification shelf specification spec
      → IsMadeOf spec seed count (made.Trace trace run)
      → TraceEnds shelf specification seed count
      (reported Fine (trace_text (ports_of spec) trace))
  not_started : (spec : Spec) (fault : BlockFault)
      → HoldsSpecification shelf specification spec
      → IsMadeOf spec seed count (made.NoStart fault)
      → TraceEnds shelf specification seed count (reported NoStart (no_start_line fault))
  start_over : (spec : Spec)
      → HoldsSpecification shelf specification spec
      → IsMadeOf spec seed count made.StartLimit
      → TraceEnds shelf specification seed count
      (reported OverBudget (over_start_line usual_statements))
  over : (spec : Spec) (run : List Move)
      → HoldsSpecification shelf specification spec
      → IsMadeOf spec seed count (made.Limit run)
      → TraceEnds shelf specification seed count (reported OverBudget (limit_line (length run)))
