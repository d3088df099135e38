-- What a function answers that does what the words ask for, or what is left of it.
use Rattle.std.specs.Prelude.{◌≡◌, ℕ, List, length, Result}
use Rattle.est_syntax.specs.declared.ports.Port.{Port}
use Rattle.est_syntax.specs.declared.specification.Spec.{Spec}
use Rattle.est_meaning.specs.rule_declares.PortList.{ports_of}
use Rattle.run_make.specs.declared.made.Made.{Made}
use Rattle.run_make.specs.declared.made.Made.TheVariants as made
use Rattle.call_files.specs.est_trace.WrittenTraces.{trace_text}
use Rattle.call_files.specs.Reads.{Touches}
use Rattle.call_files.specs.Seen.{Seen}
use Rattle.call_files.specs.declared.report.Report.{Report}
use Rattle.call_files.specs.declared.stop.Stop.{Stop}
use Rattle.call_files.specs.Requests.{usual_statements}
use Rattle.call_files.specs.declared.status.Status.{Status}
use Rattle.call_files.specs.declared.status.Status.TheVariants.{Fine, OverBudget, NoStart}
use Rattle.call_files.specs.SearchReports.{no_start_line, over_start_line}
use Rattle.call_files.specs.SelfRunReports.{limit_line}
use Rattle.est_tool.specs.SelfRuns.{IsMadeOf}
use Rattle.est_tool.specs.inside.Work.{IsMade}
use Rattle.est_tool.specs.TraceEnds.{TraceEnds}

-- what is written of what was made at these ports, and with which status
abbrev pub Tells : List Port → Made → Status → List ℕ → Type 0
Tells ports (made.Trace trace run) status text =
    (status ≡ Fine) × (text ≡ trace_text ports trace)
Tells ports (made.NoStart fault) status text = (status ≡ NoStart) × (text ≡ no_start_line fault)
Tells ports made.StartLimit status text =
    (status ≡ OverBudget) × (text ≡ over_start_line usual_statements)
Tells ports (made.Limit run) status text =
    (status ≡ OverBudget) × (text ≡ limit_line (length run))

-- what is written of a specification, by the one thing that is made
abbrev pub IsToldOf : Spec → ℕ → ℕ → Status → List ℕ → Type 0
IsToldOf spec seed count status text =
    (found : Made) × IsMadeOf spec seed count found
    × Tells (ports_of spec) found status text

-- the trace is made, and its text, or why there is none
pub record IsTraceWork
    (specification : List ℕ) (seed count : ℕ) (shelf : Seen) (result : Result Report Stop)
    : Type 0 where
  pub touches : Touches specification shelf result
  pub ends : IsMade (TraceEnds shelf specification seed count) result
