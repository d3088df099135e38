-- What comes of a trace that is made.
use Rattle.std.proofs.Common.{◌≡◌, ◌∙◌, ℕ, List, ◌++◌, length, ap, sym, subst}
use Rattle.est_syntax.specs.declared.specification.Spec.{Spec}
use Rattle.est_meaning.specs.RecordedTraces.{Recorded}
use Rattle.est_meaning.specs.declared.run.Move.{Move}
use Rattle.run_make.specs.declared.made.Made.{Made}
use Rattle.run_make.specs.declared.made.Made.TheVariants.{Trace, NoStart, StartLimit, Limit}
use Rattle.call_files.specs.declared.file.File.TheVariants as file
use Rattle.call_files.specs.FileEnds.{End, reported, EndsAtText}
use Rattle.call_files.specs.FileTexts.{IsText, OfTrace, RefusesTrace}
use Rattle.call_files.specs.Requests.{usual_statements}
use Rattle.call_files.specs.declared.self_run_report.Sizes.{Sizes}
use Rattle.call_files.specs.SearchReports.{verdict_status}
use Rattle.call_files.specs.SelfRunReports.{made_line, search_line}
use Rattle.est_tool.specs.SelfRuns.{IsMadeOf, MadeEnds, refuses, explains, written}
use Rattle.est_tool.specs.SelfRuns.{self_run_report}
use Rattle.est_tool.specs.inside.SelfRunning.{IsReadyFor, EndsWritten, at_text, at_trace}

-- a specification of which a trace is made starts
pub ready_for : (spec : Spec) (seed count : ℕ) (made : Made) → IsMadeOf spec seed count made
    → IsReadyFor spec made
ready_for spec seed count (Trace trace run) is = (is.makes.start, is.makes.outs, is.makes.ready)
ready_for spec seed count (NoStart fault) is = tt
ready_for spec seed count StartLimit is = tt
ready_for spec seed count (Limit run) is = tt

-- a call that ends so at the text of a trace ends so for the trace that was made
module _ (spec : Spec) (trace : Recorded) (run : List Move) (text : List ℕ) (sizes : Sizes)
    (is : text ≡ written spec trace) (events : sizes.events ≡ length trace.events)
    (bytes : sizes.bytes ≡ length text) (moves : sizes.moves ≡ length run) where
  lines : made_line sizes.events sizes.bytes sizes.moves
      ≡ made_line (length trace.events) (length (written spec trace)) (length run)
  lines = ap (λ n. made_line n sizes.bytes sizes.moves) events
      ∙ (ap (λ n. made_line (length trace.events) n sizes.moves) (bytes ∙ ap length is)
      ∙ ap (λ n. made_line (length trace.events) (length (written spec trace)) n) moves)

  pub written_ends : (end : End) → EndsWritten sizes spec text end
      → MadeEnds spec (Trace trace run) end
  written_ends _ (at_text end at) = refuses trace run end
      (subst (λ t. EndsAtText file.Trace t (RefusesTrace spec) end) is at)
  written_ends _ (at_trace read status report reads found) =
      let verdict = found.2 in
      let same : report ≡ self_run_report spec trace run read verdict =
      found.6 ∙ ap (λ l. l ++ search_line usual_statements (length read.events) verdict) lines in
      subst (λ a. MadeEnds spec (Trace trace run) (reported a report)) (sym found.5)
      (subst (λ r. MadeEnds spec (Trace trace run) (reported (verdict_status verdict) r)) (sym same)
      (explains trace run read found.0 found.1 verdict
      (subst (λ t. IsText file.Trace t (OfTrace spec read)) is reads) found.3 found.4))
