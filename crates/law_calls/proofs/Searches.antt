-- A search that accepts or refuses a trace tells the verdict on a specification and a trace.
use Rattle.std.proofs.Common.{◌≡◌, ◌∙◌, ℕ, List, length, Option, Some, None, refl, subst}
use Rattle.est_lexer.specs.declared.kind.Token.{Token}
use Rattle.est_syntax.specs.declared.specification.Spec.{Spec}
use Rattle.mean_blocks.specs.GlobalSituation.{Situation}
use Rattle.mean_blocks.specs.Outcome.{Done}
use Rattle.mean_blocks.specs.TextByPlace.{text_of}
use Rattle.est_meaning.specs.declared.event.Event.{Event}
use Rattle.est_meaning.specs.RecordedTraces.{Recorded}
use Rattle.est_meaning.specs.FiringSteps.{start_of}
use Rattle.est_search.specs.declared.verdict.Verdict.{Verdict}
use Rattle.est_search.specs.Verdict.{IsVerdict}
use Rattle.est_check.specs.declared.specification_error.SpecificationError.{SpecificationError}
use Rattle.est_check.specs.declared.specification_error.SpecificationError.TheVariants as specification
use Rattle.est_trace.specs.declared.error.TraceError.{TraceError}
use Rattle.est_trace.specs.declared.error.TraceError.TheVariants as trace
use Rattle.call_files.specs.declared.file.File.{File}
use Rattle.call_files.specs.declared.file.File.TheVariants as file
use Rattle.call_files.specs.declared.status.Status.{Status}
use Rattle.call_files.specs.declared.status.Status.TheVariants.{Fine, Refused}
use Rattle.call_files.specs.declared.status.Status.TheVariants.{OverBudget, NoStart}
use Rattle.call_files.specs.FileTexts.{Holds, Refusals, IsReported, RefusesSpecification}
use Rattle.call_files.specs.FileTexts.{RefusesTrace, SaysOfSpecification, SaysOfTrace}
use Rattle.call_files.specs.ReadableReports.{IsReadable}
use Rattle.call_files.specs.SearchReports.{over_start_line, verdict_report}
use Rattle.call_files.specs.SearchReports.{verdict_status}
use Rattle.call_files.specs.Seen.{Seen}
use Rattle.call_files.specs.FileEnds.{End, reported, EndsAt, longer, refused, failed}
use Rattle.est_meaning.specs.Task.{setup_from}
use Rattle.call_files.specs.FileEnds.{HoldsSpecification, HoldsTrace}
use Rattle.est_tool.specs.Ends.{ExplainEnds, ends_at_specification}
use Rattle.est_tool.specs.Ends.{ends_at_trace, not_started, start_over, searched}

-- the status of a search that is explained, refused or over budget
abbrev pub IsDecision : Status → Type 0
IsDecision Fine = Unit {0}
IsDecision Refused = Unit {0}
IsDecision OverBudget = Unit {0}
IsDecision _ = ⊥

-- where a text is held, there is one
held : (file : File) (told : Option (List ℕ)) (Is : List ℕ → List Token → Type 0)
    → Holds file told Is → (text : List ℕ) × (tokens : List Token) × Is text tokens
held file (Some text) Is h = (text, h.tokens, h.is)
held file None Is h = (h.0, h.1.tokens, h.1.is)

-- a refusal that is told has another status
abbrev pub RefusesSo : Refusals → Type 0
RefusesSo Refuses = (text : List ℕ) (tokens : List Token) (status : Status) (place : Option ℕ)
    (why : List ℕ) → Refuses text tokens status place why → IsDecision status → ⊥

specification_says : (error : SpecificationError) (status : Status) (place : Option ℕ)
    (why : List ℕ) → SaysOfSpecification error status place why → IsDecision status → ⊥
specification_says (specification.BadToken at) status place why h d = subst IsDecision h.0 d
specification_says (specification.LeftOut at) status place why h d = subst IsDecision h.0 d
specification_says (specification.TooDeep at) status place why h d = subst IsDecision h.0 d
specification_says (specification.BrokenRule at rule) status place why h d =
    subst IsDecision h.0 d
specification_says (specification.Memory error) status place why h d = h

pub refuses_specification : RefusesSo RefusesSpecification
refuses_specification text tokens status place why h d =
    specification_says h.0 status place why h.2 d

pub trace_says : (error : TraceError) (status : Status) (place : Option ℕ) (why : List ℕ)
    → SaysOfTrace error status place why → IsDecision status → ⊥
trace_says (trace.BadToken at) status place why h d = subst IsDecision h.0 d
trace_says (trace.TooMany at) status place why h d = subst IsDecision h.0 d
trace_says (trace.Memory error) status place why h d = h

refuses_trace : (spec : Spec) → RefusesSo (RefusesTrace spec)
refuses_trace spec text tokens status place why h d = trace_says h.0 status place why h.2 d

status_of : (s t : Status) (q r : List ℕ) → reported s q ≡ reported t r → t ≡ s
status_of s t q r e = cc

-- a call that ends at a file has another status
pub ends_not : (shelf : Seen) (file : File) (name : List ℕ) (Refuses : Refusals) → RefusesSo Refuses
    → (end : End) (status : Status) (report : List ℕ) → end ≡ reported status report
    → EndsAt shelf file name Refuses end → IsDecision status → ⊥
ends_not shelf file name Refuses so _ status report e (longer s r x) d =
    subst IsDecision (status_of s status r report e ∙ x.status_is) d
ends_not shelf file name Refuses so _ status report e (refused s r x) d =
    let h = held file (shelf.before.told name) (IsReported file Refuses s r) x in
    so h.0 h.1 s h.2.place h.2.why h.2.refused (subst IsDecision (status_of s status r report e) d)
ends_not shelf file name Refuses so _ status report e (failed x) d = cc

-- such a search found this
pub record IsFound (shelf : Seen) (specification trace : List ℕ) (silent budget statements : ℕ)
    (status : Status) (report : List ℕ) : Type 0 where
  pub spec : Spec
  pub recorded : Recorded
  pub start : Situation
  pub outs : List Event
  pub verdict : Verdict
  pub holds : HoldsSpecification shelf specification spec
  pub traced : HoldsTrace shelf trace spec recorded
  pub begun : start_of statements (text_of spec) ≡ Done outs start
  pub is : IsVerdict (setup_from statements silent spec recorded start outs) budget verdict
  pub fits : IsReadable statements (length recorded.events) verdict
  pub status_is : status ≡ verdict_status verdict
  pub report_is : report ≡ verdict_report statements (length recorded.events) verdict

-- such a search found something, or the start passed the limit
pub data Found (shelf : Seen) (specification trace : List ℕ) (silent budget statements : ℕ)
    (status : Status) (report : List ℕ) : Type 0 where
  found_so : IsFound shelf specification trace silent budget statements status report
      → Found shelf specification trace silent budget statements status report
  start_passed : status ≡ OverBudget → report ≡ over_start_line statements
      → Found shelf specification trace silent budget statements status report

module _ (shelf : Seen) (specification trace : List ℕ) (silent budget statements : ℕ)
    (status : Status) (report : List ℕ) (d : IsDecision status) where
  found_at : (end : End) → end ≡ reported status report
      → ExplainEnds shelf specification trace silent budget statements end
      → Found shelf specification trace silent budget statements status report
  found_at _ e (ends_at_specification end at) =
      absurd (ends_not shelf file.Specification specification RefusesSpecification
      refuses_specification end status report e at d)
  found_at _ e (ends_at_trace spec end holds at) =
      absurd (ends_not shelf file.Trace trace (RefusesTrace spec) (refuses_trace spec) end status
      report e at d)
  found_at _ e (not_started spec recorded fault holds traced is) =
      let same : status ≡ NoStart = cc in absurd (subst IsDecision same d)
  found_at _ e (start_over spec recorded holds traced is) =
      let same : status ≡ OverBudget = cc in
      let line : report ≡ over_start_line statements = cc in start_passed same line
  found_at _ e (searched spec recorded s outs verdict holds traced begun is fits) = found_so (record {
    spec = spec;
    recorded = recorded;
    start = s;
    outs = outs;
    verdict = verdict;
    holds = holds;
    traced = traced;
    begun = begun;
    is = is;
    fits = fits;
    status_is = cc;
    report_is = cc;
  })

  pub found : ExplainEnds shelf specification trace silent budget statements
      (reported status report)
      → Found shelf specification trace silent budget statements status report
  found ends = found_at (reported status report) refl ends
