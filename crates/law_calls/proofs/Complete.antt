-- What a search answers of good texts whose start is ready.
use Rattle.std.proofs.Common.{◌≡◌, ◌≢◌, ◌∙◌, ℕ, List, sym, subst, refl}
use Rattle.std.specs.Prelude.{String}
use Rattle.std.specs.Global.{Global}
use Rattle.mean_blocks.specs.Outcome.{Done, Fault, Limit}
use Rattle.est_meaning.specs.Run.{Setup}
use Rattle.est_meaning.specs.Trials.{IsTrial}
use Rattle.est_search.specs.declared.verdict.Verdict.{Verdict}
use Rattle.est_search.specs.declared.verdict.Verdict.TheVariants as verdict
use Rattle.est_search.specs.Verdict.{IsVerdict}
use Rattle.est_search.proofs.OneVerdict.{too_many}
use Rattle.call_files.specs.declared.file.File.TheVariants.{Specification, Trace}
use Rattle.est_tool.specs.declared.search.Searched.TheVariants as came
use Rattle.call_files.specs.declared.status.Status.{Status}
use Rattle.call_files.specs.declared.status.Status.TheVariants.{Fine, Refused, OutOfMemory}
use Rattle.law_calls.specs.Completeness.{IsSearchOf, IsJudged, IsWithinLimits, Decides}
use Rattle.law_calls.specs.Completeness.{SearchIsComplete}
use Rattle.call_files.specs.FileEnds.{End, reported, unread}
use Rattle.est_tool.specs.Ends.{Ends}
use Rattle.est_tool.specs.Ends.{ExplainEnds, ends_at_specification, ends_at_trace}
use Rattle.est_tool.specs.Ends.{not_started, start_over, searched}
use Rattle.call_files.specs.FileTexts.{OfSpecification, OfTrace}
use Rattle.call_files.specs.FileTexts.{RefusesSpecification, RefusesTrace}
use Rattle.call_files.specs.Requests.{bytes_of}
use Rattle.est_tool.specs.Result.{CallEnds, Reports, IsResult, AsksForNoWatch}
use Rattle.est_tool.proofs.ResultLaws.{no_watch}
use Rattle.call_files.specs.Seen.{Seen, Sent}
use Rattle.call_files.specs.SearchReports.{verdict_status}
use Rattle.est_tool.specs.inside.Work.{IsExplained}
use Rattle.law_calls.proofs.OneRequest.{request_one}
use Rattle.law_calls.proofs.Judged.{unread_rose, judged, told_of}
use Rattle.law_calls.proofs.Stages.{specifications_decided, traces_decided, stage_next}
use Rattle.law_calls.proofs.SearchStages.{limits_of, Explains as Stages, Searches, explain_stages}
use Rattle.law_calls.proofs.SearchStages.{verdict_at}

-- the verdict that a report tells
record IsTold (c : Setup) (budget : ℕ) (status : Status) : Type 0 where
  told : Verdict
  is : IsVerdict c budget told
  status_is : status ≡ verdict_status told

module _ (words : List (String Global)) (shelf : Seen) (output : Sent) (budget : ℕ) (c : Setup)
    (search_of : IsSearchOf words shelf output budget c) where
  -- how the call ends is how the search does
  search_ends : (end : End) → CallEnds words shelf end
      → ExplainEnds shelf search_of.specification search_of.trace c.silent budget c.limit end
  search_ends end ends = subst (λ request. Ends shelf request end)
      (request_one (bytes_of words) ends.0 _ ends.1 search_of.asked) ends.2

  -- it does not end for a file that could not be read
  not_unread : (end : End) → end ≡ unread
      → ExplainEnds shelf search_of.specification search_of.trace c.silent budget c.limit end → ⊥
  not_unread _ is (ends_at_specification end at) =
      search_of.specification_told.quiet (unread_rose shelf Specification _ _ end is at)
  not_unread _ is (ends_at_trace spec end holds at) =
      search_of.trace_told.quiet (unread_rose shelf Trace _ _ end is at)
  not_unread _ is (not_started spec recorded fault holds traced comes) = cc
  not_unread _ is (start_over spec recorded holds traced comes) = cc
  not_unread _ is (searched spec recorded s outs verdict holds traced begun comes fits) = cc

  -- what came of the search is a verdict
  is_verdict : (status : Status) (report : List ℕ)
      → IsExplained (limits_of c.silent budget c.limit) c.spec c.trace status report
      → IsTold c budget status
  is_verdict status report (came.Found v, is, tells) = record {
    told = v;
    is = verdict_at (limits_of c.silent budget c.limit) c.spec c.trace is.0 c.start is.1
        c.start_outs v is.2 search_of.begun is.3;
    status_is = tells.0;
  }
  is_verdict status report (came.Fault fault, is, tells) =
      let e : Done c.start_outs c.start ≡ Fault fault = sym search_of.begun ∙ is in absurd cc
  is_verdict status report (came.Limit, is, tells) =
      let e : Done c.start_outs c.start ≡ Limit = sym search_of.begun ∙ is in absurd cc

  -- a report tells a verdict
  report_told : (status : Status) (report : List ℕ) → Reports words shelf status report
      → IsTold c budget status
  report_told status report reports =
      let stages : Stages shelf search_of.specification search_of.trace
      (limits_of c.silent budget c.limit) status report =
      explain_stages shelf search_of.specification search_of.trace c.silent budget c.limit
      (reported status report) (search_ends (reported status report) reports) in
      let after : Searches shelf search_of.trace (limits_of c.silent budget c.limit) c.spec status
      report =
      stage_next Specification search_of.specification search_of.specification_told.bytes
      RefusesSpecification OfSpecification specifications_decided shelf
      search_of.specification_told.told _ c.spec search_of.good status report stages in
      is_verdict status report
      (stage_next Trace search_of.trace search_of.trace_told.bytes (RefusesTrace c.spec)
      (OfTrace c.spec) (traces_decided c.spec) shelf search_of.trace_told.told _ c.trace
      search_of.traced status report after)

-- a verdict has such a status
verdict_judged : (v : Verdict) → IsJudged (verdict_status v)
verdict_judged (verdict.Accepted run) = tt
verdict_judged (verdict.Refused at run faulted) = tt
verdict_judged (verdict.OverFirings tried) = tt
verdict_judged (verdict.OverAction run events firing) = tt

told_judged : (c : Setup) (budget : ℕ) (status : Status) → IsTold c budget status → IsJudged status
told_judged c budget status told = subst IsJudged (sym told.status_is) (verdict_judged told.told)

module _ (words : List (String Global)) (shelf : Seen) (output : Sent) (budget : ℕ) (c : Setup)
    (search_of : IsSearchOf words shelf output budget c) where
  not_read : CallEnds words shelf unread → ⊥
  not_read ends = not_unread words shelf output budget c search_of unread refl
      (search_ends words shelf output budget c search_of unread ends)

  unwatched : AsksForNoWatch words
  unwatched = no_watch words _ search_of.asked tt

  -- no status but these comes
  search_judged : (calls : ℕ) (status : Status) → IsResult words shelf calls output status
      → IsJudged status
  search_judged calls status result =
      judged words shelf calls output _ search_of.asked unwatched not_read search_of.written (IsTold c budget)
      (λ s r reports. report_told words shelf output budget c search_of s r reports)
      (λ s told. told_judged c budget s told) status result

  -- and unless memory ran out, a verdict is told
  search_told : (calls : ℕ) (status : Status) → IsResult words shelf calls output status
      → status ≢ OutOfMemory → IsTold c budget status
  search_told calls status result kept =
      told_of words shelf calls output _ search_of.asked unwatched not_read search_of.written (IsTold c budget)
      (λ s r reports. report_told words shelf output budget c search_of s r reports) status result
      kept

-- the verdict where the limits suffice
decides : (c : Setup) (budget : ℕ) (status : Status) (v : Verdict) → IsVerdict c budget v
    → status ≡ verdict_status v → IsWithinLimits c budget → Decides c status
decides c budget status (verdict.Accepted run) is same within = record {
  fine = (λ e. (_, is.first.has), λ e. same);
  refused = (
    λ e. absurd (let f : Refused ≡ Fine = sym e ∙ same in cc),
    λ none. absurd (none _ is.first.has),
  );
}
decides c budget status (verdict.Refused at run faulted) is same within = record {
  fine = (
    λ e. absurd (let f : Fine ≡ Refused = sym e ∙ same in cc),
    λ run. absurd (is.unexplained.none run.0 run.1),
  );
  refused = (λ e. is.unexplained.none, λ none. same);
}
decides c budget status (verdict.OverFirings tried) is same within =
    absurd (too_many (IsTrial c) budget is.1.size within.size)
decides c budget status (verdict.OverAction run events firing) is same within =
    absurd (within.passes _ is.first.has)

pub search_complete : SearchIsComplete
search_complete = record {
  judged = λ words shelf calls output status budget c search_of result.
      search_judged words shelf output budget c search_of calls status result;
  decided = λ words shelf calls output status budget c search_of result within kept.
      let told = search_told words shelf output budget c search_of calls status result kept in
      decides c budget status told.told told.is told.status_is within;
}
