-- What a search along one trace for each port answers of good texts whose start is ready.
use Rattle.std.proofs.Common.{◌≡◌, ◌≢◌, ◌∙◌, ◌↔◌, ℕ, List, sym, subst, ap, refl, reverse}
use Rattle.std.specs.Prelude.{String}
use Rattle.std.specs.Global.{Global}
use Rattle.mean_blocks.specs.Outcome.{Done, Fault, Limit}
use Rattle.est_meaning.specs.Run.{Setup, IsBegun}
use Rattle.est_meaning.specs.Task.{setup_from}
use Rattle.mean_ports.specs.declared.lists.PortLists.{PortLists}
use Rattle.mean_ports.specs.declared.verdict.PortsVerdict.{PortsVerdict}
use Rattle.mean_ports.specs.declared.verdict.PortsVerdict.TheVariants as merged
use Rattle.mean_ports.specs.HowMany.{HasAtMost}
use Rattle.mean_ports.specs.Merges.{AreAllowedLists}
use Rattle.mean_ports.specs.PortTrials.{IsPortTrial, PassesOnTree}
use Rattle.mean_ports.specs.PortsVerdict.{IsPortsVerdict, NoneExplains}
use Rattle.mean_ports.proofs.Agreeing.{on_tree}
use Rattle.mean_ports.proofs.Counting.{too_many}
use Rattle.call_files.specs.declared.file.File.TheVariants.{Specification, Trace}
use Rattle.call_files.specs.declared.status.Status.{Status}
use Rattle.call_files.specs.declared.status.Status.TheVariants.{Fine, Refused, OverBudget}
use Rattle.call_files.specs.declared.status.Status.TheVariants.{OutOfMemory}
use Rattle.call_files.specs.FileEnds.{End, reported, unread}
use Rattle.call_files.specs.FileTexts.{OfSpecification, OfLists}
use Rattle.call_files.specs.FileTexts.{RefusesSpecification, RefusesLists}
use Rattle.call_files.specs.PortReports.{ports_status}
use Rattle.call_files.specs.Requests.{bytes_of}
use Rattle.call_files.specs.Seen.{Seen, Sent}
use Rattle.est_tool.specs.declared.search.PortsSearched.TheVariants as came
use Rattle.est_tool.specs.Ends.{Ends}
use Rattle.est_tool.specs.inside.Work.{IsMergedSo}
use Rattle.est_tool.specs.PortsEnds.{PortsEnds, setup_at, refused_at_specification}
use Rattle.est_tool.specs.PortsEnds.{refused_at_lists, no_start, long_start, judged as is_judged}
use Rattle.est_tool.specs.Result.{CallEnds, Reports, IsResult, AsksForNoWatch}
use Rattle.est_tool.proofs.ResultLaws.{no_watch}
use Rattle.law_calls.specs.Completeness.{IsJudged}
use Rattle.law_calls.specs.PortsCalls.{IsPortsOf, SomeMergeIsExplained, PortsAreComplete}
use Rattle.law_calls.proofs.Judged.{unread_rose, judged, told_of}
use Rattle.law_calls.proofs.OneRequest.{request_one}
use Rattle.law_calls.proofs.PortsStages.{AlongLists, Merges, ports_stages, merged_at}
use Rattle.law_calls.proofs.SearchStages.{limits_of}
use Rattle.law_calls.proofs.Stages.{specifications_decided, lists_decided, stage_next}

-- the verdict that a report tells
record IsTold (c : Setup) (lists : PortLists) (budget : ℕ) (status : Status) : Type 0 where
  told : PortsVerdict
  allowed : AreAllowedLists c.spec lists
  is : IsPortsVerdict c lists budget told
  status_is : status ≡ ports_status told

module _ (words : List (String Global)) (shelf : Seen) (output : Sent) (budget : ℕ) (c : Setup)
    (lists : PortLists) (of : IsPortsOf words shelf output budget c lists) where
  -- how the call ends is how the search does
  ports_end : (end : End) → CallEnds words shelf end
      → PortsEnds shelf of.specification of.listed c.silent budget c.limit end
  ports_end end ends = subst (λ request. Ends shelf request end)
      (request_one (bytes_of words) ends.0 _ ends.1 of.asked) ends.2

  -- it does not end for a file that could not be read
  not_unread : (end : End) → end ≡ unread
      → PortsEnds shelf of.specification of.listed c.silent budget c.limit end → ⊥
  not_unread _ is (refused_at_specification end at) =
      of.specification_told.quiet (unread_rose shelf Specification _ _ end is at)
  not_unread _ is (refused_at_lists spec end holds at) =
      of.lists_told.quiet (unread_rose shelf Trace _ _ end is at)
  not_unread _ is (no_start spec listed fault holds held comes) = cc
  not_unread _ is (long_start spec listed holds held comes) = cc
  not_unread _ is (is_judged spec listed s outs verdict holds held begun allowed comes fits) = cc

  not_read : CallEnds words shelf unread → ⊥
  not_read ends = not_unread unread refl (ports_end unread ends)

  -- the setup is the one from this start whose trace is left open
  same_setup : setup_at c.limit c.silent c.spec c.start c.start_outs ≡ c
  same_setup = ap (λ t. setup_from c.limit c.silent c.spec t c.start c.start_outs) (sym of.untold)

  -- what came of the search is a verdict
  is_verdict : (status : Status) (report : List ℕ)
      → IsMergedSo (limits_of c.silent budget c.limit) c.spec lists status report
      → IsTold c lists budget status
  is_verdict status report (came.Found v, is, tells) = record {
    told = v;
    allowed = is.3;
    is = subst (λ d. IsPortsVerdict d lists budget v) same_setup
        (merged_at c.silent budget c.limit c.spec lists is.0 c.start is.1 c.start_outs v is.2
        of.begun is.4);
    status_is = tells.0;
  }
  is_verdict status report (came.Fault fault, is, tells) =
      let e : Done c.start_outs c.start ≡ Fault fault = sym of.begun ∙ is in absurd cc
  is_verdict status report (came.Limit, is, tells) =
      let e : Done c.start_outs c.start ≡ Limit = sym of.begun ∙ is in absurd cc

  -- a report tells a verdict
  report_told : (status : Status) (report : List ℕ) → Reports words shelf status report
      → IsTold c lists budget status
  report_told status report reports =
      let stages : Merges shelf of.specification of.listed (limits_of c.silent budget c.limit)
      status report =
      ports_stages shelf of.specification of.listed c.silent budget c.limit
      (reported status report) (ports_end (reported status report) reports) in
      let after : AlongLists shelf of.listed (limits_of c.silent budget c.limit) c.spec status
      report =
      stage_next Specification of.specification of.specification_told.bytes
      RefusesSpecification OfSpecification specifications_decided shelf
      of.specification_told.told _ c.spec of.good status report stages in
      is_verdict status report
      (stage_next Trace of.listed of.lists_told.bytes (RefusesLists c.spec)
      (OfLists c.spec) (lists_decided c.spec) shelf of.lists_told.told _ lists
      of.holds status report after)

  unwatched : AsksForNoWatch words
  unwatched = no_watch words _ of.asked tt

  ports_told : (calls : ℕ) (status : Status) → IsResult words shelf calls output status
      → status ≢ OutOfMemory → IsTold c lists budget status
  ports_told calls status result kept =
      told_of words shelf calls output _ of.asked unwatched not_read of.written (IsTold c lists budget)
      (λ s r reports. report_told s r reports) status result kept

-- a verdict has such a status
verdict_judged : (v : PortsVerdict) → IsJudged (ports_status v)
verdict_judged (merged.Accepted merge run) = tt
verdict_judged (merged.Refused most merge run) = tt
verdict_judged (merged.OverTries tried) = tt
verdict_judged (merged.OverAction merge run events firing) = tt

told_judged : (c : Setup) (lists : PortLists) (budget : ℕ) (status : Status)
    → IsTold c lists budget status → IsJudged status
told_judged c lists budget status told =
    subst IsJudged (sym told.status_is) (verdict_judged told.told)

ports_judged : (words : List (String Global)) (shelf : Seen) (calls : ℕ) (output : Sent)
    (status : Status) (budget : ℕ) (c : Setup) (lists : PortLists)
    → IsPortsOf words shelf output budget c lists
    → IsResult words shelf calls output status → IsJudged status
ports_judged words shelf calls output status budget c lists of result =
    judged words shelf calls output _ of.asked
    (unwatched words shelf output budget c lists of)
    (λ ends. not_read words shelf output budget c lists of ends) of.written
    (IsTold c lists budget)
    (λ s r reports. report_told words shelf output budget c lists of s r reports)
    (λ s told. told_judged c lists budget s told) status result

-- THE VERDICT WHERE THE LIMITS SUFFICE

module _ (c : Setup) (lists : PortLists) (budget : ℕ) (status : Status)
    (size : HasAtMost (IsPortTrial c lists) budget) where
  accepts : (v : PortsVerdict) → IsPortsVerdict c lists budget v → status ≡ ports_status v
      → (status ≡ Fine) ↔ SomeMergeIsExplained c lists
  accepts (merged.Accepted merge run) is same = ((λ e. (merge, reverse run, is)), (λ some. same))
  accepts (merged.Refused most merge run) is same = (
    (λ e. absurd (let f : Fine ≡ Refused = sym e ∙ same in cc)),
    (λ some. absurd (is.none some.0 some.1 some.2.is_merge some.2.explains)),
  )
  accepts (merged.OverTries tried) is same =
      absurd (too_many (IsPortTrial c lists) budget is.1 size)
  accepts (merged.OverAction merge run events firing) is same = (
    (λ e. absurd (let f : Fine ≡ OverBudget = sym e ∙ same in cc)),
    (λ some. absurd (is.none some.0 some.1 some.2.is_merge some.2.explains)),
  )

  refuses : (begun : IsBegun c) → AreAllowedLists c.spec lists → (PassesOnTree c lists → ⊥)
      → (v : PortsVerdict) → IsPortsVerdict c lists budget v → status ≡ ports_status v
      → (status ≡ Refused) ↔ NoneExplains c lists
  refuses begun allowed within (merged.Accepted merge run) is same = (
    (λ e. absurd (let f : Refused ≡ Fine = sym e ∙ same in cc)),
    (λ none. absurd (none merge (reverse run) is.is_merge is.explains)),
  )
  refuses begun allowed within (merged.Refused most merge run) is same =
      ((λ e. is.none), (λ none. same))
  refuses begun allowed within (merged.OverTries tried) is same =
      absurd (too_many (IsPortTrial c lists) budget is.1 size)
  refuses begun allowed within (merged.OverAction merge run events firing) is same =
      absurd (within (on_tree c lists budget merge (reverse run) events firing begun allowed is))

pub ports_complete : PortsAreComplete
ports_complete = record {
  judged = λ words shelf calls output status budget c lists of result.
      ports_judged words shelf calls output status budget c lists of result;
  accepted = λ words shelf calls output status budget c lists of result kept size.
      let told = ports_told words shelf output budget c lists of calls status result kept in
      accepts c lists budget status size told.told told.is told.status_is;
  refused = λ words shelf calls output status budget c lists of result kept size within.
      let told = ports_told words shelf output budget c lists of calls status result kept in
      refuses c lists budget status size of.begun told.allowed within told.told told.is
      told.status_is;
}
