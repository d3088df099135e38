-- What a call writes, from what its steps answered.
use Rattle.std.proofs.Common.{◌≡◌, ◌≢◌, ◌∙◌, refl, ap, ℕ, List, Option}
use Rattle.std.proofs.Common.{Some, None, sym, subst, Result, Ok, Err}
use Rattle.std.specs.Prelude.{String, string_bytes}
use Rattle.std.proofs.Common.{[], ◌∷◌, get_or}
use Rattle.std.specs.Global.{Global}
use Rattle.call_files.specs.FaultCounts.{Rose, AllStay}
use Rattle.call_files.specs.declared.report.Report.{Report}
use Rattle.call_files.specs.est_lexer.declared.kind.Token.{Token}
use Rattle.call_files.specs.Pieces.{appended, IsPrefix}
use Rattle.call_files.specs.est_explanation.declared.verdict.Replayed.{Replayed}
use Rattle.call_files.specs.est_explanation.declared.verdict.Replayed.TheVariants.{Confirmed}
use Rattle.call_files.specs.est_explanation.declared.verdict.Replayed.TheVariants.{Rejected}
use Rattle.call_files.specs.est_check.declared.specification_error.SpecificationError.{SpecificationError}
use Rattle.call_files.specs.est_check.declared.specification_error.SpecificationError.TheVariants as specification
use Rattle.call_files.specs.est_trace.declared.error.TraceError.{TraceError}
use Rattle.call_files.specs.est_trace.declared.error.TraceError.TheVariants as trace
use Rattle.call_files.specs.est_explanation.declared.error.ExplanationError.{ExplanationError}
use Rattle.call_files.specs.est_explanation.declared.error.ExplanationError.TheVariants as explanation
use Rattle.est_search.specs.declared.verdict.Verdict.{Verdict}
use Rattle.est_search.specs.declared.verdict.Verdict.TheVariants as verdict
use Rattle.call_files.specs.declared.stop.Stop.{Stop}
use Rattle.call_files.specs.declared.stop.Stop.TheVariants as stop
use Rattle.call_files.specs.declared.file.File.{File}
use Rattle.call_files.specs.declared.status.Status.{Status}
use Rattle.call_files.specs.declared.status.Status.TheVariants.{Fine, Refused, BadSpec, BadTrace}
use Rattle.call_files.specs.declared.status.Status.TheVariants.{BadExplanation, OverBudget, TooLong}
use Rattle.call_files.specs.declared.status.Status.TheVariants.{Usage, ReadFault, WriteFault}
use Rattle.call_files.specs.declared.status.Status.TheVariants.{OutOfMemory, NoStart}
use Rattle.est_tool.specs.ReplayReports.{replay_status}
use Rattle.call_files.specs.SearchReports.{verdict_status}
use Rattle.call_files.specs.FileTexts.{Holds, Refusals, RefusesSpecification, RefusesTrace}
use Rattle.call_files.specs.FileTexts.{RefusesExplanation, RefusesLists, SaysOfSpecification}
use Rattle.call_files.specs.FileTexts.{SaysOfTrace, SaysOfExplanation, IsReported}
use Rattle.call_files.specs.Requests.{Request, check, print, explain, replay, selfrun, ports}
use Rattle.call_files.specs.Requests.{watch, Asks, AsksNothing, AsksToWatch, bytes_of}
use Rattle.est_meaning.specs.declared.run.Limits.{Limits}
use Rattle.call_files.proofs.RequestLaws.{watch_one}
use Rattle.call_files.specs.Seen.{Shelved, Seen, seen, Sent, sent}
use Rattle.call_files.specs.FileEnds.{End, reported, unread, EndsAt, longer, refused}
use Rattle.call_files.specs.FileEnds.{failed, EndsAtText, text_longer, text_refused}
use Rattle.est_print.specs.PrintedText.{IsPrintedText}
use Rattle.est_tool.specs.Ends.{TellsCounts, CheckEnds, at_its_file, good, at_specification}
use Rattle.est_tool.specs.Ends.{at_trace, at_explanation, replayed, Ends}
use Rattle.est_tool.specs.Ends.{ends_at_specification, ends_at_trace, not_started}
use Rattle.est_tool.specs.Ends.{start_over, searched}
use Rattle.est_tool.specs.PortsEnds.{PortsEnds, refused_at_specification, refused_at_lists}
use Rattle.est_tool.specs.PortsEnds.{no_start, long_start, judged}
use Rattle.mean_ports.specs.declared.verdict.PortsVerdict.{PortsVerdict}
use Rattle.mean_ports.specs.declared.verdict.PortsVerdict.TheVariants as merged
use Rattle.call_files.specs.PortReports.{ports_status}
use Rattle.est_tool.specs.Result.{Reports, Writes, IsResult, AsksForWatch, AsksForNoWatch}
use Rattle.est_tool.specs.WatchEnds.{WatchStops, WatchDoes, stops_at_file, starts_badly}
use Rattle.est_tool.specs.WatchEnds.{starts_too_long, cannot_go_on}
use Rattle.run_make.specs.declared.made.Made.{Made}
use Rattle.est_syntax.specs.declared.specification.Spec.{Spec}
use Rattle.est_tool.specs.SelfRuns.{MadeEnds, faults, start_passes, passes, refuses, explains}
use Rattle.est_tool.specs.SelfRuns.{stops_at_its_file, makes}
use Rattle.call_files.specs.Reads.{IsQuiet}
use Rattle.est_tool.specs.inside.Watching.{IsWatchWork}
use Rattle.est_tool.specs.inside.Work.{IsMade, IsObeyed, MakesReport}
use Rattle.est_tool.specs.inside.Written.{HasReport, IsReportable, IsSent, whole}
use Rattle.est_tool.specs.inside.Written.{broken_off, IsDelivered, Delivers, Sends}
use Rattle.est_tool.proofs.WorkLaws.{made_then}

-- STATUSES WITH REPORTS

-- each refusal has a status with a report
abbrev AreReportable : Refusals → Type 0
AreReportable Refuses = (text : List ℕ) (tokens : List Token) (status : Status) (place : Option ℕ)
    (why : List ℕ) → Refuses text tokens status place why → HasReport status

of_specification : (error : SpecificationError) (status : Status) (place : Option ℕ) (why : List ℕ)
    → SaysOfSpecification error status place why → HasReport status
of_specification (specification.BadToken at) status place why said = subst HasReport (sym said.0) tt
of_specification (specification.LeftOut at) status place why said = subst HasReport (sym said.0) tt
of_specification (specification.TooDeep at) status place why said = subst HasReport (sym said.0) tt
of_specification (specification.BrokenRule at rule) status place why said = subst HasReport
    (sym said.0) tt
of_specification (specification.Memory error) status place why said = absurd said

of_trace : (error : TraceError) (status : Status) (place : Option ℕ) (why : List ℕ)
    → SaysOfTrace error status place why → HasReport status
of_trace (trace.BadToken at) status place why said = subst HasReport (sym said.0) tt
of_trace (trace.TooMany at) status place why said = subst HasReport (sym said.0) tt
of_trace (trace.Memory error) status place why said = absurd said

of_explanation : (error : ExplanationError) (status : Status) (place : Option ℕ) (why : List ℕ)
    → SaysOfExplanation error status place why → HasReport status
of_explanation (explanation.BadToken at) status place why said = subst HasReport (sym said.0) tt
of_explanation (explanation.Memory error) status place why said = absurd said

of_answer : (answer : Replayed) → HasReport (replay_status answer)
of_answer (Confirmed events) = tt
of_answer (Rejected at why) = tt

of_verdict : (verdict : Verdict) → HasReport (verdict_status verdict)
of_verdict (verdict.Accepted run) = tt
of_verdict (verdict.Refused at run faulted) = tt
of_verdict (verdict.OverFirings tried) = tt
of_verdict (verdict.OverAction run events firing) = tt

of_merged : (verdict : PortsVerdict) → HasReport (ports_status verdict)
of_merged (merged.Accepted merge run) = tt
of_merged (merged.Refused most merge run) = tt
of_merged (merged.OverTries tried) = tt
of_merged (merged.OverAction merge run reached firing) = tt

of_refused : (file : File) (Refuses : Refusals) (told : Option (List ℕ)) (status : Status)
    (report : List ℕ) → AreReportable Refuses
    → Holds file told (IsReported file Refuses status report) → HasReport status
of_refused file Refuses None status report are holds = let is : _ = holds.1.is in are holds.0
    holds.1.tokens status is.place is.why is.refused
of_refused file Refuses (Some text) status report are holds = let is : _ = holds.is in are text
    holds.tokens status is.place is.why is.refused

at_file : {shelf : Seen} {file : File} {name : List ℕ} (Refuses : Refusals) (end : End)
    → AreReportable Refuses → EndsAt shelf file name Refuses end → IsReportable end
at_file Refuses _ are (longer status report long) = subst HasReport (sym long.status_is) tt
at_file {shelf} {file} {name} Refuses _ are (refused status report holds) = of_refused file Refuses
    (shelf.before.told name) status report are holds
at_file Refuses _ are (failed rose) = tt

at_text : {file : File} {text : List ℕ} (Refuses : Refusals) (end : End) → AreReportable Refuses
    → EndsAtText file text Refuses end → IsReportable end
at_text Refuses _ are (text_longer long) = tt
at_text {text = text} Refuses _ are (text_refused status report is) = let at : _ = is.is in
    are text is.tokens status at.place at.why at.refused

of_made : (spec : Spec) (made : Made) (end : End) → MadeEnds spec made end → IsReportable end
of_made spec _ _ (faults fault) = tt
of_made spec _ _ start_passes = tt
of_made spec _ _ (passes run) = tt
of_made spec _ _ (refuses trace run end at) = at_text (RefusesTrace spec) end
    (λ text tokens status place why refuses. of_trace refuses.0 status place why refuses.2) at
of_made spec _ _ (explains trace run events s outs verdict reads begun is) = of_verdict verdict

of_check : (Says : Spec → List ℕ → Type 0) (shelf : Seen) (name : List ℕ) (end : End)
    → CheckEnds Says shelf name end → IsReportable end
of_check Says shelf name _ (at_its_file end is) = at_file RefusesSpecification end
    (λ text tokens status place why refuses. of_specification refuses.0 status place why refuses.2)
    is
of_check Says shelf name _ (good spec report holds says) = tt

of_ports : (shelf : Seen) (s t : List ℕ) (silent budget statements : ℕ) (end : End)
    → PortsEnds shelf s t silent budget statements end → IsReportable end
of_ports shelf s t silent budget statements _ (refused_at_specification end is) =
    at_file RefusesSpecification end (λ text tokens status place why refuses. of_specification
    refuses.0 status place why refuses.2) is
of_ports shelf s t silent budget statements _ (refused_at_lists spec end holds is) =
    at_file (RefusesLists spec) end (λ text tokens status place why refuses. of_trace refuses.0
    status place why refuses.2) is
of_ports shelf s t silent budget statements _ (no_start spec lists fault holds listed is) = tt
of_ports shelf s t silent budget statements _ (long_start spec lists holds listed is) = tt
of_ports shelf s t silent budget statements _
    (judged spec lists situation outs verdict holds listed begun allowed is fits) =
    of_merged verdict

pub of_watch : (shelf : Seen) (name : List ℕ) (statements : ℕ) (end : End)
    → WatchStops shelf name statements end → IsReportable end
of_watch shelf name statements _ (stops_at_file end is) =
    at_file RefusesSpecification end (λ text tokens status place why refuses. of_specification
    refuses.0 status place why refuses.2) is
of_watch shelf name statements _ (starts_badly spec fault holds is) = tt
of_watch shelf name statements _ (starts_too_long spec holds is) = tt
of_watch shelf name statements _ (cannot_go_on spec outs situation holds ready rose) = tt

-- how what the words ask for ends, a report has such a status
pub ends_reportable : (shelf : Seen) (request : Request) (end : End) → Ends shelf request end
    → IsReportable end
ends_reportable shelf (check name) end ends = of_check TellsCounts shelf name end ends
ends_reportable shelf (print name) end ends = of_check IsPrintedText shelf name end ends
ends_reportable shelf (explain s t silent budget statements) _ (ends_at_specification end is) =
    at_file RefusesSpecification end (λ text tokens status place why refuses. of_specification
    refuses.0 status place why refuses.2) is
ends_reportable shelf (explain s t silent budget statements) _ (ends_at_trace spec end holds is) =
    at_file (RefusesTrace spec) end (λ text tokens status place why refuses. of_trace refuses.0
    status place why refuses.2) is
ends_reportable shelf (explain s t silent budget statements) _
    (not_started spec events fault holds traced is) = tt
ends_reportable shelf (explain s t silent budget statements) _
    (start_over spec events holds traced is) = tt
ends_reportable shelf (explain s t silent budget statements) _
    (searched spec events situation outs verdict holds traced begun is fits) = of_verdict verdict
ends_reportable shelf (replay s t e silent statements) _ (at_specification end is) =
    at_file RefusesSpecification end (λ text tokens status place why refuses. of_specification
    refuses.0 status place why refuses.2) is
ends_reportable shelf (replay s t e silent statements) _ (at_trace spec end holds is) =
    at_file (RefusesTrace spec) end (λ text tokens status place why refuses. of_trace refuses.0
    status place why refuses.2) is
ends_reportable shelf (replay s t e silent statements) _ (at_explanation spec events end holds
    traced is) = at_file RefusesExplanation end (λ text tokens status place why refuses.
    of_explanation refuses.0 status place why refuses.2) is
ends_reportable shelf (replay s t e silent statements) _ (replayed spec events read answer holds
    traced explained is) = of_answer answer
ends_reportable shelf (selfrun name seed count) _ (stops_at_its_file end is) =
    at_file RefusesSpecification end (λ text tokens status place why refuses. of_specification
    refuses.0 status place why refuses.2) is
ends_reportable shelf (selfrun name seed count) _ (makes spec made end holds is ends) =
    of_made spec made end ends
ends_reportable shelf (ports s t silent budget statements) end ends =
    of_ports shelf s t silent budget statements end ends
ends_reportable shelf (watch name silent budget statements) end ends =
    of_watch shelf name statements end ends

-- WRITTEN REPORTS

-- a written report is what the call writes
module _ (Gives : Status → List ℕ → Type 0) where
  writes_whole : (status : Status) (report : List ℕ) (before after : Option (List ℕ))
      → HasReport status → Gives status report → after ≡ appended before report
      → Writes Gives status before after
  writes_whole Fine report before after has given is = (report, given, is)
  writes_whole Refused report before after has given is = (report, given, is)
  writes_whole BadSpec report before after has given is = (report, given, is)
  writes_whole BadTrace report before after has given is = (report, given, is)
  writes_whole BadExplanation report before after has given is = (report, given, is)
  writes_whole OverBudget report before after has given is = (report, given, is)
  writes_whole TooLong report before after has given is = (report, given, is)
  writes_whole NoStart report before after has given is = (report, given, is)
  writes_whole Usage report before after has given is = absurd has
  writes_whole ReadFault report before after has given is = absurd has
  writes_whole WriteFault report before after has given is = absurd has
  writes_whole OutOfMemory report before after has given is = absurd has

  writes_sent : (status : Status) (report : List ℕ) (answer : Status)
      (before after : Option (List ℕ)) → HasReport status → Gives status report
      → IsSent status report answer before after → Writes Gives answer before after
  writes_sent status report answer before after has given (whole _ _ is) = writes_whole status
      report _ _ has given is
  writes_sent status report answer before after has given (broken_off _ _ part front is) =
      (status, report, given, part, front, is)

  -- and so where it may be that no report was made
  pub writes_delivered : (P : End → Type 0) (made : Result Report Stop) (answer : Status)
      (before after : Option (List ℕ)) → ((status : Status) (report : List ℕ)
      → P (reported status report) → Gives status report)
      → IsMade IsReportable made → IsMade P made → IsDelivered made answer before after
      → Writes Gives answer before after
  writes_delivered P (Ok made) answer before after gives has is sent = writes_sent made.status
      made.text.items answer before after has (gives made.status made.text.items
      is) sent
  writes_delivered P (Err (stop.Refused made)) answer before after gives has is sent =
      writes_sent made.status made.text.items answer before after has
      (gives made.status made.text.items is) sent
  writes_delivered P (Err stop.ReadFault) answer before after gives has is none =
      subst (λ a. Writes Gives a before after) (sym none.0) none.1
  writes_delivered P (Err stop.OutOfMemory) answer before after gives has is none =
      subst (λ a. Writes Gives a before after) (sym none.0) none.1

-- FAULTS OF READS

pub sent_no_read_fault : (status : Status) (report : List ℕ) (answer : Status)
    (before after : Option (List ℕ)) → HasReport status → IsSent status report answer before after
    → answer ≡ ReadFault → ⊥
sent_no_read_fault status report answer before after has (whole _ _ is) fault = let no : HasReport
    ReadFault = subst HasReport fault has in no
sent_no_read_fault status report answer before after has (broken_off _ _ part front is) fault = cc

-- the answer is a fault of a read only where a file could not be read
pub delivered_unread : (P : End → Type 0) (made : Result Report Stop) (answer : Status)
    (before after : Option (List ℕ))
    → IsMade IsReportable made → IsMade P made → IsDelivered made answer before after
    → answer ≡ ReadFault → P unread
delivered_unread P (Ok made) answer before after has is sent fault =
    absurd (sent_no_read_fault made.status made.text.items answer before after has sent
    fault)
delivered_unread P (Err (stop.Refused made)) answer before after has is sent fault =
    absurd (sent_no_read_fault made.status made.text.items answer before after has sent
    fault)
delivered_unread P (Err stop.ReadFault) answer before after has is none fault = is
delivered_unread P (Err stop.OutOfMemory) answer before after has is none fault =
    let f : OutOfMemory ≡ ReadFault = sym none.0 ∙ fault in cc

-- RESULTS

-- the report of what the words ask for has such a status
pub obeyed_reportable : (words : List (String Global)) (shelf : Seen) (made : Result Report Stop)
    → IsObeyed words shelf made → IsMade IsReportable made
obeyed_reportable words shelf made obeyed = made_then made (ends_reportable shelf obeyed.request)
    obeyed.work.ends

-- no count of a file rose where the answer is no fault of a read
pub delivered_quiet : (shelf : Seen) (made : Result Report Stop) (answer : Status)
    (before after : Option (List ℕ))
    → IsQuiet shelf made → IsDelivered made answer before after → answer ≢ ReadFault
    → AllStay shelf.before.faults shelf.after.faults
delivered_quiet shelf (Ok made) answer before after quiet sent not = quiet
delivered_quiet shelf (Err (stop.Refused made)) answer before after quiet sent not = quiet
delivered_quiet shelf (Err stop.ReadFault) answer before after quiet none not = absurd (not none.0)
delivered_quiet shelf (Err stop.OutOfMemory) answer before after quiet none not = quiet

-- words that ask for a request of which one report is made do not ask to watch
pub no_watch : (words : List (String Global)) (request : Request)
    → Asks (bytes_of words) request → MakesReport request → AsksForNoWatch words
no_watch words request asked made = λ s n b m asks.
    let same = watch_one (bytes_of words) s n b m request asks asked in
    let no : ⊥ = subst MakesReport (sym same) made in no

-- what the words ask for was done, and its report was written
pub obeyed_result : (words : List (String Global)) (shelf : Seen) (asked : ℕ) (output : Sent)
    (made : Result Report Stop) (answer : Status)
    → IsObeyed words shelf made → Delivers made output answer
    → IsResult words shelf asked output answer
obeyed_result words shelf asked output made answer obeyed delivers =
    let work = obeyed.work in
    let reportable = obeyed_reportable words shelf made obeyed in
    record {
      usage = (
        λ is. absurd (delivers.answers.asked is),
        λ nothing. absurd
            (nothing obeyed.request obeyed.asked),
      );
      read_fault = λ is. (
        obeyed.request,
        obeyed.asked,
        delivered_unread (Ends shelf obeyed.request)
            made answer _ _ reportable work.ends delivers.delivered is,
      );
      no_read_fault = delivered_quiet shelf made answer _ _ work.quiet delivers.delivered;
      write_fault = delivers.answers.fault;
      no_write_fault = delivers.answers.quiet;
      written = λ _. writes_delivered (Reports words shelf) (Ends shelf obeyed.request) made answer
          _ _ (λ status report is. (obeyed.request, obeyed.asked, is)) reportable work.ends
          delivers.delivered;
      watched = λ s n b m asks.
          absurd (no_watch words obeyed.request obeyed.asked obeyed.makes s n b m asks);
      told = work.told;
      idle = λ is. absurd (delivers.answers.asked is);
      started = λ _. (obeyed.request, obeyed.asked, work.names, work.starts, work.started);
    }

-- what a request to watch does
abbrev DoesOf : Seen → ℕ → Option (List ℕ) → Option (List ℕ) → Status → Request → Type 0
DoesOf shelf asked before after status (watch s n b m) =
    WatchDoes shelf asked s n b m before after status
DoesOf shelf asked before after status _ = Unit {0}

-- the words ask to watch, and that was done
pub watched_result : (words : List (String Global)) (specification : List ℕ)
    (silent budget statements : ℕ) (shelf : Seen) (asked : ℕ) (output : Sent) (status : Status)
    → AsksForWatch words specification silent budget statements
    → IsWatchWork specification silent budget statements shelf asked output status
    → IsResult words shelf asked output status
watched_result words s n b m shelf asked output status asks work = record {
  usage = (
    λ is. absurd (work.answers.asked is),
    λ nothing. absurd (nothing (watch s n b m) asks),
  );
  read_fault = λ is. (watch s n b m, asks, work.failed is);
  no_read_fault = work.quiet;
  write_fault = work.answers.fault;
  no_write_fault = work.answers.quiet;
  written = λ no. absurd (no s n b m asks);
  watched = λ s' n' b' m' asks'.
      let same = watch_one (bytes_of words) s n b m (watch s' n' b' m') asks asks' in
      subst (DoesOf shelf asked output.before.written output.after.written status) same work.does;
  told = work.told;
  idle = λ is. absurd (work.answers.asked is);
  started = λ _. (watch s n b m, asks, work.names, work.starts, work.started);
}

-- the words ask to watch within limits, of the specification that the second one names
pub watch_asked : (words : List (String Global)) (limits : Limits) (name : List ℕ)
    (specification : String Global) → AsksToWatch limits words
    → specification ≡ get_or words 1 specification → name ≡ string_bytes specification
    → AsksForWatch words name limits.silent limits.budget limits.statements
watch_asked [] limits name specification asks at named = absurd asks
watch_asked (a ∷ []) limits name specification asks at named = absurd asks
watch_asked (a ∷ b ∷ rest) limits name specification asks at named =
    subst (λ s. AsksForWatch (a ∷ b ∷ rest) s limits.silent limits.budget limits.statements)
    (ap string_bytes (sym at) ∙ sym named) asks

-- the words ask for nothing, and nothing was done
pub usage_same : (words : List (String Global)) (s : Shelved) (asked : ℕ)
    (written : Option (List ℕ)) (count : ℕ) → AsksNothing words
    → IsResult words (seen s s) asked (sent written count written count) Usage
usage_same words s asked written count nothing = record {
  usage = (λ _. nothing, λ _. refl);
  read_fault = λ e. absurd cc;
  no_read_fault = λ _ name. refl;
  write_fault = λ e. absurd cc;
  no_write_fault = λ _. refl;
  written = λ _. refl;
  watched = λ s' n b m asks. absurd (nothing (watch s' n b m) asks);
  told = λ name. refl;
  idle = λ _. refl;
  started = λ not. absurd (not refl);
}

-- a report has a status with which one is written
no_usage : (status : Status) → HasReport status → status ≢ Usage
no_usage status has is = subst HasReport is has

no_fault : (status : Status) → HasReport status → status ≢ WriteFault
no_fault status has is = subst HasReport is has

-- a report was written whole
pub sends_whole : (report : Report) (output : Sent) (bytes : List ℕ)
    → bytes ≡ report.text.items → HasReport report.status
    → output.after.written ≡ appended output.before.written bytes
    → output.after.faults ≡ output.before.faults
    → Sends report output report.status
sends_whole report output bytes same has is quiet = record {
  answers = record {
    asked = no_usage report.status has;
    fault = λ fault. absurd (no_fault report.status has fault);
    quiet = λ _. quiet;
  };
  sent = whole _ _ (is ∙ ap (appended output.before.written) same);
}

-- a write failed
pub sends_part : (report : Report) (output : Sent) (bytes part : List ℕ)
    → bytes ≡ report.text.items → IsPrefix part bytes
    → output.after.written ≡ appended output.before.written part
    → Rose output.before.faults output.after.faults
    → Sends report output WriteFault
sends_part report output bytes part same front is rose = record {
  answers = record { asked = λ e. cc; fault = λ _. rose; quiet = λ not. absurd (not refl) };
  sent = broken_off _ _ part (subst (IsPrefix part) same front) is;
}
