-- What is made of a request, from what its steps answered.
use Rattle.std.proofs.Common.{◌≡◌, ◌∙◌, ◌<◌, ℕ, List, [], ◌∷◌, ◌++◌, Option, length}
use Rattle.std.proofs.Common.{sym, subst, ap, IfSome, Result, Ok, Err, append_assoc}
use Rattle.std.specs.Result.{IsErr, IsErrAnd}
use Rattle.call_files.specs.est_lexer.declared.kind.Token.{Token}
use Rattle.call_files.specs.FaultCounts.{AllStay}
use Rattle.call_files.specs.Pieces.{SameTold}
use Rattle.call_files.proofs.CountLaws.{AllStay-then, rose_then}
use Rattle.call_files.proofs.PieceLaws.{SameTold-then}
use Rattle.est_syntax.specs.declared.specification.Spec.{Spec}
use Rattle.est_meaning.specs.RecordedTraces.{Recorded}
use Rattle.call_files.specs.est_explanation.declared.explanation.Explanation.{Explanation}
use Rattle.est_meaning.specs.declared.run.Limits.{Limits}
use Rattle.est_tool.specs.declared.search.Searched.{Searched}
use Rattle.est_tool.specs.declared.search.Searched.TheVariants as came
use Rattle.est_tool.specs.declared.search.PortsSearched.{PortsSearched}
use Rattle.est_tool.specs.declared.search.PortsSearched.TheVariants as ports_came
use Rattle.mean_ports.specs.declared.lists.PortLists.{PortLists}
use Rattle.est_meaning.specs.rule_declares.PortList.{ports_of}
use Rattle.call_files.specs.declared.report.Report.{Report}
use Rattle.call_files.specs.declared.stop.Stop.{Stop}
use Rattle.call_files.specs.declared.stop.Stop.TheVariants.{Refused, ReadFault, OutOfMemory}
use Rattle.call_files.specs.declared.file.File.{File}
use Rattle.call_files.specs.declared.status.Status.{Status}
use Rattle.call_files.specs.Files.{limit_of}
use Rattle.est_tool.specs.ReplayReports.{replay_status}
use Rattle.call_files.specs.Seen.{Shelved, Seen, seen}
use Rattle.call_files.specs.FileTexts.{Holds, Refusals, IsReported, OfSpecification}
use Rattle.call_files.specs.FileTexts.{OfTrace, OfLists, OfExplanation}
use Rattle.call_files.specs.Requests.{Request, check, print, explain, replay, selfrun, ports}
use Rattle.call_files.specs.Requests.{watch}
use Rattle.call_files.specs.FileEnds.{End, reported, IsTooLong, EndsAt, longer, refused, failed}
use Rattle.call_files.specs.FileEnds.{HoldsSpecification, HoldsTrace, HoldsLists}
use Rattle.call_files.specs.FileEnds.{HoldsExplanation}
use Rattle.call_files.specs.est_check.SentenceOf.{IsSentence}
use Rattle.est_print.specs.PrintedText.{IsOfSentence, IsPrintedText}
use Rattle.est_tool.specs.Ends.{TellsCounts, CheckEnds, at_its_file, good}
use Rattle.est_tool.specs.Ends.{ReplayEnds, at_specification}
use Rattle.est_tool.specs.Ends.{at_trace, at_explanation, replayed, Ends}
use Rattle.est_tool.specs.Ends.{ExplainEnds, ends_at_specification, ends_at_trace}
use Rattle.est_tool.specs.Ends.{not_started, start_over, searched}
use Rattle.est_tool.specs.SelfRuns.{stops_at_its_file, makes}
use Rattle.est_tool.specs.PortsEnds.{PortsEnds, refused_at_specification, refused_at_lists}
use Rattle.est_tool.specs.PortsEnds.{no_start, long_start, judged}
use Rattle.est_tool.specs.WatchEnds.{WatchStops, stops_at_file, starts_badly, starts_too_long}
use Rattle.est_tool.specs.WatchEnds.{cannot_go_on}
use Rattle.call_watch.specs.Endings.{standard_input}
use Rattle.est_tool.specs.Started.{SearchStarts, first_alone, both, WatchStarts, its_file}
use Rattle.est_tool.specs.Started.{and_text}
use Rattle.est_tool.specs.Started.{ReplayStarts, one, two, three, Starts}
use Rattle.call_files.specs.Reads.{IsStop, IsQuiet, ReadsFile}
use Rattle.est_tool.specs.inside.Work.{IsMade, Gives, IsReport, IsFine}
use Rattle.est_tool.specs.inside.Work.{IsAnswered, Tells, IsExplained, IsWork}
use Rattle.est_tool.specs.inside.Work.{TellsPorts, IsMergedSo}
use Rattle.est_tool.specs.inside.Searching.{IsSearched, IsPortsSearched}
use Rattle.call_files.proofs.ReadLaws.{stop_then, stops_for, quiet_any, quiet_stop}

-- what is held where a shelf tells the same as before was held before
pub holds_before : (file : File) {old new : Option (List ℕ)} (Is : List ℕ → List Token → Type 0)
    → new ≡ old → Holds file new Is → Holds file old Is
holds_before file Is same holds = subst (λ told. Holds file told Is) same holds

-- what is held where a shelf tells the same after was held before
pub holds_after : (file : File) {old new : Option (List ℕ)} (Is : List ℕ → List Token → Type 0)
    → new ≡ old → Holds file old Is → Holds file new Is
holds_after file Is same holds = holds_before file Is (sym same) holds

-- what holds of the end of a command holds in a weaker form too
pub made_then : {P Q : End → Type 0} (made : Result Report Stop) → ((end : End) → P end → Q end)
    → IsMade P made → IsMade Q made
made_then (Ok made) weaker holds = weaker _ holds
made_then (Err e) weaker holds = stop_then e weaker holds

-- a report of which this holds ends a command so
pub given : (P : Status → List ℕ → Type 0) (Q : End → Type 0) (r : Result Report Stop)
    → ((status : Status) (report : List ℕ) → P status report → Q (reported status report))
    → Gives P r → IsMade Q r
given P Q (Ok report) at gives = at _ _ gives
given P Q (Err stop) at gives = subst (IsStop Q) (sym gives) tt

-- and so where it is one report
pub given_one : (Q : End → Type 0) (status : Status) (report : List ℕ) (r : Result Report Stop)
    → Q (reported status report) → Gives (IsReport status report) r → IsMade Q r
given_one Q status report r holds gives = given (IsReport status report) Q r
    (λ a b is. subst (λ z. Q (reported z b)) (sym is.0)
    (subst (λ z. Q (reported status z)) (sym is.1) holds)) gives

-- The shelf told the same under each name, and its counts were the same, when this part of a call
-- began.
module _ (before middle after : Shelved) (same : SameTold before.told middle.told)
    (stay : AllStay before.faults middle.faults) where
  too_long_before : {file : File} {name : List ℕ} (status : Status) (report : List ℕ)
      → IsTooLong (seen middle after) file name status report
      → IsTooLong (seen before after) file name status report
  too_long_before {file} {name} status report long = record {
    longer = subst (λ t. IfSome t (λ bytes. limit_of file < length bytes)) (same name) long.longer;
    taken = long.taken;
    status_is = long.status_is;
    report_is = long.report_is;
  }

  file_before : {file : File} {name : List ℕ} {Refuses : Refusals} (end : End)
      → EndsAt (seen middle after) file name Refuses end
      → EndsAt (seen before after) file name Refuses end
  file_before _ (longer status report long) = longer status report (too_long_before status report
      long)
  file_before {file} {name} {Refuses} _ (refused status report is) =
      refused status report (holds_before file (IsReported file Refuses status report) (same name)
      is)
  file_before {name = name} _ (failed rose) = failed (rose_then stay name rose)

  text_before : (name : List ℕ) (spec : Spec) → HoldsSpecification (seen middle after) name spec
      → HoldsSpecification (seen before after) name spec
  text_before name spec holds = holds_before _ (OfSpecification spec) (same name) holds

  watch_before : (name : List ℕ) (statements : ℕ) (end : End)
      → WatchStops (seen middle after) name statements end
      → WatchStops (seen before after) name statements end
  watch_before name statements _ (stops_at_file end at) = stops_at_file end (file_before end at)
  watch_before name statements _ (starts_badly spec fault holds is) =
      starts_badly spec fault (text_before name spec holds) is
  watch_before name statements _ (starts_too_long spec holds is) =
      starts_too_long spec (text_before name spec holds) is
  watch_before name statements _ (cannot_go_on spec outs situation holds ready rose) =
      cannot_go_on spec outs situation (text_before name spec holds) ready
      (rose_then stay standard_input rose)

  check_before : (Says : Spec → List ℕ → Type 0) (name : List ℕ) (end : End)
      → CheckEnds Says (seen middle after) name end → CheckEnds Says (seen before after) name end
  check_before Says name _ (at_its_file end at) = at_its_file end (file_before end at)
  check_before Says name _ (good spec report holds says) =
      good spec report (text_before name spec holds) says

  ends_before : (request : Request) (end : End) → Ends (seen middle after) request end
      → Ends (seen before after) request end
  ends_before (check s) end ends = check_before TellsCounts s end ends
  ends_before (print s) end ends = check_before IsPrintedText s end ends
  ends_before (explain s t n b m) _ (ends_at_specification end at) = ends_at_specification end
      (file_before end at)
  ends_before (explain s t n b m) _ (ends_at_trace spec end holds at) = ends_at_trace spec end
      (text_before s spec holds) (file_before end at)
  ends_before (explain s t n b m) _ (not_started spec trace fault holds traced is) =
      not_started spec trace fault (text_before s spec holds)
      (holds_before _ (OfTrace spec trace) (same t) traced) is
  ends_before (explain s t n b m) _ (start_over spec trace holds traced is) =
      start_over spec trace (text_before s spec holds)
      (holds_before _ (OfTrace spec trace) (same t) traced) is
  ends_before (explain s t n b m) _
      (searched spec trace situation outs verdict holds traced begun is fits) =
      searched spec trace situation outs verdict (text_before s spec holds)
      (holds_before _ (OfTrace spec trace) (same t) traced) begun is fits
  ends_before (replay s t e n m) _ (at_specification end at) = at_specification end
      (file_before end at)
  ends_before (replay s t e n m) _ (at_trace spec end holds at) = at_trace spec end
      (text_before s spec holds) (file_before end at)
  ends_before (replay s t e n m) _ (at_explanation spec trace end holds traced at) =
      at_explanation spec trace end (text_before s spec holds)
      (holds_before _ (OfTrace spec trace) (same t) traced) (file_before end at)
  ends_before (replay s t e n m) _ (replayed spec trace read answer holds traced explained is) =
      replayed spec trace read answer (text_before s spec holds)
      (holds_before _ (OfTrace spec trace) (same t) traced)
      (holds_before _ (OfExplanation read) (same e) explained) is
  ends_before (selfrun s n m) _ (stops_at_its_file end at) = stops_at_its_file end
      (file_before end at)
  ends_before (selfrun s n m) _ (makes spec made end holds is ends) = makes spec made end
      (text_before s spec holds) is ends
  ends_before (ports s t n b m) _ (refused_at_specification end at) =
      refused_at_specification end (file_before end at)
  ends_before (ports s t n b m) _ (refused_at_lists spec end holds at) =
      refused_at_lists spec end (text_before s spec holds) (file_before end at)
  ends_before (ports s t n b m) _ (no_start spec lists fault holds listed is) =
      no_start spec lists fault (text_before s spec holds)
      (holds_before _ (OfLists spec lists) (same t) listed) is
  ends_before (ports s t n b m) _ (long_start spec lists holds listed is) =
      long_start spec lists (text_before s spec holds)
      (holds_before _ (OfLists spec lists) (same t) listed) is
  ends_before (ports s t n b m) _
      (judged spec lists situation outs verdict holds listed begun allowed is fits) =
      judged spec lists situation outs verdict (text_before s spec holds)
      (holds_before _ (OfLists spec lists) (same t) listed) begun allowed is fits
  ends_before (watch s n b m) end ends = watch_before s m end ends

  replay_starts_before : (s t e : List ℕ) (names : List (List ℕ))
      → ReplayStarts (seen middle after) s t e names → ReplayStarts (seen before after) s t e names
  replay_starts_before s t e _ one = one
  replay_starts_before s t e _ (two spec holds) = two spec (text_before s spec holds)
  replay_starts_before s t e _ (three spec trace holds traced) =
      three spec trace (text_before s spec holds)
      (holds_before _ (OfTrace spec trace) (same t) traced)

  search_starts_before : (s t : List ℕ) (names : List (List ℕ))
      → SearchStarts (seen middle after) s t names → SearchStarts (seen before after) s t names
  search_starts_before s t _ first_alone = first_alone
  search_starts_before s t _ (both spec holds) = both spec (text_before s spec holds)

  watch_starts_before : (s : List ℕ) (statements : ℕ) (names : List (List ℕ))
      → WatchStarts (seen middle after) s statements names
      → WatchStarts (seen before after) s statements names
  watch_starts_before s statements _ its_file = its_file
  watch_starts_before s statements _ (and_text spec outs situation holds ready) =
      and_text spec outs situation (text_before s spec holds) ready

  starts_before : (request : Request) (names : List (List ℕ))
      → Starts (seen middle after) request names → Starts (seen before after) request names
  starts_before (check s) names starts = starts
  starts_before (print s) names starts = starts
  starts_before (explain s t n b m) names starts = search_starts_before s t names starts
  starts_before (replay s t e n m) names starts = replay_starts_before s t e names starts
  starts_before (selfrun s n m) names starts = starts
  starts_before (ports s t n b m) names starts = search_starts_before s t names starts
  starts_before (watch s n b m) names starts = watch_starts_before s m names starts

  quiet_before : {A : Type 0} (r : Result A Stop) → IsQuiet (seen middle after) r
      → IsQuiet (seen before after) r
  quiet_before (Ok x) quiet = AllStay-then stay quiet
  quiet_before (Err (Refused report)) quiet = AllStay-then stay quiet
  quiet_before (Err ReadFault) quiet = tt
  quiet_before (Err OutOfMemory) quiet = AllStay-then stay quiet

module _
    {A : Type 0} {file : File} {name : List ℕ} (Is : A → List ℕ → List Token
    → Type 0) (Refuses : Refusals)
    (done : List (List ℕ)) (request : Request)
  where
    -- the work stops at a file
    pub stops_at : (shelf : Seen) (r : Result Report Stop) (e : Stop)
        → IsErr r × IsErrAnd r (λ x. x ≡ e) → ReadsFile file name Is Refuses shelf (Err e)
        → Starts shelf request (done ++ name ∷ [])
        → ((end : End) → EndsAt shelf file name Refuses end → Ends shelf request end)
        → IsWork done request shelf r
    stops_at shelf r e is reads starts at = stops_for (IsWork done request shelf) r e is (record {
      told = reads.touches.told;
      quiet = quiet_stop A Report shelf e reads.touches.quiet;
      names = name ∷ [];
      started = reads.touches.started;
      starts = starts;
      ends = stop_then e at reads.ended;
    })

    -- a file was read, and then the rest of the work was done
    pub goes_on : (before middle after : Shelved) (x : A) (r : Result Report Stop)
        → ReadsFile file name Is Refuses (seen before middle) (Ok x)
        → IsWork (done ++ name ∷ []) request (seen middle after) r
        → IsWork done request (seen before after) r
    goes_on before middle after x r reads work =
        let same = reads.touches.told in
        let stay = reads.touches.quiet in
        record {
          told = SameTold-then same work.told;
          quiet = quiet_before before middle after same stay r work.quiet;
          names = name ∷ work.names;
          started = work.started ∙ ap (λ names. names ++ work.names) reads.touches.started
              ∙ append_assoc before.started (name ∷ []) work.names;
          starts = subst (λ names. Starts (seen before after) request names)
              (append_assoc done (name ∷ []) work.names)
              (starts_before before middle after same stay request _ work.starts);
          ends = made_then r (λ end at. ends_before before middle after same stay request end at)
              work.ends;
        }

    -- the last file was read, and the rest of the work was done
    pub ends_made : (shelf : Seen) (x : A) (r : Result Report Stop) (Q : End → Type 0)
        → ReadsFile file name Is Refuses shelf (Ok x) → IsMade Q r
        → Starts shelf request (done ++ name ∷ [])
        → ((end : End) → Q end → Ends shelf request end)
        → IsWork done request shelf r
    ends_made shelf x r Q reads made starts at = record {
      told = reads.touches.told;
      quiet = quiet_any shelf r reads.touches.quiet;
      names = name ∷ [];
      started = reads.touches.started;
      starts = starts;
      ends = made_then r at made;
    }

    -- the last file was read, and the report was made
    pub ends_work : (shelf : Seen) (x : A) (r : Result Report Stop) (P : Status → List ℕ → Type 0)
        → ReadsFile file name Is Refuses shelf (Ok x) → Gives P r
        → Starts shelf request (done ++ name ∷ []) → ((status : Status) (report : List ℕ)
        → P status report → Ends shelf request (reported status report))
        → IsWork done request shelf r
    ends_work shelf x r P reads gives starts at = ends_made shelf x r (Ends shelf request) reads
        (given P (Ends shelf request) r at gives) starts (λ end ends. ends)

-- REPORTS

-- a specification that was checked is one that can be printed
pub of_sentence : (spec : Spec) → IsSentence spec → IsOfSentence spec
of_sentence spec is =
    record { source = is.text; read = is.tokens; listed = is.listed; tree = is.tree }

pub check_reports : (Says : Spec → List ℕ → Type 0) (shelf : Seen) (name : List ℕ) (spec : Spec)
    → HoldsSpecification shelf name spec
    → (status : Status) (report : List ℕ) → IsFine Says spec status report
    → CheckEnds Says shelf name (reported status report)
check_reports Says shelf name spec holds status report is =
    subst (λ s. CheckEnds Says shelf name (reported s report)) (sym is.0)
    (good spec report holds is.1)

-- an end with this status and this report
ends_so : (shelf : Seen) (s t : List ℕ) (silent budget statements : ℕ) (a b : Status)
    (r q : List ℕ) → (a ≡ b) × (r ≡ q)
    → ExplainEnds shelf s t silent budget statements (reported b q)
    → ExplainEnds shelf s t silent budget statements (reported a r)
ends_so shelf s t silent budget statements a b r q same ends =
    subst (λ z. ExplainEnds shelf s t silent budget statements (reported z r)) (sym same.0)
    (subst (λ z. ExplainEnds shelf s t silent budget statements (reported b z)) (sym same.1) ends)

explain_reports : (shelf : Seen) (s t : List ℕ) (limits : Limits) (spec : Spec)
    (trace : Recorded) → HoldsSpecification shelf s spec → HoldsTrace shelf t spec trace
    → (status : Status) (report : List ℕ) (found : Searched) → IsSearched limits spec trace found
    → Tells limits.statements (length trace.events) found status report
    → ExplainEnds shelf s t limits.silent limits.budget limits.statements (reported status report)
explain_reports shelf s t limits spec trace holds traced status report (came.Found verdict) is
    tells = ends_so shelf s t _ _ _ _ _ _ _ (tells.0, tells.1)
    (searched spec trace is.0 is.1 verdict holds traced is.2 is.3 tells.2)
explain_reports shelf s t limits spec trace holds traced status report (came.Fault fault) is
    tells = ends_so shelf s t _ _ _ _ _ _ _ tells (not_started spec trace fault holds traced is)
explain_reports shelf s t limits spec trace holds traced status report came.Limit is tells =
    ends_so shelf s t _ _ _ _ _ _ _ tells (start_over spec trace holds traced is)

pub search_reports : (shelf : Seen) (s t : List ℕ) (limits : Limits) (spec : Spec)
    (trace : Recorded) → HoldsSpecification shelf s spec → HoldsTrace shelf t spec trace
    → (status : Status) (report : List ℕ) → IsExplained limits spec trace status report
    → ExplainEnds shelf s t limits.silent limits.budget limits.statements (reported status report)
search_reports shelf s t limits spec trace holds traced status report is =
    explain_reports shelf s t limits spec trace holds traced status report is.0 is.1 is.2

pub replay_reports : (shelf : Seen) (s t e : List ℕ) (silent statements : ℕ) (spec : Spec)
    (trace : Recorded) (read : Explanation)
    → HoldsSpecification shelf s spec → HoldsTrace shelf t spec trace
    → HoldsExplanation shelf e read
    → (status : Status) (report : List ℕ)
    → IsAnswered silent statements spec trace read status report
    → ReplayEnds shelf s t e silent statements (reported status report)
replay_reports shelf s t e silent statements spec trace read holds traced explained status report
    is =
    subst (λ z. ReplayEnds shelf s t e silent statements (reported z report)) (sym is.2)
    (subst (λ r. ReplayEnds shelf s t e silent statements (reported (replay_status is.0) r))
    (sym is.3)
    (replayed spec trace read is.0 holds traced explained is.1))

-- ONE TRACE FOR EACH PORT

-- an end with this status and this report
merged_so : (shelf : Seen) (s t : List ℕ) (silent budget statements : ℕ) (a b : Status)
    (r q : List ℕ) → (a ≡ b) × (r ≡ q)
    → PortsEnds shelf s t silent budget statements (reported b q)
    → PortsEnds shelf s t silent budget statements (reported a r)
merged_so shelf s t silent budget statements a b r q same ends =
    subst (λ z. PortsEnds shelf s t silent budget statements (reported z r)) (sym same.0)
    (subst (λ z. PortsEnds shelf s t silent budget statements (reported b z)) (sym same.1) ends)

ports_reports : (shelf : Seen) (s t : List ℕ) (limits : Limits) (spec : Spec) (lists : PortLists)
    → HoldsSpecification shelf s spec → HoldsLists shelf t spec lists
    → (status : Status) (report : List ℕ) (found : PortsSearched)
    → IsPortsSearched limits spec lists found
    → TellsPorts (ports_of spec) limits.statements found status report
    → PortsEnds shelf s t limits.silent limits.budget limits.statements (reported status report)
ports_reports shelf s t limits spec lists holds listed status report (ports_came.Found verdict) is
    tells = merged_so shelf s t _ _ _ _ _ _ _ (tells.0, tells.1)
    (judged spec lists is.0 is.1 verdict holds listed is.2 is.3 is.4 tells.2)
ports_reports shelf s t limits spec lists holds listed status report (ports_came.Fault fault) is
    tells = merged_so shelf s t _ _ _ _ _ _ _ tells (no_start spec lists fault holds listed is)
ports_reports shelf s t limits spec lists holds listed status report ports_came.Limit is tells =
    merged_so shelf s t _ _ _ _ _ _ _ tells (long_start spec lists holds listed is)

pub lists_reports : (shelf : Seen) (s t : List ℕ) (limits : Limits) (spec : Spec)
    (lists : PortLists) → HoldsSpecification shelf s spec → HoldsLists shelf t spec lists
    → (status : Status) (report : List ℕ) → IsMergedSo limits spec lists status report
    → PortsEnds shelf s t limits.silent limits.budget limits.statements (reported status report)
lists_reports shelf s t limits spec lists holds listed status report is =
    ports_reports shelf s t limits spec lists holds listed status report is.0 is.1 is.2
