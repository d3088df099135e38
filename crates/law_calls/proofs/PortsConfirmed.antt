-- What a search along one trace for each port reports is confirmed by a replay.
use Rattle.std.proofs.Common.{◌≡◌, ◌≤◌, ◌+◌, ◌∙◌, inl, inr, ℕ, List, [], ◌++◌, length, reverse}
use Rattle.std.proofs.Common.{Option, Some, arith, refl, sym, subst, ap, append_assoc}
use Rattle.est_lexer.specs.declared.kind.Token.{Token}
use Rattle.est_lexer.specs.TokenList.{IsTokenList}
use Rattle.est_syntax.specs.declared.specification.Spec.{Spec}
use Rattle.rule_declares.specs.PortList.{ports_of}
use Rattle.mean_blocks.specs.GlobalSituation.{Situation}
use Rattle.mean_blocks.specs.Outcome.{Done}
use Rattle.mean_blocks.specs.TextByPlace.{text_of}
use Rattle.est_meaning.specs.declared.event.Event.{Event}
use Rattle.est_meaning.specs.declared.firing.Firing.{Firing}
use Rattle.est_meaning.specs.declared.run.Move.{Move}
use Rattle.est_meaning.specs.FiringSteps.{start_of}
use Rattle.est_meaning.specs.RecordedTraces.{Recorded}
use Rattle.est_meaning.specs.Run.{Setup, Yields}
use Rattle.est_meaning.specs.Task.{setup_from}
use Rattle.mean_ports.specs.declared.lists.PortLists.{PortLists}
use Rattle.mean_ports.specs.declared.verdict.PortsVerdict.{PortsVerdict}
use Rattle.mean_ports.specs.declared.verdict.PortsVerdict.TheVariants as merged
use Rattle.mean_ports.specs.Merges.{IsMerge, AreAllowedLists}
use Rattle.mean_ports.specs.PortsVerdict.{IsPortsVerdict, IsAcceptedMerge, IsRefusedEverywhere}
use Rattle.mean_ports.specs.PortsVerdict.{IsOverSomewhere}
use Rattle.mean_ports.proofs.AllowedMerges.{merge_allowed}
use Rattle.est_trace.specs.TraceText.{IsTraceText}
use Rattle.est_trace.specs.WrittenTraces.{trace_text}
use Rattle.est_explanation.specs.declared.explanation.Explanation.{Explanation}
use Rattle.est_explanation.specs.CanonicalExplanation.{canonical, IsWritable}
use Rattle.est_explanation.specs.declared.verdict.Replayed.TheVariants.{Confirmed}
use Rattle.est_explanation.specs.Replay.{IsReplay, AnswersFrom}
use Rattle.est_explanation.proofs.Checks.{answer_one}
use Rattle.call_files.specs.declared.file.File.TheVariants as file
use Rattle.call_files.specs.declared.status.Status.{Status}
use Rattle.call_files.specs.declared.status.Status.TheVariants.{Fine, Refused, OverBudget, NoStart}
use Rattle.call_files.specs.Files.{limit_of}
use Rattle.call_files.specs.FileEnds.{End, reported, HoldsSpecification}
use Rattle.call_files.specs.FileEnds.{HoldsExplanation}
use Rattle.call_files.specs.FileTexts.{Holds, IsText, IsReported, OfSpecification, OfTrace}
use Rattle.call_files.specs.FileTexts.{OfExplanation, RefusesSpecification, RefusesTrace}
use Rattle.call_files.specs.FileTexts.{RefusesExplanation, RefusesLists}
use Rattle.call_files.specs.PortReports.{IsReadablePorts, ports_report, ports_status}
use Rattle.call_files.specs.PortReports.{refused_ports_line}
use Rattle.call_files.specs.SearchReports.{accepted_line, over_action_line, over_start_line}
use Rattle.call_files.specs.Seen.{Seen}
use Rattle.est_tool.specs.inside.Work.{IsAnswered}
use Rattle.est_tool.specs.PortsEnds.{PortsEnds, setup_at, refused_at_specification}
use Rattle.est_tool.specs.PortsEnds.{refused_at_lists, no_start, long_start, judged}
use Rattle.est_tool.specs.ReplayReports.{replay_line, replay_status}
use Rattle.law_texts.proofs.ReadBack.{texts_after}
use Rattle.law_texts.proofs.Sentences.{ports_readable}
use Rattle.law_calls.specs.Confirmations.{IsConfirmedWhole}
use Rattle.law_calls.specs.PortsCalls.{IsFedInParts, IsConfirmedMost, IsConfirmedBeforeLimit}
use Rattle.law_calls.specs.PortsCalls.{action, tries, start, PortsAreConfirmed}
use Rattle.law_calls.proofs.ConfirmedReports.{retold, yields_within, run_yields, line_whole}
use Rattle.law_calls.proofs.ConfirmedReports.{line_first}
use Rattle.law_calls.proofs.Heads.{IsHead, accepted_head, refused_ports_head, over_head, no_head}
use Rattle.law_calls.proofs.Heads.{head_between, IsTextOf, after_head}
use Rattle.law_calls.proofs.OneResult.{Replays, Runs, replay_stages}
use Rattle.law_calls.proofs.ReportParts.{same_parts}
use Rattle.law_calls.proofs.Searches.{IsDecision, RefusesSo, refuses_specification, trace_says}
use Rattle.law_calls.proofs.Searches.{ends_not}
use Rattle.law_calls.proofs.SelfRuns.{sentence_held}
use Rattle.law_calls.proofs.Stages.{AtTrace, AtExplanation, stops, goes_on, stage_next}
use Rattle.law_calls.proofs.Stages.{specifications_decided, explanations_decided}
use Rattle.law_calls.proofs.Stages.{trace_not_refused, not_long}

-- WHAT WAS FOUND

-- such a search found this
record IsFound (shelf : Seen) (specification lists : List ℕ) (silent budget statements : ℕ)
    (status : Status) (report : List ℕ) : Type 0 where
  spec : Spec
  listed : PortLists
  start : Situation
  outs : List Event
  verdict : PortsVerdict
  holds : HoldsSpecification shelf specification spec
  begun : start_of statements (text_of spec) ≡ Done outs start
  allowed : AreAllowedLists spec listed
  is : IsPortsVerdict (setup_at statements silent spec start outs) listed budget verdict
  fits : IsReadablePorts statements verdict
  status_is : status ≡ ports_status verdict
  report_is : report ≡ ports_report (ports_of spec) statements verdict

-- such a search found something, or the start passed the limit
data Found (shelf : Seen) (specification lists : List ℕ) (silent budget statements : ℕ)
    (status : Status) (report : List ℕ) : Type 0 where
  found_so : IsFound shelf specification lists silent budget statements status report
      → Found shelf specification lists silent budget statements status report
  start_passed : status ≡ OverBudget → report ≡ over_start_line statements
      → Found shelf specification lists silent budget statements status report

refuses_lists : (spec : Spec) → RefusesSo (RefusesLists spec)
refuses_lists spec text tokens status place why h d = trace_says h.0 status place why h.2 d

module _ (shelf : Seen) (specification lists : List ℕ) (silent budget statements : ℕ)
    (status : Status) (report : List ℕ) (d : IsDecision status) where
  found_at : (end : End) → end ≡ reported status report
      → PortsEnds shelf specification lists silent budget statements end
      → Found shelf specification lists silent budget statements status report
  found_at _ e (refused_at_specification end at) =
      absurd (ends_not shelf file.Specification specification RefusesSpecification
      refuses_specification end status report e at d)
  found_at _ e (refused_at_lists spec end holds at) =
      absurd (ends_not shelf file.Trace lists (RefusesLists spec) (refuses_lists spec) end status
      report e at d)
  found_at _ e (no_start spec listed fault holds held is) =
      let same : status ≡ NoStart = cc in absurd (subst IsDecision same d)
  found_at _ e (long_start spec listed holds held is) =
      let same : status ≡ OverBudget = cc in
      let line : report ≡ over_start_line statements = cc in start_passed same line
  found_at _ e (judged spec listed s outs verdict holds held begun allowed is fits) =
      found_so (record {
        spec = spec;
        listed = listed;
        start = s;
        outs = outs;
        verdict = verdict;
        holds = holds;
        begun = begun;
        allowed = allowed;
        is = is;
        fits = fits;
        status_is = cc;
        report_is = cc;
      })

-- THE TRACE

-- where each token list of a file is a text of this trace, its stage goes on with the trace
module _ (shelf : Seen) (name bytes : List ℕ) (told : shelf.before.told name ≡ Some bytes)
    (short : length bytes ≤ limit_of file.Trace) (spec : Spec) (recorded : Recorded)
    (texts : (tokens : List Token) → IsTokenList bytes tokens
    → IsTraceText (ports_of spec) bytes tokens recorded) where
  trace_next : (Next : Recorded → Status → List ℕ → Type 0) (s : Status) (r : List ℕ)
      → AtTrace shelf name spec Next s r → Next recorded s r
  trace_next Next s r (stops (inl long)) =
      absurd (not_long shelf file.Trace name bytes s r told short long)
  trace_next Next s r (stops (inr because)) =
      let p : IsText file.Trace bytes (IsReported file.Trace (RefusesTrace spec) s r) =
      subst (λ t. Holds file.Trace t (IsReported file.Trace (RefusesTrace spec) s r)) told because
      in
      let is = p.is in
      absurd (trace_not_refused spec bytes p.tokens recorded is.refused.0 s is.place is.why
      (texts p.tokens p.list) is.refused.1 is.refused.2)
  trace_next Next s r (goes_on other holds next) =
      let p : IsText file.Trace bytes (OfTrace spec other) =
      subst (λ t. Holds file.Trace t (OfTrace spec other)) told holds in
      let same : recorded ≡ other = p.is.1 recorded (texts p.tokens p.list) in
      subst (λ z. Next z s r) (sym same) next

-- CONFIRMING

module _ (status status' : Status) (report report' : List ℕ)
    (b : IsFedInParts status report status' report')
    (f : IsFound b.shelf b.specification b.lists b.silent b.budget b.statements status report) where
  -- the runs along a merge
  abbrev along_it : Recorded → Setup
  along_it merge = setup_from b.statements b.silent f.spec merge f.start f.outs

  -- the first part is a text of the merge
  is_merge_text : (head : List ℕ) (merge : Recorded) → IsHead head → IsMerge f.listed merge
      → (tokens : List Token) → IsTokenList (head ++ trace_text (ports_of f.spec) merge) tokens
      → IsTraceText (ports_of f.spec) (head ++ trace_text (ports_of f.spec) merge) tokens merge
  is_merge_text head merge is merges tokens list =
      let s = b.same_specification in
      let held : IsText file.Specification s.0 (OfSpecification f.spec) =
      subst (λ t. Holds file.Specification t (OfSpecification f.spec)) s.1 f.holds in
      texts_after f.spec merge head tokens (ports_readable f.spec (sentence_held s.0 f.spec held))
      (merge_allowed f.spec f.listed merge f.allowed merges)
      (head_between head (trace_text (ports_of f.spec) merge) is) list

  -- the answer of a replay of such parts
  is_answered : (head : List ℕ) (merge : Recorded) (x : Explanation) → IsHead head → IsWritable x
      → IsMerge f.listed merge
      → report ≡ (head ++ trace_text (ports_of f.spec) merge) ++ canonical x
      → IsAnswered b.silent b.statements f.spec merge x status' report'
  is_answered head merge x is w merges e =
      let text = head ++ trace_text (ports_of f.spec) merge in
      let p = b.in_parts in
      let same = same_parts b.merge_part text p.explanation x p.writable w
      (ap (λ z. b.merge_part ++ z) (sym p.explanation_is) ∙ sym p.parts ∙ e) in
      let second : b.explanation_part ≡ canonical x = p.explanation_is ∙ same.1 in
      let read : IsTextOf x (canonical x) = after_head [] x no_head w in
      let explained : HoldsExplanation b.shelf' b.explanation x =
      subst (λ t. Holds file.Explanation t (OfExplanation x)) (sym b.explanation_told)
      (subst (λ z. IsText file.Explanation z (OfExplanation x)) (sym second) (record {
        tokens = read.tokens;
        short = subst (λ z. length z ≤ limit_of file.Explanation) second b.explanation_short;
        list = read.list;
        is = read.only;
      })) in
      let s = b.same_specification in
      let holds : HoldsSpecification b.shelf' b.specification f.spec =
      retold file.Specification _ _ s.0 (OfSpecification f.spec) s.1 s.2 f.holds in
      let stages : Replays b.shelf' b.specification b.trace b.explanation b.silent b.statements
      status' report' =
      replay_stages b.shelf' b.specification b.trace b.explanation b.silent b.statements
      (reported status' report') b.replayed in
      let runs : Runs b.shelf' b.trace b.explanation b.silent b.statements f.spec status' report' =
      stage_next file.Specification b.specification s.0 RefusesSpecification OfSpecification
      specifications_decided b.shelf' s.2 _ f.spec holds status' report' stages in
      let after : AtExplanation b.shelf' b.explanation
      (IsAnswered b.silent b.statements f.spec merge) status' report' =
      trace_next b.shelf' b.trace b.merge_part b.merge_told b.merge_short f.spec merge
      (λ tokens list. subst (λ z. IsTraceText (ports_of f.spec) z tokens merge) (sym same.0)
      (is_merge_text head merge is merges tokens
      (subst (λ z. IsTokenList z tokens) same.0 list))) _ status' report' runs in
      stage_next file.Explanation b.explanation b.explanation_part RefusesExplanation OfExplanation
      explanations_decided b.shelf' b.explanation_told _ x explained status' report' after

  -- what the explanation yields of the merge is confirmed
  confirmed : (head : List ℕ) (merge : Recorded) (x : Explanation) → IsHead head → IsWritable x
      → IsMerge f.listed merge
      → report ≡ (head ++ trace_text (ports_of f.spec) merge) ++ canonical x
      → Yields (along_it merge) (reverse x.moves) x.claim
      → (status' ≡ Fine) × (report' ≡ replay_line (length merge.events) (Confirmed x.claim))
  confirmed head merge x is w merges e yields =
      let a = is_answered head merge x is w merges e in
      let mine : IsReplay b.statements b.silent f.spec merge x.moves x.claim (Confirmed x.claim) =
      subst (AnswersFrom b.statements b.silent f.spec merge x.moves x.claim (Confirmed x.claim))
      (sym f.begun) (refl, yields) in
      let same : a.0 ≡ Confirmed x.claim =
      answer_one b.statements b.silent f.spec merge x.moves x.claim a.0 (Confirmed x.claim) a.1
      mine in
      (a.2 ∙ ap replay_status same, a.3 ∙ ap (λ z. replay_line (length merge.events) z) same)

  -- VERDICTS

  accepted_so : (merge : Recorded) (run : List Move)
      → IsAcceptedMerge (setup_at b.statements b.silent f.spec f.start f.outs) f.listed merge
      (reverse run)
      → IsWritable (record { moves = run; claim = length merge.events + 1 })
      → report ≡ ports_report (ports_of f.spec) b.statements (merged.Accepted merge run)
      → IsConfirmedWhole report status' report'
  accepted_so merge run is w e =
      let n = length merge.events in
      let x : Explanation = record { moves = run; claim = n + 1 } in
      let same = confirmed (accepted_line n) merge x (accepted_head n (omega (arith, w.claim))) w
      is.is_merge e (inr (refl, is.explains)) in
      record {
        events = n;
        accepted = (
          trace_text (ports_of f.spec) merge ++ canonical x,
          e ∙ append_assoc (accepted_line n) (trace_text (ports_of f.spec) merge) (canonical x),
        );
        fine = same.0;
        confirmed = same.1 ∙ line_whole n;
      }

  refused_so : (most : ℕ) (merge : Recorded) (run : List Move)
      → IsRefusedEverywhere (setup_at b.statements b.silent f.spec f.start f.outs) f.listed
      b.budget most merge (reverse run)
      → IsReadablePorts b.statements (merged.Refused most merge run)
      → report ≡ ports_report (ports_of f.spec) b.statements (merged.Refused most merge run)
      → IsConfirmedMost report status' report'
  refused_so most merge run is fits e =
      let n = length merge.events in
      let x : Explanation = record { moves = run; claim = most } in
      let g = is.greatest in
      let within : most ≤ n = yields_within (along_it merge) (reverse run) most
      (is.none merge (reverse run) g.is_merge) g.yields in
      let head = refused_ports_line most n in
      let same = confirmed head merge x
      (refused_ports_head most n (omega (arith, fits.0, within)) (omega (arith, fits.0))) fits.1
      g.is_merge e g.yields in
      record {
        most = most;
        events = n;
        refused = (
          trace_text (ports_of f.spec) merge ++ canonical x,
          e ∙ append_assoc head (trace_text (ports_of f.spec) merge) (canonical x),
        );
        fine = same.0;
        confirmed = same.1 ∙ line_first most n within;
      }

  over_so : (merge : Recorded) (run : List Move) (reached : ℕ) (firing : Option Firing)
      → IsOverSomewhere (setup_at b.statements b.silent f.spec f.start f.outs) f.listed b.budget
      merge (reverse run) reached firing
      → IsReadablePorts b.statements (merged.OverAction merge run reached firing)
      → report
      ≡ ports_report (ports_of f.spec) b.statements (merged.OverAction merge run reached firing)
      → IsConfirmedBeforeLimit report status' report'
  over_so merge run reached firing is fits e =
      let n = length merge.events in
      let x : Explanation = record { moves = run; claim = reached } in
      let yields : Yields (along_it merge) (reverse run) reached =
      subst (λ k. Yields (along_it merge) (reverse run) k) is.count
      (run_yields (along_it merge) (reverse run) is.place is.is_run is.follows) in
      let within : reached ≤ n = yields_within (along_it merge) (reverse run) reached
      (is.none merge (reverse run) is.is_merge) yields in
      let head = over_action_line b.statements firing in
      let same = confirmed head merge x (over_head b.statements firing fits.0 fits.2) fits.1
      is.is_merge e yields in
      action b.statements n reached firing (
        trace_text (ports_of f.spec) merge ++ canonical x,
        e ∙ append_assoc head (trace_text (ports_of f.spec) merge) (canonical x),
      ) same.0
      (same.1 ∙ line_first reached n within)

  accepted_by : (v : PortsVerdict) → Fine ≡ ports_status v
      → IsPortsVerdict (setup_at b.statements b.silent f.spec f.start f.outs) f.listed b.budget v
      → IsReadablePorts b.statements v
      → report ≡ ports_report (ports_of f.spec) b.statements v
      → IsConfirmedWhole report status' report'
  accepted_by (merged.Accepted merge run) s is fits e = accepted_so merge run is fits e
  accepted_by (merged.Refused most merge run) s is fits e = cc
  accepted_by (merged.OverTries tried) s is fits e = cc
  accepted_by (merged.OverAction merge run reached firing) s is fits e = cc

  refused_by : (v : PortsVerdict) → Refused ≡ ports_status v
      → IsPortsVerdict (setup_at b.statements b.silent f.spec f.start f.outs) f.listed b.budget v
      → IsReadablePorts b.statements v
      → report ≡ ports_report (ports_of f.spec) b.statements v
      → IsConfirmedMost report status' report'
  refused_by (merged.Accepted merge run) s is fits e = cc
  refused_by (merged.Refused most merge run) s is fits e = refused_so most merge run is fits e
  refused_by (merged.OverTries tried) s is fits e = cc
  refused_by (merged.OverAction merge run reached firing) s is fits e = cc

  over_by : (v : PortsVerdict) → OverBudget ≡ ports_status v
      → IsPortsVerdict (setup_at b.statements b.silent f.spec f.start f.outs) f.listed b.budget v
      → IsReadablePorts b.statements v
      → report ≡ ports_report (ports_of f.spec) b.statements v
      → IsConfirmedBeforeLimit report status' report'
  over_by (merged.Accepted merge run) s is fits e = cc
  over_by (merged.Refused most merge run) s is fits e = cc
  over_by (merged.OverTries tried) s is fits e = tries tried e
  over_by (merged.OverAction merge run reached firing) s is fits e =
      over_so merge run reached firing is fits e

module _ (report : List ℕ) (status' : Status) (report' : List ℕ) where
  accepted_found : (b : IsFedInParts Fine report status' report')
      → Found b.shelf b.specification b.lists b.silent b.budget b.statements Fine report
      → IsConfirmedWhole report status' report'
  accepted_found b (found_so f) =
      accepted_by Fine status' report report' b f f.verdict f.status_is f.is f.fits f.report_is
  accepted_found b (start_passed same line) = cc

  refused_found : (b : IsFedInParts Refused report status' report')
      → Found b.shelf b.specification b.lists b.silent b.budget b.statements Refused report
      → IsConfirmedMost report status' report'
  refused_found b (found_so f) =
      refused_by Refused status' report report' b f f.verdict f.status_is f.is f.fits f.report_is
  refused_found b (start_passed same line) = cc

  over_found : (b : IsFedInParts OverBudget report status' report')
      → Found b.shelf b.specification b.lists b.silent b.budget b.statements OverBudget report
      → IsConfirmedBeforeLimit report status' report'
  over_found b (found_so f) =
      over_by OverBudget status' report report' b f f.verdict f.status_is f.is f.fits f.report_is
  over_found b (start_passed same line) = start b.statements line

pub ports_confirmed : PortsAreConfirmed
ports_confirmed = record {
  accepted = λ report status' report' b. accepted_found report status' report' b
      (found_at b.shelf b.specification b.lists b.silent b.budget b.statements Fine report tt
      (reported Fine report) refl b.search);
  refused = λ report status' report' b. refused_found report status' report' b
      (found_at b.shelf b.specification b.lists b.silent b.budget b.statements Refused report tt
      (reported Refused report) refl b.search);
  over = λ report status' report' b. over_found report status' report' b
      (found_at b.shelf b.specification b.lists b.silent b.budget b.statements OverBudget report tt
      (reported OverBudget report) refl b.search);
}
