-- What a search reports of a trace that it accepts or refuses is confirmed by a replay, and so is
-- what it reports where something passes the limit of statements.
use Rattle.std.proofs.Common.{◌≡◌, ◌≤◌, ◌+◌, ◌-◌, ◌∙◌, inl, inr, ℕ, zero, suc}
use Rattle.std.proofs.Common.{true, false, List, [], ◌∷◌, ◌++◌, length, reverse, Option, Some}
use Rattle.std.proofs.Common.{arith, refl, sym, subst, ap, cond, nat_le, take, append_assoc}
use Rattle.std.proofs.lemmas.Bool.Decides.{nat_tests}
use Rattle.std.proofs.lemmas.List.{take_all}
use Rattle.est_lexer.specs.declared.kind.Token.{Token}
use Rattle.rule_declares.specs.PortList.{ports_of}
use Rattle.est_meaning.specs.declared.firing.Firing.{Firing}
use Rattle.est_meaning.specs.declared.run.Move.{Move}
use Rattle.est_meaning.specs.Agreement.{AgreeAll}
use Rattle.est_meaning.specs.AllowedEvents.{most_events}
use Rattle.est_meaning.specs.Order.{marks_of}
use Rattle.est_meaning.specs.Run.{Setup, Place, first_place, IsBoundedRun, Follows}
use Rattle.est_meaning.specs.Run.{Explains, Yields}
use Rattle.est_meaning.specs.Trials.{PassesLimit, mark_passed}
use Rattle.est_meaning.proofs.AgreementLaws.{first_taken}
use Rattle.est_meaning.proofs.RunLaws.{one_place}
use Rattle.est_search.specs.declared.verdict.Faulted.{Faulted}
use Rattle.est_search.specs.declared.verdict.Verdict.{Verdict}
use Rattle.est_search.specs.declared.verdict.Verdict.TheVariants as verdict
use Rattle.est_search.specs.Verdict.{IsVerdict, IsRefused, IsOverAction, HasEvents}
use Rattle.est_trace.proofs.Shown.{text_few}
use Rattle.est_explanation.specs.declared.explanation.Explanation.{Explanation}
use Rattle.est_explanation.specs.CanonicalExplanation.{canonical, IsWritable}
use Rattle.est_explanation.specs.declared.verdict.Replayed.TheVariants.{Confirmed}
use Rattle.est_explanation.specs.Replay.{AnswersFrom}
use Rattle.call_files.specs.declared.file.File.{File}
use Rattle.call_files.specs.declared.file.File.TheVariants as file
use Rattle.call_files.specs.declared.status.Status.{Status}
use Rattle.call_files.specs.declared.status.Status.TheVariants.{Fine, Refused, OverBudget}
use Rattle.call_files.specs.Files.{limit_of}
use Rattle.call_files.specs.FileTexts.{IsText, Holds, OfSpecification, OfTrace, OfExplanation}
use Rattle.est_tool.specs.ReplayReports.{replay_line, first_line, all_line}
use Rattle.call_files.specs.ReadableReports.{IsReadable}
use Rattle.call_files.specs.SearchReports.{accepted_line, refused_line, faulted_line}
use Rattle.call_files.specs.SearchReports.{over_action_line, verdict_report}
use Rattle.call_files.specs.SearchReports.{verdict_status}
use Rattle.call_files.specs.FileEnds.{reported, HoldsSpecification, HoldsTrace, HoldsExplanation}
use Rattle.est_meaning.specs.Task.{setup_from}
use Rattle.est_tool.specs.Ends.{ReplayEnds, replayed}
use Rattle.call_files.specs.Requests.{replay}
use Rattle.law_numbers.proofs.FewMoves.{follows_before}
use Rattle.law_numbers.proofs.ReadableVerdicts.{passed_inner}
use Rattle.law_numbers.proofs.ShortReports.{reports_short}
use Rattle.law_calls.proofs.OneResult.{result_one}
use Rattle.law_calls.proofs.SelfRuns.{short_held}
use Rattle.law_calls.specs.Confirmations.{IsFedBack, IsConfirmedWhole, IsConfirmedBefore}
use Rattle.law_calls.specs.Confirmations.{IsConfirmedSoFar, action, firings, start}
use Rattle.law_calls.specs.Confirmations.{ExplainedIsConfirmed}
use Rattle.law_calls.proofs.Heads.{IsHead, accepted_head, refused_heads, over_head, IsTextOf}
use Rattle.law_calls.proofs.Heads.{after_head}
use Rattle.law_calls.proofs.Searches.{IsFound, Found, found_so, start_passed, found}

-- WHAT IS HELD

-- the same bytes hold the same
pub retold : (file : File) (told told' : Option (List ℕ)) (bytes : List ℕ)
    (Is : List ℕ → List Token → Type 0) → told ≡ Some bytes → told' ≡ Some bytes
    → Holds file told Is → Holds file told' Is
retold file told told' bytes Is e f h = subst (λ t. Holds file t Is) (e ∙ sym f) h

-- CONFIRMING

module _ (status status' : Status) (report report' : List ℕ)
    (b : IsFedBack status report status' report')
    (f : IsFound b.shelf b.specification b.trace b.silent b.budget b.statements status report) where
  -- the runs that are told of
  abbrev task : Setup
  task = setup_from b.statements b.silent f.spec f.recorded f.start f.outs

  -- the report of such a search is no longer than an explanation may be
  report_short : length report ≤ limit_of file.Explanation
  report_short = elim b.within [
    | inl small ↦
        (let s = b.same_specification in
        let t = b.same_trace in
        let held : IsText file.Specification s.0 (OfSpecification f.spec) =
        subst (λ told. Holds file.Specification told (OfSpecification f.spec)) s.1 f.holds in
        let traced : IsText file.Trace t.0 (OfTrace f.spec f.recorded) =
        subst (λ told. Holds file.Trace told (OfTrace f.spec f.recorded)) t.1 f.traced in
        let few = text_few most_events (ports_of f.spec) t.0 traced.tokens f.recorded traced.is.0 in
        subst (λ r. length r ≤ limit_of file.Explanation) (sym f.report_is)
        (reports_short task b.budget f.verdict (short_held s.0 f.spec held) f.begun few small f.is
        f.fits))
    | inr short ↦ short
  ]

  -- the explanation that is the report of such a search is confirmed
  confirmed : (head : List ℕ) (x : Explanation) → IsHead head → IsWritable x
      → report ≡ head ++ canonical x → Yields task (reverse x.moves) x.claim
      → (status' ≡ Fine) × (report' ≡ replay_line (length f.recorded.events) (Confirmed x.claim))
  confirmed head x is w e yields =
      let text : IsTextOf x report = subst (IsTextOf x) (sym e) (after_head head x is w) in
      let explained : HoldsExplanation b.shelf' b.explanation x =
      subst (λ t. Holds file.Explanation t (OfExplanation x)) (sym b.fed) (record {
        tokens = text.tokens;
        short = report_short;
        list = text.list;
        is = text.only;
      }) in
      let s = b.same_specification in
      let t = b.same_trace in
      let holds : HoldsSpecification b.shelf' b.specification f.spec =
      retold file.Specification _ _ s.0 (OfSpecification f.spec) s.1 s.2 f.holds in
      let traced : HoldsTrace b.shelf' b.trace f.spec f.recorded =
      retold file.Trace _ _ t.0 (OfTrace f.spec f.recorded) t.1 t.2 f.traced in
      let answers = subst
      (AnswersFrom b.statements b.silent f.spec f.recorded x.moves x.claim (Confirmed x.claim))
      (sym f.begun) (refl, yields) in
      let end : ReplayEnds b.shelf' b.specification b.trace b.explanation b.silent b.statements
      (reported Fine (replay_line (length f.recorded.events) (Confirmed x.claim))) =
      replayed f.spec f.recorded x (Confirmed x.claim) holds traced explained answers in
      let same = result_one b.shelf' b.shelf'
      (replay b.specification b.trace b.explanation b.silent b.statements) Fine status'
      (replay_line (length f.recorded.events) (Confirmed x.claim)) report' tt
      ((s.0, s.2, s.2), (t.0, t.2, t.2), (report, b.fed, b.fed)) end b.replayed in
      (sym same.0, sym same.1)

-- RUNS

-- a run that does not explain the trace yields no more than it has
pub yields_within : (c : Setup) (run : List Move) (k : ℕ) → (Explains c run → ⊥) → Yields c run k
    → k ≤ length c.trace.events
yields_within c run k none (inl y) = y.within
yields_within c run k none (inr y) = absurd (none y.1)

-- the run without moves yields no event
yields_none : (c : Setup) → Yields c [] 0
yields_none c = inl record {
  place = first_place c;
  is_run = refl;
  before = tt;
  many = omega arith;
  within = omega arith;
  agree = tt;
}

-- a bounded run that follows the trace yields all its events
pub run_yields : (c : Setup) (run : List Move) (p : Place) → IsBoundedRun c run p → Follows c p
    → Yields c run (length p.events)
run_yields c run p is_run follows =
    let first = first_taken c.trace.events p.events follows in
    inl record {
      place = p;
      is_run = is_run;
      before = follows_before c run p is_run follows;
      many = omega arith;
      within = first.0;
      agree = subst (λ es. AgreeAll (take (length p.events) c.trace.events) es)
          (sym (take_all (length p.events) p.events (omega arith))) first.1;
    }

-- MARKS

-- a run after which something passes its limit yields as many events as it has
passed_yields : (c : Setup) (run : List Move) (reached : ℕ) (firing : Option Firing)
    → PassesLimit c (mark_passed firing ∷ marks_of run) → HasEvents c run reached
    → Yields c run reached
passed_yields c run reached firing passes has =
    let inner = passed_inner c run firing passes in
    let same : has.place ≡ inner.0 =
    one_place c run has.place inner.0 has.is_run inner.1.is_run in
    subst (λ k. Yields c run k) (ap (λ (x : Place). length x.events) (sym same) ∙ has.count)
    (run_yields c run inner.0 inner.1.is_run inner.1.follows)

-- VERDICTS

-- the lines of a replay
pub line_whole : (n : ℕ) → replay_line n (Confirmed (n + 1)) ≡ all_line n
line_whole n = let e : nat_le (n + 1) n ≡ false = grind (arith, nat_tests) in
    ap (λ b. cond b (first_line (n + 1) n) (all_line n)) e

pub line_first : (k n : ℕ) → k ≤ n → replay_line n (Confirmed k) ≡ first_line k n
line_first k n h = let e : nat_le k n ≡ true = grind (arith, nat_tests) in
    ap (λ b. cond b (first_line k n) (all_line n)) e

module _ (status status' : Status) (report report' : List ℕ)
    (b : IsFedBack status report status' report')
    (f : IsFound b.shelf b.specification b.trace b.silent b.budget b.statements status report) where
  accepted_so : (run : List Move) → report ≡ verdict_report b.statements (length f.recorded.events)
      (verdict.Accepted run)
      → IsWritable (record { moves = run; claim = length f.recorded.events + 1 })
      → Explains (task status status' report report' b f) (reverse run)
      → IsConfirmedWhole report status' report'
  accepted_so run e w explains =
      let n = length f.recorded.events in
      let x : Explanation = record { moves = run; claim = n + 1 } in
      let same = confirmed status status' report report' b f (accepted_line n) x
      (accepted_head n (omega (arith, w.claim))) w e (inr (refl, explains)) in
      record {
        events = n;
        accepted = (canonical x, e);
        fine = same.0;
        confirmed = same.1 ∙ line_whole n;
      }

  refused_so : (k : ℕ) (run : List Move) (faulted : Option Faulted)
      → report ≡ verdict_report b.statements (length f.recorded.events) (verdict.Refused (suc k) run faulted)
      → IsReadable b.statements (length f.recorded.events) (verdict.Refused (suc k) run faulted)
      → ((other : List Move)
      → Explains (task status status' report report' b f) other → ⊥)
      → Yields (task status status' report report' b f) (reverse run) k
      → IsConfirmedBefore report status' report'
  refused_so k run faulted e fits none yields =
      let n = length f.recorded.events in
      let c = task status status' report report' b f in
      let x : Explanation = record { moves = run; claim = k } in
      let within : k ≤ n = yields_within c (reverse run) k (none (reverse run)) yields in
      let one : suc k - 1 ≡ k = omega arith in
      let next : suc k ≡ k + 1 = omega arith in
      let w : IsWritable x = subst (λ z. IsWritable (record { moves = run; claim = z })) one fits.1
      in
      let first = refused_line (suc k) n in
      let is : report ≡ (first ++ faulted_line faulted) ++ canonical x = e
      ∙ ap (λ z. first ++ faulted_line faulted ++ canonical (record { moves = run; claim = z })) one
      in
      let same = confirmed status status' report report' b f (first ++ faulted_line faulted) x
      (refused_heads (suc k) n faulted (omega (arith, fits.0, within)) (omega (arith, fits.0))
      fits.2) w is yields in
      record {
        events = n;
        claim = k;
        refused = (
          faulted_line faulted ++ canonical x,
          is ∙ append_assoc first (faulted_line faulted) (canonical x)
              ∙ ap (λ m. refused_line m n ++ (faulted_line faulted ++ canonical x)) next,
        );
        fine = same.0;
        confirmed = same.1 ∙ line_first k n within;
      }

  over_so : (run : List Move) (reached : ℕ) (firing : Option Firing)
      → report ≡ verdict_report b.statements (length f.recorded.events)
      (verdict.OverAction run reached firing)
      → IsReadable b.statements (length f.recorded.events) (verdict.OverAction run reached firing)
      → ((other : List Move)
      → Explains (task status status' report report' b f) other → ⊥)
      → Yields (task status status' report report' b f) (reverse run) reached
      → IsConfirmedSoFar report status' report'
  over_so run reached firing e fits none yields =
      let n = length f.recorded.events in
      let c = task status status' report report' b f in
      let x : Explanation = record { moves = run; claim = reached } in
      let within : reached ≤ n = yields_within c (reverse run) reached (none (reverse run)) yields
      in
      let same = confirmed status status' report report' b f (over_action_line b.statements firing)
      x (over_head b.statements firing fits.0 fits.2) fits.1 e yields in
      action b.statements n reached firing (canonical x, e) same.0
      (same.1 ∙ line_first reached n within)

  accepted_by : (v : Verdict) → Fine ≡ verdict_status v
      → IsVerdict (task status status' report report' b f) b.budget v
      → IsReadable b.statements (length f.recorded.events) v
      → report ≡ verdict_report b.statements (length f.recorded.events) v
      → IsConfirmedWhole report status' report'
  accepted_by (verdict.Accepted run) s is fits e = accepted_so run e fits is.first.has
  accepted_by (verdict.Refused at run faulted) s is fits e = cc
  accepted_by (verdict.OverFirings tried) s is fits e = cc
  accepted_by (verdict.OverAction run events firing) s is fits e = cc

  refused_at : (at : ℕ) (run : List Move) (faulted : Option Faulted)
      → IsRefused (task status status' report report' b f) b.budget at
      (reverse run) faulted
      → IsReadable b.statements (length f.recorded.events) (verdict.Refused at run faulted)
      → report ≡ verdict_report b.statements (length f.recorded.events) (verdict.Refused at run faulted)
      → IsConfirmedBefore report status' report'
  refused_at zero run faulted is fits e = absurd (is.least.unyielded [] (yields_none _))
  refused_at (suc k) run faulted is fits e =
      refused_so k run faulted e fits is.unexplained.none (is.first k (omega arith)).has

  refused_by : (v : Verdict) → Refused ≡ verdict_status v
      → IsVerdict (task status status' report report' b f) b.budget v
      → IsReadable b.statements (length f.recorded.events) v
      → report ≡ verdict_report b.statements (length f.recorded.events) v
      → IsConfirmedBefore report status' report'
  refused_by (verdict.Accepted run) s is fits e = cc
  refused_by (verdict.Refused at run faulted) s is fits e = refused_at at run faulted is fits e
  refused_by (verdict.OverFirings tried) s is fits e = cc
  refused_by (verdict.OverAction run events firing) s is fits e = cc

  over_at : (run : List Move) (reached : ℕ) (firing : Option Firing)
      → IsOverAction (task status status' report report' b f) b.budget (reverse run) reached firing
      → IsReadable b.statements (length f.recorded.events) (verdict.OverAction run reached firing)
      → report ≡ verdict_report b.statements (length f.recorded.events)
      (verdict.OverAction run reached firing)
      → IsConfirmedSoFar report status' report'
  over_at run reached firing is fits e =
      over_so run reached firing e fits is.unexplained.none
      (passed_yields _ (reverse run) reached firing is.first.has is.reached)

  over_by : (v : Verdict) → OverBudget ≡ verdict_status v
      → IsVerdict (task status status' report report' b f) b.budget v
      → IsReadable b.statements (length f.recorded.events) v
      → report ≡ verdict_report b.statements (length f.recorded.events) v
      → IsConfirmedSoFar report status' report'
  over_by (verdict.Accepted run) s is fits e = cc
  over_by (verdict.Refused at run faulted) s is fits e = cc
  over_by (verdict.OverFirings tried) s is fits e = firings tried e
  over_by (verdict.OverAction run reached firing) s is fits e =
      over_at run reached firing is fits e

module _ (report : List ℕ) (status' : Status) (report' : List ℕ) where
  accepted_found : (b : IsFedBack Fine report status' report')
      → Found b.shelf b.specification b.trace b.silent b.budget b.statements Fine report
      → IsConfirmedWhole report status' report'
  accepted_found b (found_so f) =
      accepted_by Fine status' report report' b f f.verdict f.status_is f.is f.fits f.report_is
  accepted_found b (start_passed same line) = cc

  refused_found : (b : IsFedBack Refused report status' report')
      → Found b.shelf b.specification b.trace b.silent b.budget b.statements Refused report
      → IsConfirmedBefore report status' report'
  refused_found b (found_so f) =
      refused_by Refused status' report report' b f f.verdict f.status_is f.is f.fits f.report_is
  refused_found b (start_passed same line) = cc

  over_found : (b : IsFedBack OverBudget report status' report')
      → Found b.shelf b.specification b.trace b.silent b.budget b.statements OverBudget report
      → IsConfirmedSoFar report status' report'
  over_found b (found_so f) =
      over_by OverBudget status' report report' b f f.verdict f.status_is f.is f.fits f.report_is
  over_found b (start_passed same line) = start b.statements line

pub explained_confirmed : ExplainedIsConfirmed
explained_confirmed = record {
  accepted = λ report status' report' b. accepted_found report status' report' b
      (found b.shelf b.specification b.trace b.silent b.budget b.statements Fine report tt
      b.search);
  refused = λ report status' report' b. refused_found report status' report' b
      (found b.shelf b.specification b.trace b.silent b.budget b.statements Refused report tt
      b.search);
  over = λ report status' report' b. over_found report status' report' b
      (found b.shelf b.specification b.trace b.silent b.budget b.statements OverBudget report tt
      b.search);
}
