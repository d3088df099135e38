-- A self-run explains the trace that it makes.
use Rattle.std.proofs.Common.{◌≡◌, ◌≢◌, ◌≤◌, ◌∙◌, ℕ, List, length, sym, ap, subst, refl}
use Rattle.std.proofs.Common.{arith}
use Rattle.std.proofs.Common.{Err}
use Rattle.std.specs.Prelude.{Option}
use Rattle.std.proofs.lemmas.List.{length-map}
use Rattle.est_lexer.specs.declared.kind.Token.{Token}
use Rattle.est_lexer.specs.TokenList.{IsTokenList}
use Rattle.est_lexer.proofs.TokenLaws.{tokens_few}
use Rattle.est_syntax.specs.declared.specification.Spec.{Spec}
use Rattle.rule_declares.specs.PortList.{ports_of}
use Rattle.est_check.specs.LeastFault.{IsGood}
use Rattle.mean_blocks.specs.GlobalSituation.{Situation}
use Rattle.mean_blocks.specs.Outcome.{Done}
use Rattle.mean_blocks.specs.TextByPlace.{text_of}
use Rattle.est_meaning.specs.declared.event.Event.{Event}
use Rattle.est_meaning.specs.declared.trace.Expected.TheVariants.{Known}
use Rattle.est_meaning.specs.AllowedEvents.{most_events}
use Rattle.est_meaning.specs.RecordedTraces.{Recorded, known_trace}
use Rattle.est_meaning.specs.FiringSteps.{start_of}
use Rattle.est_check.specs.SentenceOf.{IsSentence}
use Rattle.est_meaning.specs.declared.run.Move.{Move}
use Rattle.est_meaning.specs.Run.{Setup}
use Rattle.est_meaning.specs.Trials.{IsTrialUpTo}
use Rattle.est_search.specs.Verdict.{IsVerdict, IsOverFirings}
use Rattle.est_search.specs.declared.verdict.Verdict.{Verdict}
use Rattle.est_search.specs.declared.verdict.Verdict.TheVariants as verdict
use Rattle.est_search.proofs.OneVerdict.{too_many}
use Rattle.est_trace.specs.TraceText.{IsTraceRefusal}
use Rattle.est_trace.specs.declared.error.TraceError.{TraceError}
use Rattle.est_trace.specs.declared.error.TraceError.TheVariants as trace_error
use Rattle.run_make.specs.declared.made.Made.{Made}
use Rattle.run_make.specs.declared.made.Made.TheVariants as made
use Rattle.run_make.specs.Recipe as recipe
use Rattle.run_make.proofs.Explaining.{made_explained}
use Rattle.run_make.proofs.OneMade.{one_made}
use Rattle.law_numbers.specs.WritableLaws.{IsShort}
use Rattle.law_calls.proofs.SoundTraces.{made_traces_are_texts, made_traces_are_read}
use Rattle.call_files.specs.declared.file.File.TheVariants.{Specification, Trace}
use Rattle.call_files.specs.FileEnds.{End, reported, unread}
use Rattle.call_files.specs.FileEnds.{EndsAtText, text_longer, text_refused}
use Rattle.call_files.specs.FileTexts.{IsText, Holds, OfSpecification, OfTrace}
use Rattle.call_files.specs.FileTexts.{RefusesTrace, SaysOfTrace}
use Rattle.call_files.specs.Seen.{Sent}
use Rattle.call_files.specs.declared.status.Status.{Status}
use Rattle.call_files.specs.declared.status.Status.TheVariants.{Fine, Refused, BadSpec, BadTrace}
use Rattle.call_files.specs.declared.status.Status.TheVariants.{BadExplanation, OverBudget, TooLong}
use Rattle.call_files.specs.declared.status.Status.TheVariants.{Usage, ReadFault, WriteFault}
use Rattle.call_files.specs.declared.status.Status.TheVariants.{OutOfMemory, NoStart}
use Rattle.call_files.specs.Requests.{usual_silent, usual_budget, usual_statements}
use Rattle.call_files.specs.SearchReports.{verdict_status}
use Rattle.est_meaning.specs.Task.{setup_from}
use Rattle.est_tool.specs.SelfRuns.{IsMadeOf, MadeEnds, written}
use Rattle.est_tool.specs.SelfRuns.{faults, start_passes, passes, refuses, explains}
use Rattle.law_calls.specs.Completeness.{TellsMade}
use Rattle.law_calls.proofs.SearchStages.{one_start, verdict_at}
use Rattle.law_calls.proofs.SelfRunComplete.{self_run_complete}
use Rattle.law_calls.specs.SelfRunLaws.{ExplainedTracesAreNotRefused, IsUsual, Agrees}
use Rattle.law_calls.specs.SelfRunLaws.{SelfRunsAgree, IsInReach, SelfRunsAccept}

-- VERDICTS

pub explained_is_not_refused : ExplainedTracesAreNotRefused
explained_is_not_refused c budget run (verdict.Accepted other) e is = tt
explained_is_not_refused c budget run (verdict.Refused at other faulted) e is =
    is.unexplained.none run e
explained_is_not_refused c budget run (verdict.OverFirings tried) e is = tt
explained_is_not_refused c budget run (verdict.OverAction other events firing) e is =
    is.unexplained.none run e

-- SENTENCES

-- what the file of a good specification holds is a sentence of few tokens that breaks no rule
pub short_held : (bytes : List ℕ) (spec : Spec)
    → IsText Specification bytes (OfSpecification spec) → IsShort spec
short_held bytes spec is =
    let few = tokens_few bytes 0 is.tokens (omega arith) is.list in
    record {
      sentence = record {
        text = bytes;
        tokens = is.tokens;
        listed = is.list;
        few = omega (arith, few, is.short);
        tree = is.is.tree;
      };
      few = omega (arith, few, is.short);
      good = is.is.good;
    }

pub sentence_held : (bytes : List ℕ) (spec : Spec)
    → IsText Specification bytes (OfSpecification spec) → IsSentence spec
sentence_held bytes spec is = let short = short_held bytes spec is in short.sentence

-- TRACES

-- what was made of a sentence that breaks no rule: a trace that is not too long
module _ (spec : Spec) (seed count : ℕ) (es : List Event) (run : List Move)
    (sentence : IsSentence spec) (good : IsGood spec)
    (is_made : IsMadeOf spec seed count (made.Trace (known_trace es) run))
    (few : length es ≤ most_events) where
  -- the trace of these events
  abbrev trace : Recorded
  trace = known_trace es

  -- what it is made by
  abbrev task : recipe.Task
  task = recipe.task_of usual_statements usual_silent spec

  -- its text is refused at no token
  not_refused : (tokens : List Token) (error : TraceError) (status : Status)
      (place : Option ℕ) (why : List ℕ) → IsTokenList (written spec trace) tokens
      → IsTraceRefusal (ports_of spec) (written spec trace) tokens error
      → SaysOfTrace error status place why → ⊥
  not_refused tokens (trace_error.BadToken at) status place why list refusal says =
      made_traces_are_read task seed count es run tokens (Err (trace_error.BadToken at)) sentence
      good is_made few list refusal
  not_refused tokens (trace_error.TooMany at) status place why list refusal says =
      made_traces_are_read task seed count es run tokens (Err (trace_error.TooMany at)) sentence
      good is_made few list refusal
  not_refused tokens (trace_error.Memory error) status place why list refusal says = says

  -- it is the text of this trace alone
  same_trace : (read : Recorded) → IsText Trace (written spec trace) (OfTrace spec read)
      → trace ≡ read
  same_trace read is = is.is.1 trace
      (made_traces_are_texts task seed count es run is.tokens sentence good is_made few is.list)

  -- a run explains it
  explained : recipe.IsExplained task trace run
  explained = made_explained task seed count trace run is_made

  -- the runs along it
  abbrev usual : Setup
  usual = setup_from usual_statements usual_silent spec trace explained.start explained.outs

  -- the status of a verdict on it
  status_agrees : (v : Verdict) → IsVerdict usual usual_budget v
      → Agrees spec trace (verdict_status v)
  status_agrees (verdict.Accepted other) is = tt
  status_agrees (verdict.Refused at other faulted) is =
      explained_is_not_refused usual usual_budget _ (verdict.Refused at other faulted)
      explained.explains is
  status_agrees (verdict.OverFirings tried) is =
      (usual, record { same = refl; begun = explained.ready }, is.1)
  status_agrees (verdict.OverAction other events firing) is =
      absurd (explained_is_not_refused usual usual_budget _ (verdict.OverAction other events firing)
      explained.explains is)

  judged : (outs : List Event) (s : Situation) (v : Verdict)
      → start_of usual_statements (text_of spec) ≡ Done outs s
      → IsVerdict (setup_from usual_statements usual_silent spec trace s outs) usual_budget v
      → Agrees spec trace (verdict_status v)
  judged outs s v begun is =
      status_agrees v
      (verdict_at (record {
        silent = usual_silent;
        budget = usual_budget;
        statements = usual_statements;
      }) spec trace s explained.start outs explained.outs v begun explained.ready is)

  -- ENDS

  -- what holds of the status that a call ends with
  abbrev OfStatus : End → Type 0
  OfStatus (reported status report) = Agrees spec trace status
  OfStatus unread = Unit {0}

  text_agrees : (end : End) → EndsAtText Trace (written spec trace) (RefusesTrace spec) end
      → OfStatus end
  text_agrees _ (text_longer long) = long
  text_agrees _ (text_refused status report x) =
      let r = x.is.refused in
      absurd (not_refused x.tokens r.0 status x.is.place x.is.why x.list r.1 r.2)

  ends_agree : (m : Made) (end : End) → m ≡ made.Trace trace run → MadeEnds spec m end
      → OfStatus end
  ends_agree _ _ same (faults fault) = absurd cc
  ends_agree _ _ same start_passes = absurd cc
  ends_agree _ _ same (passes other) = absurd cc
  ends_agree _ _ same (refuses t other end at) =
      let one : t ≡ trace = cc in
      text_agrees end
      (subst (λ x. EndsAtText Trace (written spec x) (RefusesTrace spec) end) one at)
  ends_agree _ _ same (explains t other read s outs v reads begun is) =
      let one : t ≡ trace = cc in
      let held : IsText Trace (written spec trace) (OfTrace spec read) =
      subst (λ x. IsText Trace (written spec x) (OfTrace spec read)) one reads in
      judged outs s v begun
      (subst (λ es. IsVerdict (setup_from usual_statements usual_silent spec es s outs) usual_budget v)
      (sym (same_trace read held)) is)

  -- what is told of it
  told_agrees : (output : Sent) (status : Status) → TellsMade output status seed count spec
      → Agrees spec trace status
  told_agrees output status tells =
      ends_agree tells.made (reported status tells.report)
      (one_made task seed count tells.made (made.Trace trace run) tells.is is_made) tells.ends

  -- it is told, or memory ran out
  agrees : (output : Sent) (status : Status)
      → (status ≢ OutOfMemory → TellsMade output status seed count spec)
      → Agrees spec trace status
  agrees output Fine tells = tt
  agrees output OverBudget tells = told_agrees output OverBudget (tells (λ same. cc))
  agrees output OutOfMemory tells = tt
  agrees output Refused tells = told_agrees output Refused (tells (λ same. cc))
  agrees output BadSpec tells = told_agrees output BadSpec (tells (λ same. cc))
  agrees output BadTrace tells = told_agrees output BadTrace (tells (λ same. cc))
  agrees output BadExplanation tells = told_agrees output BadExplanation (tells (λ same. cc))
  agrees output TooLong tells = told_agrees output TooLong (tells (λ same. cc))
  agrees output NoStart tells = told_agrees output NoStart (tells (λ same. cc))
  agrees output Usage tells = told_agrees output Usage (tells (λ same. cc))
  agrees output ReadFault tells = told_agrees output ReadFault (tells (λ same. cc))
  agrees output WriteFault tells = told_agrees output WriteFault (tells (λ same. cc))

pub self_runs_agree : SelfRunsAgree
self_runs_agree words shelf calls output status seed count spec trace run of is_made few result =
    let held : IsText Specification of.named.bytes (OfSpecification spec) =
    subst (λ t. Holds Specification t (OfSpecification spec)) of.named.told of.good in
    let es = is_made.last.events in
    let many : length trace.events ≡ length es =
    ap (λ (w : Recorded). length w.events) is_made.trace_is ∙ length-map es Known in
    subst (λ w. Agrees spec w status) (sym is_made.trace_is)
    (agrees spec seed count es run (sentence_held of.named.bytes spec held) held.is.good
    (subst (λ w. IsMadeOf spec seed count (made.Trace w run)) is_made.trace_is is_made)
    (omega arith) output status
    (λ memory. self_run_complete words shelf calls output status seed count spec of result memory))

-- WITHIN REACH

-- from one start there is one such setup
one_usual : (spec : Spec) (trace : Recorded) (a b : Setup) → IsUsual spec trace a
    → IsUsual spec trace b → a ≡ b
one_usual spec trace a b x y =
    let starts : (c : Setup) → IsUsual spec trace c
    → start_of usual_statements (text_of spec) ≡ Done c.start_outs c.start = λ c is.
    subst (λ (d : Setup). start_of d.limit (text_of d.spec) ≡ Done c.start_outs c.start) is.same
    is.begun in
    let same = one_start (start_of usual_statements (text_of spec)) a.start b.start a.start_outs
    b.start_outs (starts a x) (starts b y) in
    x.same
    ∙ (λ i. setup_from usual_statements usual_silent spec trace (same.0 i) (same.1 i))
    ∙ sym y.same

-- what agrees with such a trace is that it is explained
reached : (spec : Spec) (trace : Recorded) → IsInReach spec trace → (status : Status)
    → Agrees spec trace status → status ≢ OutOfMemory → status ≡ Fine
reached spec trace reach Fine is memory = refl
reached spec trace reach OverBudget is memory =
    let c = reach.setup in
    let over : IsOverFirings c usual_budget = subst (λ d. IsOverFirings d usual_budget)
    (one_usual spec trace is.0 c is.1 reach.usual) is.2 in
    absurd (too_many (IsTrialUpTo c reach.run) usual_budget (over.late reach.run reach.explains)
    reach.tried)
reached spec trace reach TooLong is memory = let short = reach.short in
    let never : ⊥ = omega (arith, is, short) in absurd never
reached spec trace reach OutOfMemory is memory = absurd (memory refl)
reached spec trace reach Refused is memory = absurd is
reached spec trace reach BadSpec is memory = absurd is
reached spec trace reach BadTrace is memory = absurd is
reached spec trace reach BadExplanation is memory = absurd is
reached spec trace reach NoStart is memory = absurd is
reached spec trace reach Usage is memory = absurd is
reached spec trace reach ReadFault is memory = absurd is
reached spec trace reach WriteFault is memory = absurd is

pub self_runs_accept : SelfRunsAccept
self_runs_accept words shelf calls output status seed count spec trace run of is_made few reach
    result memory =
    reached spec trace reach status
    (self_runs_agree words shelf calls output status seed count spec trace run of is_made few result)
    memory
