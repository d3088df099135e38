-- What is told of its files determines what a call reports.
use Rattle.std.proofs.Common.{◌≡◌, ◌∙◌, ℕ, List, length, sym, ap, refl}
use Rattle.est_syntax.specs.declared.specification.Spec.{Spec}
use Rattle.est_meaning.specs.RecordedTraces.{Recorded}
use Rattle.est_explanation.specs.declared.explanation.Explanation.{Explanation}
use Rattle.est_explanation.proofs.Checks.{answer_one}
use Rattle.est_meaning.specs.declared.run.Limits.{Limits}
use Rattle.call_files.specs.declared.file.File.TheVariants.{Specification, Trace}
use Rattle.call_files.specs.declared.file.File.TheVariants.{Explanation as Explaining}
use Rattle.call_files.specs.declared.status.Status.{Status}
use Rattle.est_tool.specs.ReplayReports.{replay_line}
use Rattle.est_tool.specs.ReplayReports.{replay_status}
use Rattle.call_files.specs.FileTexts.{OfSpecification, OfTrace, OfExplanation}
use Rattle.call_files.specs.FileTexts.{RefusesSpecification, RefusesTrace, RefusesExplanation}
use Rattle.call_files.specs.Requests.{check, print, explain, replay, selfrun, ports, watch}
use Rattle.call_files.specs.Seen.{Seen}
use Rattle.est_print.specs.PrintedText.{IsPrintedText}
use Rattle.est_tool.specs.inside.Work.{IsFine, IsAnswered, IsExplained}
use Rattle.call_files.specs.FileEnds.{End, reported, unread}
use Rattle.est_tool.specs.Ends.{TellsCounts, CheckEnds, ReplayEnds}
use Rattle.est_tool.specs.Ends.{at_specification, at_trace, at_explanation, replayed}
use Rattle.law_calls.specs.CallLaws.{TellAlike, OneResult}
use Rattle.law_calls.proofs.Stages.{AreSame, OfReport, stopped, stops, goes_on, one_stage}
use Rattle.law_calls.proofs.Stages.{AtSpecification, AtTrace, AtExplanation}
use Rattle.law_calls.proofs.Stages.{specifications_decided, traces_decided, explanations_decided}
use Rattle.law_print.proofs.OneText.{one_text}
use Rattle.law_calls.proofs.Printings.{same_self, check_stages}
use Rattle.law_calls.proofs.SearchStages.{Explains, explain_stages, one_explained}
use Rattle.law_calls.proofs.SelfRunStages.{SelfRuns, self_run_stages, one_made_report}

-- one report says this of a specification
abbrev SaysOnce : (Spec → List ℕ → Type 0) → Type 0
SaysOnce Says = (spec : Spec) (r r' : List ℕ) → Says spec r → Says spec r' → r ≡ r'

one_counted : SaysOnce TellsCounts
one_counted spec r r' x y = x ∙ sym y

one_printed : SaysOnce IsPrintedText
one_printed spec r r' x y = one_text spec spec r r' (same_self spec r x) x y

one_answered : (silent statements : ℕ) (spec : Spec) (recorded : Recorded) (read : Explanation)
    (s s' : Status) (r r' : List ℕ) → IsAnswered silent statements spec recorded read s r
    → IsAnswered silent statements spec recorded read s' r' → AreSame s s' r r'
one_answered silent statements spec recorded read s s' r r' x y =
    let same : x.0 ≡ y.0 = answer_one statements silent spec recorded read.moves read.claim x.0 y.0
    x.1 y.1 in (
      x.2 ∙ ap replay_status same ∙ sym y.2,
      x.3 ∙ ap (λ a. replay_line (length recorded.events) a) same
          ∙ sym y.3,
    )

-- the stages of a replay
abbrev pub Runs : Seen → List ℕ → List ℕ → ℕ → ℕ → Spec → Status → List ℕ → Type 0
Runs shelf trace explanation silent statements spec =
    AtTrace shelf trace spec (λ recorded. AtExplanation shelf explanation
    (IsAnswered silent statements spec recorded))

abbrev pub Replays : Seen → List ℕ → List ℕ → List ℕ → ℕ → ℕ → Status → List ℕ → Type 0
Replays shelf specification trace explanation silent statements =
    AtSpecification shelf specification (Runs shelf trace explanation silent statements)

pub replay_stages : (shelf : Seen) (specification trace explanation : List ℕ) (silent statements : ℕ)
    (end : End) → ReplayEnds shelf specification trace explanation silent statements end
    → OfReport (Replays shelf specification trace explanation silent statements) end
replay_stages shelf specification trace explanation silent statements _
    (at_specification (reported s r) x) = stops (stopped shelf Specification specification
    RefusesSpecification (reported s r) x)
replay_stages shelf specification trace explanation silent statements _
    (at_trace spec (reported s r) holds x) = goes_on spec holds
    (stops (stopped shelf Trace trace (RefusesTrace spec) (reported s r) x))
replay_stages shelf specification trace explanation silent statements _
    (at_explanation spec recorded (reported s r) holds traced x) =
    goes_on spec holds
    (goes_on recorded traced (stops (stopped shelf Explaining explanation RefusesExplanation
    (reported s r) x)))
replay_stages shelf specification trace explanation silent statements _
    (at_specification unread x) = tt
replay_stages shelf specification trace explanation silent statements _
    (at_trace spec unread holds x) = tt
replay_stages shelf specification trace explanation silent statements _
    (at_explanation spec recorded unread holds traced x) = tt
replay_stages shelf specification trace explanation silent statements _
    (replayed spec recorded read answer holds traced explained is) =
    goes_on spec holds
    (goes_on recorded traced (goes_on read explained (answer, is, refl, refl)))

one_check : (Says : Spec → List ℕ → Type 0) → SaysOnce Says → (shelf shelf' : Seen)
    (name : List ℕ) (s s' : Status) (r r' : List ℕ) → TellAlike shelf shelf' name
    → CheckEnds Says shelf name (reported s r) → CheckEnds Says shelf' name (reported s' r')
    → AreSame s s' r r'
one_check Says once shelf shelf' name s s' r r' told x y =
    one_stage Specification name told.0 RefusesSpecification OfSpecification specifications_decided
    shelf shelf' told.1 told.2 (IsFine Says) (IsFine Says) one_fine s s' r r'
    (check_stages Says shelf name (reported s r) x)
    (check_stages Says shelf' name (reported s' r') y)
  where
    one_fine : (spec : Spec) (s s' : Status) (r r' : List ℕ) → IsFine Says spec s r
        → IsFine Says spec s' r' → AreSame s s' r r'
    one_fine spec s s' r r' x y = (x.0 ∙ sym y.0, once spec r r' x.1 y.1)

one_replay : (shelf shelf' : Seen) (specification trace explanation : List ℕ)
    (silent statements : ℕ) (s s' : Status) (r r' : List ℕ) → TellAlike shelf shelf' specification
    → TellAlike shelf shelf' trace
    → TellAlike shelf shelf' explanation
    → Replays shelf specification trace explanation silent statements s r
    → Replays shelf' specification trace explanation silent statements s' r' → AreSame s s' r r'
one_replay shelf shelf' specification trace explanation silent statements s s' r r' told traced
    explained x y =
    one_stage Specification specification told.0 RefusesSpecification OfSpecification
    specifications_decided shelf shelf' told.1 told.2 _ _ at_trace_one s s' r r' x y
  where
    at_explanation_one : (spec : Spec) (recorded : Recorded) (s s' : Status) (r r' : List ℕ)
        → AtExplanation shelf explanation (IsAnswered silent statements spec recorded) s r
        → AtExplanation shelf' explanation (IsAnswered silent statements spec recorded) s' r'
        → AreSame s s' r r'
    at_explanation_one spec recorded s s' r r' x y =
        one_stage Explaining explanation explained.0 RefusesExplanation OfExplanation
        explanations_decided shelf shelf' explained.1 explained.2 _ _
        (one_answered silent statements spec recorded) s s' r r' x y

    at_trace_one : (spec : Spec) (s s' : Status) (r r' : List ℕ)
        → AtTrace shelf trace spec (λ recorded. AtExplanation shelf explanation
        (IsAnswered silent statements spec recorded)) s r
        → AtTrace shelf' trace spec (λ recorded. AtExplanation shelf' explanation
        (IsAnswered silent statements spec recorded)) s' r' → AreSame s s' r r'
    at_trace_one spec s s' r r' x y =
        one_stage Trace trace traced.0 (RefusesTrace spec) (OfTrace spec) (traces_decided spec)
        shelf shelf' traced.1 traced.2 _ _
        (at_explanation_one spec) s s' r r' x y

one_explain : (shelf shelf' : Seen) (specification trace : List ℕ) (limits : Limits)
    (s s' : Status) (r r' : List ℕ) → TellAlike shelf shelf' specification
    → TellAlike shelf shelf' trace
    → Explains shelf specification trace limits s r
    → Explains shelf' specification trace limits s' r' → AreSame s s' r r'
one_explain shelf shelf' specification trace limits s s' r r' told traced x y =
    one_stage Specification specification told.0 RefusesSpecification OfSpecification
    specifications_decided shelf shelf' told.1 told.2 _ _ at_trace_one s s' r r' x y
  where
    at_trace_one : (spec : Spec) (s s' : Status) (r r' : List ℕ)
        → AtTrace shelf trace spec (IsExplained limits spec) s r
        → AtTrace shelf' trace spec (IsExplained limits spec) s' r' → AreSame s s' r r'
    at_trace_one spec s s' r r' x y =
        one_stage Trace trace traced.0 (RefusesTrace spec) (OfTrace spec) (traces_decided spec)
        shelf shelf' traced.1 traced.2 _ _
        (one_explained limits spec) s s' r r' x y

one_self_run : (shelf shelf' : Seen) (name : List ℕ) (seed count : ℕ) (s s' : Status)
    (r r' : List ℕ) → TellAlike shelf shelf' name → SelfRuns shelf name seed count s r
    → SelfRuns shelf' name seed count s' r' → AreSame s s' r r'
one_self_run shelf shelf' name seed count s s' r r' told x y =
    one_stage Specification name told.0 RefusesSpecification OfSpecification specifications_decided
    shelf shelf' told.1 told.2 _ _ (one_made_report seed count) s s' r r' x y

pub result_one : OneResult
result_one shelf shelf' (check specification) s s' r r' one told x y =
    one_check TellsCounts one_counted shelf shelf' specification s s' r r' told x y
result_one shelf shelf' (print specification) s s' r r' one told x y =
    one_check IsPrintedText one_printed shelf shelf' specification s s' r r' told x y
result_one shelf shelf' (explain specification trace silent budget statements) s s' r r' one told x
    y =
    one_explain shelf shelf' specification trace
    (record { silent = silent; budget = budget; statements = statements }) s s' r r'
    told.0 told.1
    (explain_stages shelf specification trace silent budget statements (reported s r) x)
    (explain_stages shelf' specification trace silent budget statements (reported s' r') y)
result_one shelf shelf' (replay specification trace explanation silent statements) s s' r r' one
    told x y =
    one_replay shelf shelf' specification trace explanation silent statements s s' r r' told.0
    told.1 told.2 (replay_stages shelf specification trace explanation silent statements
    (reported s r) x)
    (replay_stages shelf' specification trace explanation silent statements (reported s' r') y)
result_one shelf shelf' (selfrun name seed count) s s' r r' one told x y =
    one_self_run shelf shelf' name seed count s s' r r' told
    (self_run_stages shelf name seed count (reported s r) x)
    (self_run_stages shelf' name seed count (reported s' r') y)
result_one shelf shelf' (ports specification lists silent budget statements) s s' r r' one told x y =
    absurd one
result_one shelf shelf' (watch specification silent budget statements) s s' r r' one told x y =
    absurd one
