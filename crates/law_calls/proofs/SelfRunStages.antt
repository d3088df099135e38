-- What the specification, the seed and the number of events of a trace that is made determine.
use Rattle.std.proofs.Common.{◌≡◌, ℕ, List, [], length, Some, sym, subst, refl, arith}
use Rattle.est_syntax.specs.declared.specification.Spec.{Spec}
use Rattle.est_meaning.specs.RecordedTraces.{Recorded}
use Rattle.est_meaning.specs.declared.run.Limits.{Limits}
use Rattle.est_search.specs.declared.verdict.Verdict.{Verdict}
use Rattle.run_make.specs.declared.made.Made.{Made}
use Rattle.run_make.specs.Recipe as recipe
use Rattle.run_make.proofs.OneMade.{one_made}
use Rattle.call_files.specs.declared.file.File.TheVariants.{Specification, Trace}
use Rattle.call_files.specs.FileTexts.{IsText, IsReported, OfTrace, RefusesSpecification}
use Rattle.call_files.specs.FileTexts.{RefusesTrace}
use Rattle.call_files.specs.FileEnds.{End, reported, unread}
use Rattle.call_files.specs.FileEnds.{EndsAtText, text_longer, text_refused}
use Rattle.call_files.specs.Seen.{Seen}
use Rattle.call_files.specs.declared.status.Status.{Status}
use Rattle.call_files.specs.declared.status.Status.TheVariants.{OverBudget, NoStart}
use Rattle.call_files.specs.Requests.{usual_silent, usual_budget, usual_statements}
use Rattle.call_files.specs.SearchReports.{no_start_line, verdict_status}
use Rattle.call_files.specs.SelfRunReports.{limit_line}
use Rattle.est_tool.specs.declared.search.Searched.TheVariants as came
use Rattle.est_tool.specs.inside.Searching.{IsSearched}
use Rattle.est_tool.specs.SelfRuns.{IsMadeOf, MadeEnds, SelfRunEnds, self_run_report, written}
use Rattle.est_tool.specs.SelfRuns.{faults, start_passes, passes, refuses, explains}
use Rattle.est_tool.specs.SelfRuns.{stops_at_its_file, makes}
use Rattle.law_calls.proofs.Stages.{AreSame, OfReport, stopped, stops, goes_on, at_once}
use Rattle.law_calls.proofs.Stages.{AtSpecification, one_report, traces_decided}
use Rattle.law_calls.proofs.SearchStages.{one_found}

-- the report of what is made
abbrev pub IsMadeReport : ℕ → ℕ → Spec → Status → List ℕ → Type 0
IsMadeReport seed count spec s r =
    (made : Made) × IsMadeOf spec seed count made × MadeEnds spec made (reported s r)

-- the stages of a call that makes a trace
abbrev pub SelfRuns : Seen → List ℕ → ℕ → ℕ → Status → List ℕ → Type 0
SelfRuns shelf name seed count = AtSpecification shelf name (IsMadeReport seed count)

pub self_run_stages : (shelf : Seen) (name : List ℕ) (seed count : ℕ) (end : End)
    → SelfRunEnds shelf name seed count end → OfReport (SelfRuns shelf name seed count) end
self_run_stages shelf name seed count _ (stops_at_its_file (reported s r) x) =
    stops (stopped shelf Specification name RefusesSpecification (reported s r) x)
self_run_stages shelf name seed count _ (stops_at_its_file unread x) = tt
self_run_stages shelf name seed count _ (makes spec made (reported s r) holds is ends) =
    goes_on spec holds (made, is, ends)
self_run_stages shelf name seed count _ (makes spec made unread holds is ends) = tt

-- TEXTS OF TRACES

module _ (spec : Spec) (text : List ℕ) where
  -- a text ends a call in one way
  one_at_text : (end end' : End) → EndsAtText Trace text (RefusesTrace spec) end
      → EndsAtText Trace text (RefusesTrace spec) end' → end ≡ end'
  one_at_text _ _ (text_longer a) (text_longer b) = refl
  one_at_text _ _ (text_longer a) (text_refused s r x) = absurd (omega (arith, a, x.short))
  one_at_text _ _ (text_refused s r x) (text_longer b) = absurd (omega (arith, b, x.short))
  one_at_text _ _ (text_refused s r x) (text_refused s' r' y) =
      let same : AreSame s s' r r' =
      at_once Trace {told = Some text} {told' = Some text} {bytes = text}
      (IsReported Trace (RefusesTrace spec) s r) (IsReported Trace (RefusesTrace spec) s' r')
      refl refl x y
      (λ tokens n m. one_report Trace [] text (RefusesTrace spec) (OfTrace spec)
      (traces_decided spec) s s' r r' tokens n m) in
      λ i. reported (same.0 i) (same.1 i)

  -- a text that ends a call is that of no trace
  not_refused : (read : Recorded) (end : End) → EndsAtText Trace text (RefusesTrace spec) end
      → IsText Trace text (OfTrace spec read) → ⊥
  not_refused read _ (text_longer a) is = omega (arith, a, is.short)
  not_refused read _ (text_refused s r x) is =
      at_once Trace {told = Some text} {told' = Some text} {bytes = text}
      (IsReported Trace (RefusesTrace spec) s r) (OfTrace spec read) refl refl x is
      (λ tokens n g. (traces_decided spec).not_both read text tokens s n.place n.why g n.refused)

  -- a text is that of one trace
  one_trace : (xs ys : Recorded) → IsText Trace text (OfTrace spec xs)
      → IsText Trace text (OfTrace spec ys) → xs ≡ ys
  one_trace xs ys x y =
      at_once Trace {told = Some text} {told' = Some text} {bytes = text}
      (OfTrace spec xs) (OfTrace spec ys) refl refl x y
      (λ tokens n m. (traces_decided spec).one_value xs ys text tokens n m)

-- WHAT WAS MADE

-- the limits that a trace that was made is explained within
abbrev usual_limits : Limits
usual_limits =
    record { silent = usual_silent; budget = usual_budget; statements = usual_statements }

-- one verdict comes of a search
one_verdict : (spec : Spec) (read : Recorded) (v w : Verdict)
    → IsSearched usual_limits spec read (came.Found v)
    → IsSearched usual_limits spec read (came.Found w) → v ≡ w
one_verdict spec read v w x y =
    let same : came.Found v ≡ came.Found w =
    one_found usual_limits spec read (came.Found v) (came.Found w) x y in cc

module _ (spec : Spec) where
  -- a trace that was made ends a call in one way
  ends_one : (a b : Made) (end end' : End) → a ≡ b → MadeEnds spec a end → MadeEnds spec b end'
      → end ≡ end'
  ends_one _ _ _ _ same (faults f) (faults g) =
      let one : f ≡ g = cc in λ i. reported NoStart (no_start_line (one i))
  ends_one _ _ _ _ same (faults f) start_passes = absurd cc
  ends_one _ _ _ _ same (faults f) (passes run) = absurd cc
  ends_one _ _ _ _ same (faults f) (refuses t run end at) = absurd cc
  ends_one _ _ _ _ same (faults f) (explains t run read s outs verdict reads begun is) =
      absurd cc
  ends_one _ _ _ _ same start_passes (faults f) = absurd cc
  ends_one _ _ _ _ same start_passes start_passes = refl
  ends_one _ _ _ _ same start_passes (passes run) = absurd cc
  ends_one _ _ _ _ same start_passes (refuses t run end at) = absurd cc
  ends_one _ _ _ _ same start_passes (explains t run read s outs verdict reads begun is) =
      absurd cc
  ends_one _ _ _ _ same (passes run) (faults f) = absurd cc
  ends_one _ _ _ _ same (passes run) start_passes = absurd cc
  ends_one _ _ _ _ same (passes run) (passes run') =
      let one : run ≡ run' = cc in λ i. reported OverBudget (limit_line (length (one i)))
  ends_one _ _ _ _ same (passes run) (refuses t run' end at) = absurd cc
  ends_one _ _ _ _ same (passes run) (explains t run' read s outs verdict reads begun is) =
      absurd cc
  ends_one _ _ _ _ same (refuses t run end at) (faults f) = absurd cc
  ends_one _ _ _ _ same (refuses t run end at) start_passes = absurd cc
  ends_one _ _ _ _ same (refuses t run end at) (passes run') = absurd cc
  ends_one _ _ _ _ same (refuses t run end at) (refuses t' run' end' at') =
      let one : t' ≡ t = cc in
      one_at_text spec (written spec t) end end' at
      (subst (λ x. EndsAtText Trace (written spec x) (RefusesTrace spec) end') one at')
  ends_one _ _ _ _ same (refuses t run end at)
      (explains t' run' read s outs verdict reads begun is) =
      let one : t' ≡ t = cc in
      absurd (not_refused spec (written spec t) read end at
      (subst (λ x. IsText Trace (written spec x) (OfTrace spec read)) one reads))
  ends_one _ _ _ _ same (explains t run read s outs verdict reads begun is) (faults f) =
      absurd cc
  ends_one _ _ _ _ same (explains t run read s outs verdict reads begun is) start_passes =
      absurd cc
  ends_one _ _ _ _ same (explains t run read s outs verdict reads begun is) (passes run') =
      absurd cc
  ends_one _ _ _ _ same (explains t' run' read s outs verdict reads begun is)
      (refuses t run end at) =
      let one : t' ≡ t = cc in
      absurd (not_refused spec (written spec t) read end at
      (subst (λ x. IsText Trace (written spec x) (OfTrace spec read)) one reads))
  ends_one _ _ _ _ same (explains t run xs s outs v reads begun is)
      (explains t' run' ys s' outs' w reads' begun' is') =
      let one : t ≡ t' = cc in
      let moves : run ≡ run' = cc in
      let events : xs ≡ ys = one_trace spec (written spec t) xs ys reads
      (subst (λ x. IsText Trace (written spec x) (OfTrace spec ys)) (sym one) reads') in
      let verdict : v ≡ w = one_verdict spec xs v w (s, outs, begun, is)
      (subst (λ es. IsSearched usual_limits spec es (came.Found w)) (sym events)
      (s', outs', begun', is')) in
      λ i. reported (verdict_status (verdict i))
      (self_run_report spec (one i) (moves i) (events i) (verdict i))

-- and so with one report
pub one_made_report : (seed count : ℕ) (spec : Spec) (s s' : Status) (r r' : List ℕ)
    → IsMadeReport seed count spec s r → IsMadeReport seed count spec s' r' → AreSame s s' r r'
one_made_report seed count spec s s' r r' x y =
    let made : x.0 ≡ y.0 =
    one_made (recipe.task_of usual_statements usual_silent spec) seed count x.0 y.0 x.1 y.1 in
    let same : reported s r ≡ reported s' r' =
    ends_one spec x.0 y.0 (reported s r) (reported s' r') made x.2 y.2 in
    (cc, cc)
