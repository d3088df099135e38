-- What the specification and the trace of a search determine.
use Rattle.std.proofs.Common.{◌≡◌, ◌∙◌, ℕ, List, length, sym, subst, ap, refl}
use Rattle.est_syntax.specs.declared.specification.Spec.{Spec}
use Rattle.mean_blocks.specs.GlobalSituation.{Situation}
use Rattle.mean_blocks.specs.Outcome.{Outcome, Done, Fault, Limit}
use Rattle.mean_blocks.specs.TextByPlace.{text_of}
use Rattle.est_meaning.specs.declared.event.Event.{Event}
use Rattle.est_meaning.specs.RecordedTraces.{Recorded}
use Rattle.est_meaning.specs.FiringSteps.{start_of}
use Rattle.est_meaning.specs.declared.run.Limits.{Limits}
use Rattle.est_search.specs.declared.verdict.Verdict.{Verdict}
use Rattle.est_search.specs.Verdict.{IsVerdict}
use Rattle.est_search.proofs.OneVerdict.{verdict_unique}
use Rattle.call_files.specs.declared.file.File.TheVariants.{Specification, Trace}
use Rattle.est_tool.specs.declared.search.Searched.{Searched}
use Rattle.est_tool.specs.declared.search.Searched.TheVariants as came
use Rattle.call_files.specs.declared.status.Status.{Status}
use Rattle.call_files.specs.FileTexts.{RefusesSpecification, RefusesTrace}
use Rattle.call_files.specs.Seen.{Seen}
use Rattle.est_tool.specs.inside.Work.{Tells, IsExplained}
use Rattle.est_tool.specs.inside.Searching.{IsSearched}
use Rattle.call_files.specs.FileEnds.{End, reported, unread}
use Rattle.est_tool.specs.Ends.{ExplainEnds}
use Rattle.est_meaning.specs.Task.{setup_from}
use Rattle.est_tool.specs.Ends.{ends_at_specification, ends_at_trace, not_started}
use Rattle.est_tool.specs.Ends.{start_over, searched}
use Rattle.law_calls.proofs.Stages.{AreSame, OfReport, stopped, stops, goes_on}
use Rattle.law_calls.proofs.Stages.{AtSpecification, AtTrace}

-- the limits of a search, from its words
abbrev pub limits_of : ℕ → ℕ → ℕ → Limits
limits_of silent budget statements =
    record { silent = silent; budget = budget; statements = statements }

-- the stages of a search
abbrev pub Searches : Seen → List ℕ → Limits → Spec → Status → List ℕ → Type 0
Searches shelf trace limits spec = AtTrace shelf trace spec (IsExplained limits spec)

abbrev pub Explains : Seen → List ℕ → List ℕ → Limits → Status → List ℕ → Type 0
Explains shelf specification trace limits =
    AtSpecification shelf specification (Searches shelf trace limits)

pub explain_stages : (shelf : Seen) (specification trace : List ℕ) (silent budget statements : ℕ)
    (end : End) → ExplainEnds shelf specification trace silent budget statements end
    → OfReport (Explains shelf specification trace (limits_of silent budget statements)) end
explain_stages shelf specification trace silent budget statements _
    (ends_at_specification (reported s r) x) = stops (stopped shelf Specification specification
    RefusesSpecification (reported s r) x)
explain_stages shelf specification trace silent budget statements _
    (ends_at_specification unread x) = tt
explain_stages shelf specification trace silent budget statements _
    (ends_at_trace spec (reported s r) holds x) = goes_on spec holds
    (stops (stopped shelf Trace trace (RefusesTrace spec) (reported s r) x))
explain_stages shelf specification trace silent budget statements _
    (ends_at_trace spec unread holds x) = tt
explain_stages shelf specification trace silent budget statements _
    (not_started spec recorded fault holds traced is) =
    goes_on spec holds (goes_on recorded traced (came.Fault fault, is, (refl, refl)))
explain_stages shelf specification trace silent budget statements _
    (start_over spec recorded holds traced is) =
    goes_on spec holds (goes_on recorded traced (came.Limit, is, (refl, refl)))
explain_stages shelf specification trace silent budget statements _
    (searched spec recorded s outs verdict holds traced begun is fits) =
    goes_on spec holds
    (goes_on recorded traced (came.Found verdict, (s, outs, begun, is), (refl, refl, fits)))

-- a start that is ready is so in one way
pub one_start : (o : Outcome Situation (List Event)) (s t : Situation) (outs outs' : List Event)
    → o ≡ Done outs s → o ≡ Done outs' t → (s ≡ t) × (outs ≡ outs')
one_start o s t outs outs' x y = let same : Done outs s ≡ Done outs' t = sym x ∙ y in (cc, cc)

-- from one start one verdict comes
pub verdict_at : (limits : Limits) (spec : Spec) (recorded : Recorded) (s t : Situation)
    (outs outs' : List Event) (verdict : Verdict)
    → start_of limits.statements (text_of spec) ≡ Done outs s
    → start_of limits.statements (text_of spec) ≡ Done outs' t
    → IsVerdict (setup_from limits.statements limits.silent spec recorded s outs) limits.budget
    verdict
    → IsVerdict (setup_from limits.statements limits.silent spec recorded t outs') limits.budget
    verdict
verdict_at limits spec recorded s t outs outs' verdict x y is =
    let same = one_start (start_of limits.statements (text_of spec)) s t outs outs' x y in
    subst (λ z. IsVerdict (setup_from limits.statements limits.silent spec recorded t z)
    limits.budget verdict) same.1
    (subst (λ z. IsVerdict (setup_from limits.statements limits.silent spec recorded z outs)
    limits.budget verdict) same.0 is)

-- one thing comes of a search
pub one_found : (limits : Limits) (spec : Spec) (recorded : Recorded) (a b : Searched)
    → IsSearched limits spec recorded a → IsSearched limits spec recorded b → a ≡ b
one_found limits spec recorded (came.Found v) (came.Found w) x y =
    ap (λ z. came.Found z)
    (verdict_unique (setup_from limits.statements limits.silent spec recorded y.0 y.1)
    limits.budget v w (verdict_at limits spec recorded x.0 y.0 x.1 y.1 v x.2 y.2 x.3) y.3)
one_found limits spec recorded (came.Found v) (came.Fault fault) x y =
    let e : Done x.1 x.0 ≡ Fault fault = sym x.2 ∙ y in absurd cc
one_found limits spec recorded (came.Found v) came.Limit x y =
    let e : Done x.1 x.0 ≡ Limit = sym x.2 ∙ y in absurd cc
one_found limits spec recorded (came.Fault fault) (came.Found w) x y =
    let e : Done y.1 y.0 ≡ Fault fault = sym y.2 ∙ x in absurd cc
one_found limits spec recorded (came.Fault fault) (came.Fault other) x y =
    let e : Fault fault ≡ Fault other = sym x ∙ y in
    let same : fault ≡ other = cc in ap (λ z. came.Fault z) same
one_found limits spec recorded (came.Fault fault) came.Limit x y =
    let e : Fault fault ≡ Limit = sym x ∙ y in absurd cc
one_found limits spec recorded came.Limit (came.Found w) x y =
    let e : Done y.1 y.0 ≡ Limit = sym y.2 ∙ x in absurd cc
one_found limits spec recorded came.Limit (came.Fault fault) x y =
    let e : Fault fault ≡ Limit = sym y ∙ x in absurd cc
one_found limits spec recorded came.Limit came.Limit x y = refl

-- and one report of it
one_told : (limit recorded : ℕ) (found : Searched) (s s' : Status) (r r' : List ℕ)
    → Tells limit recorded found s r → Tells limit recorded found s' r' → AreSame s s' r r'
one_told limit recorded (came.Found v) s s' r r' x y = (x.0 ∙ sym y.0, x.1 ∙ sym y.1)
one_told limit recorded (came.Fault fault) s s' r r' x y = (x.0 ∙ sym y.0, x.1 ∙ sym y.1)
one_told limit recorded came.Limit s s' r r' x y = (x.0 ∙ sym y.0, x.1 ∙ sym y.1)

pub one_explained : (limits : Limits) (spec : Spec) (recorded : Recorded) (s s' : Status)
    (r r' : List ℕ) → IsExplained limits spec recorded s r → IsExplained limits spec recorded s' r'
    → AreSame s s' r r'
one_explained limits spec recorded s s' r r' x y =
    one_told limits.statements (length recorded.events) y.0 s s' r r'
    (subst (λ z. Tells limits.statements (length recorded.events) z s r)
    (one_found limits spec recorded x.0 y.0 x.1 y.1) x.2) y.2
