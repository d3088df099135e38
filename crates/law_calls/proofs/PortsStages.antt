-- What the specification and the lists of a search along one trace for each port determine.
use Rattle.std.proofs.Common.{◌≡◌, ℕ, List, subst, refl}
use Rattle.est_syntax.specs.declared.specification.Spec.{Spec}
use Rattle.mean_blocks.specs.GlobalSituation.{Situation}
use Rattle.mean_blocks.specs.Outcome.{Done}
use Rattle.mean_blocks.specs.TextByPlace.{text_of}
use Rattle.est_meaning.specs.declared.event.Event.{Event}
use Rattle.est_meaning.specs.FiringSteps.{start_of}
use Rattle.est_meaning.specs.declared.run.Limits.{Limits}
use Rattle.mean_ports.specs.declared.lists.PortLists.{PortLists}
use Rattle.mean_ports.specs.declared.verdict.PortsVerdict.{PortsVerdict}
use Rattle.mean_ports.specs.PortsVerdict.{IsPortsVerdict}
use Rattle.call_files.specs.declared.file.File.TheVariants.{Specification, Trace}
use Rattle.call_files.specs.declared.status.Status.{Status}
use Rattle.call_files.specs.FileTexts.{RefusesSpecification, RefusesLists}
use Rattle.call_files.specs.FileEnds.{End, reported, unread}
use Rattle.call_files.specs.Seen.{Seen}
use Rattle.est_tool.specs.declared.search.PortsSearched.TheVariants as came
use Rattle.est_tool.specs.inside.Work.{IsMergedSo}
use Rattle.est_tool.specs.PortsEnds.{PortsEnds, setup_at, refused_at_specification}
use Rattle.est_tool.specs.PortsEnds.{refused_at_lists, no_start, long_start, judged}
use Rattle.law_calls.proofs.SearchStages.{limits_of, one_start}
use Rattle.law_calls.proofs.Stages.{OfReport, stopped, stops, goes_on, AtSpecification, AtLists}

-- the stages of such a search
abbrev pub AlongLists : Seen → List ℕ → Limits → Spec → Status → List ℕ → Type 0
AlongLists shelf lists limits spec = AtLists shelf lists spec (IsMergedSo limits spec)

abbrev pub Merges : Seen → List ℕ → List ℕ → Limits → Status → List ℕ → Type 0
Merges shelf specification lists limits =
    AtSpecification shelf specification (AlongLists shelf lists limits)

pub ports_stages : (shelf : Seen) (specification lists : List ℕ) (silent budget statements : ℕ)
    (end : End) → PortsEnds shelf specification lists silent budget statements end
    → OfReport (Merges shelf specification lists (limits_of silent budget statements)) end
ports_stages shelf specification lists silent budget statements _
    (refused_at_specification (reported s r) x) = stops (stopped shelf Specification specification
    RefusesSpecification (reported s r) x)
ports_stages shelf specification lists silent budget statements _
    (refused_at_specification unread x) = tt
ports_stages shelf specification lists silent budget statements _
    (refused_at_lists spec (reported s r) holds x) = goes_on spec holds
    (stops (stopped shelf Trace lists (RefusesLists spec) (reported s r) x))
ports_stages shelf specification lists silent budget statements _
    (refused_at_lists spec unread holds x) = tt
ports_stages shelf specification lists silent budget statements _
    (no_start spec listed fault holds held is) =
    goes_on spec holds (goes_on listed held (came.Fault fault, is, (refl, refl)))
ports_stages shelf specification lists silent budget statements _
    (long_start spec listed holds held is) =
    goes_on spec holds (goes_on listed held (came.Limit, is, (refl, refl)))
ports_stages shelf specification lists silent budget statements _
    (judged spec listed s outs verdict holds held begun allowed is fits) =
    goes_on spec holds
    (goes_on listed held (came.Found verdict, (s, outs, begun, allowed, is), (refl, refl, fits)))

-- from one start the same verdicts are right
pub merged_at : (silent budget statements : ℕ) (spec : Spec) (lists : PortLists)
    (s t : Situation) (outs outs' : List Event) (verdict : PortsVerdict)
    → start_of statements (text_of spec) ≡ Done outs s
    → start_of statements (text_of spec) ≡ Done outs' t
    → IsPortsVerdict (setup_at statements silent spec s outs) lists budget verdict
    → IsPortsVerdict (setup_at statements silent spec t outs') lists budget verdict
merged_at silent budget statements spec lists s t outs outs' verdict x y is =
    let same = one_start (start_of statements (text_of spec)) s t outs outs' x y in
    subst (λ z. IsPortsVerdict (setup_at statements silent spec t z) lists budget verdict) same.1
    (subst (λ z. IsPortsVerdict (setup_at statements silent spec z outs) lists budget verdict)
    same.0 is)
