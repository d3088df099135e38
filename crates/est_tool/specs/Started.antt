-- Which files a call starts.
use Rattle.std.specs.Prelude.{◌≡◌, ℕ, List, [], ◌∷◌}
use Rattle.est_syntax.specs.declared.specification.Spec.{Spec}
use Rattle.est_meaning.specs.mean_blocks.GlobalSituation.{Situation}
use Rattle.est_meaning.specs.mean_blocks.Outcome.{Done}
use Rattle.est_meaning.specs.mean_blocks.TextByPlace.{text_of}
use Rattle.est_meaning.specs.declared.event.Event.{Event}
use Rattle.est_meaning.specs.FiringSteps.{start_of}
use Rattle.est_meaning.specs.RecordedTraces.{Recorded}
use Rattle.call_files.specs.Seen.{Seen}
use Rattle.call_files.specs.FileEnds.{HoldsSpecification, HoldsTrace}
use Rattle.call_files.specs.Requests.{Request, check, print, explain, replay, selfrun, ports}
use Rattle.call_files.specs.Requests.{watch}
use Rattle.call_watch.specs.Endings.{standard_input}

-- `replay` starts its files in their order, each once, and one only where those before it are good
pub data ReplayStarts (shelf : Seen) (specification trace explanation : List ℕ)
    : List (List ℕ) → Type 0 where
  one : ReplayStarts shelf specification trace explanation (specification ∷ [])
  two : (spec : Spec) → HoldsSpecification shelf specification spec
      → ReplayStarts shelf specification trace explanation (specification ∷ trace ∷ [])
  three : (spec : Spec) (recorded : Recorded) → HoldsSpecification shelf specification spec
      → HoldsTrace shelf trace spec recorded
      → ReplayStarts shelf specification trace explanation
      (specification ∷ trace ∷ explanation ∷ [])

-- a search, `explain` or `ports`, starts its files in their order, each once, and the second one, a
-- trace or lists, only where the specification is good
pub data SearchStarts (shelf : Seen) (specification searched : List ℕ)
    : List (List ℕ) → Type 0 where
  first_alone : SearchStarts shelf specification searched (specification ∷ [])
  both : (spec : Spec) → HoldsSpecification shelf specification spec
      → SearchStarts shelf specification searched (specification ∷ searched ∷ [])

-- `watch` starts its file, and its text only where the start of a good specification is ready
pub data WatchStarts (shelf : Seen) (specification : List ℕ) (statements : ℕ)
    : List (List ℕ) → Type 0 where
  its_file : WatchStarts shelf specification statements (specification ∷ [])
  and_text : (spec : Spec) (outs : List Event) (situation : Situation)
      → HoldsSpecification shelf specification spec
      → start_of statements (text_of spec) ≡ Done outs situation
      → WatchStarts shelf specification statements (specification ∷ standard_input ∷ [])

-- the files of these names are all that is started for what the words ask for: `check`, `print` and
-- `selfrun` start their file, once
abbrev pub Starts : Seen → Request → List (List ℕ) → Type 0
Starts shelf (check specification) names = names ≡ specification ∷ []
Starts shelf (print specification) names = names ≡ specification ∷ []
Starts shelf (explain specification trace silent budget statements) names =
    SearchStarts shelf specification trace names
Starts shelf (replay specification trace explanation silent statements) names =
    ReplayStarts shelf specification trace explanation names
Starts shelf (selfrun specification seed count) names = names ≡ specification ∷ []
Starts shelf (ports specification lists silent budget statements) names =
    SearchStarts shelf specification lists names
Starts shelf (watch specification silent budget statements) names =
    WatchStarts shelf specification statements names
