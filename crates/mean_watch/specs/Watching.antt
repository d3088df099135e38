-- What is answered of the events of a trace that is still being recorded.
use Rattle.std.specs.Prelude.{◌≡◌, ℕ, ◌+◌, ◌<◌, List, [], ◌∷◌, length}
use Rattle.est_meaning.specs.mean_blocks.Outcome.{Limit}
use Rattle.est_meaning.specs.mean_blocks.TextByPlace.{text_of}
use Rattle.est_meaning.specs.declared.event.Event.{Event}
use Rattle.est_meaning.specs.declared.firing.Firing.{Firing}
use Rattle.est_meaning.specs.FiringSteps.{outcome}
use Rattle.est_meaning.specs.RecordedTraces.{known_trace}
use Rattle.est_meaning.specs.TransitionSelection.{IsSettled, IsPossible}
use Rattle.est_meaning.specs.declared.run.Move.{Move}
use Rattle.est_meaning.specs.declared.run.Move.TheVariants.{Take, Fire}
use Rattle.est_meaning.specs.Order.{Mark}
use Rattle.est_meaning.specs.Run.{Setup, Place, IsBoundedRun, Follows, Explains, Yields}
use Rattle.est_meaning.specs.Trials.{IsTrial, PassesLimit, HasMany, HasAtMost}
use Rattle.mean_watch.specs.declared.watched.Watched.{Watched}
use Rattle.mean_watch.specs.declared.watched.Watched.TheVariants.{Possible, Impossible}
use Rattle.mean_watch.specs.declared.watched.Watched.TheVariants.{OverFirings, OverAction}

-- the runs along these events
abbrev pub so_far : Setup → List Event → Setup
so_far c events = record c { trace = known_trace events }

-- THE FRONTIER

-- a bounded run with fewer events than were given, which follows them
pub record IsBehind (c : Setup) (events : List Event) (run : List Move) (p : Place)
    : Type 0 where
  pub is_run : IsBoundedRun (so_far c events) run p
  pub fewer : length p.events < length events
  pub follows : Follows (so_far c events) p

-- a possible firing after such a run. WatchSize is how many there are
-- (`HasExactly (IsWatchTrial c events)`).
abbrev pub IsWatchTrial : Setup → List Event → List Move → Type 0
IsWatchTrial c events [] = ⊥
IsWatchTrial c events (Take ∷ earlier) = ⊥
IsWatchTrial c events (Fire f ∷ earlier) =
    (p : Place) × IsBehind c events earlier p × IsPossible c.limit (text_of c.spec) p.situation f

-- after such a run a guard passes its limit, or the block of a possible firing does
pub data PassesBehind (c : Setup) (events : List Event) : Type 0 where
  guards : (run : List Move) (p : Place) → IsBehind c events run p
      → (IsSettled c.limit (text_of c.spec) p.situation → ⊥) → PassesBehind c events
  block : (run : List Move) (p : Place) (f : Firing) → IsBehind c events run p
      → IsPossible c.limit (text_of c.spec) p.situation f
      → outcome c.limit (text_of c.spec) p.situation f ≡ Limit → PassesBehind c events

-- some bounded run yields all events that were given: its last firing may have sent more
abbrev pub IsYielded : Setup → List Event → Type 0
IsYielded c events = (run : List Move) × Yields (so_far c events) run (length events)

-- ANSWERS

-- Which answers to the last of these events are right. Where a run yields them and the trials are
-- within the budget, none but `Possible` is.
abbrev pub IsWatched : Setup → ℕ → List Event → Watched → Type 0
IsWatched c budget events Possible = IsYielded c events
IsWatched c budget events Impossible = HasAtMost (IsWatchTrial c events) budget
    × (IsYielded c events → ⊥) × (PassesBehind c events → ⊥)
IsWatched c budget events OverFirings = HasMany (IsWatchTrial c events) (budget + 1)
IsWatched c budget events OverAction = HasAtMost (IsWatchTrial c events) budget
    × (IsYielded c events → ⊥) × PassesBehind c events

-- some bounded run explains the events
abbrev pub IsExplained : Setup → List Event → Type 0
IsExplained c events = (run : List Move) × Explains (so_far c events) run

-- something passes its limit on the way
abbrev pub PassesInside : Setup → List Event → Type 0
PassesInside c events = (x : List Mark) × PassesLimit (so_far c events) x

-- which answers are right where these are all events
abbrev pub IsFinished : Setup → ℕ → List Event → Watched → Type 0
IsFinished c budget events Possible = IsExplained c events
IsFinished c budget events Impossible = HasAtMost (IsTrial (so_far c events)) budget
    × (IsExplained c events → ⊥) × (PassesInside c events → ⊥)
IsFinished c budget events OverFirings = HasMany (IsTrial (so_far c events)) (budget + 1)
IsFinished c budget events OverAction = HasAtMost (IsTrial (so_far c events)) budget
    × (IsExplained c events → ⊥) × PassesInside c events
