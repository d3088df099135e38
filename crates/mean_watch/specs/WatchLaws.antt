-- What holds of the runs behind events.
use Rattle.std.specs.Prelude.{◌≡◌, ◌+◌, ◌⊎◌, List, [], ◌∷◌, ◌++◌, length}
use Rattle.est_meaning.specs.declared.event.Event.{Event}
use Rattle.est_meaning.specs.declared.run.Move.{Move}
use Rattle.est_meaning.specs.Order.{Mark, marks_of, StartsWith}
use Rattle.est_meaning.specs.Run.{Setup, Explains, YieldsFirst}
use Rattle.est_meaning.specs.Trials.{IsTrial, PassesLimit}
use Rattle.mean_watch.specs.Watching.{so_far, IsWatchTrial}

-- The trials before an event are trials after it, so a search that keeps its way tries each once;
-- and at the end they are those of the whole trace.
pub record TrialsGrow : Type 0 where
  pub grow : (c : Setup) (events more : List Event) (x : List Move)
      → IsWatchTrial c events x → IsWatchTrial c (events ++ more) x
  pub last : (c : Setup) (events : List Event) (x : List Move)
      → IsWatchTrial c events x → IsTrial (so_far c events) x
  pub all : (c : Setup) (events : List Event) (x : List Move)
      → IsTrial (so_far c events) x → IsWatchTrial c events x

-- what begins with these marks goes on from a run that explains the events
pub record GoesOnFromAll (c : Setup) (events : List Event) (x : List Mark) : Type 0 where
  pub mark : Mark
  pub run : List Move
  pub marks : x ≡ mark ∷ marks_of run
  pub explains : Explains (so_far c events) run

-- the run begins with one that yields the events
pub record BeginsYielding (c : Setup) (events : List Event) (run : List Move) : Type 0 where
  pub first : List Move
  pub starts : StartsWith run first
  pub yields : YieldsFirst (so_far c events) first (length events)

-- What one event more brings: each trial, and all that passes its limit, was there before it or goes
-- on from a run that explains the events before; and a run that yields one event more begins with one
-- that yields those before.
pub record FrontiersPart : Type 0 where
  pub trials : (c : Setup) (events : List Event) (e : Event) (x : List Move)
      → IsTrial (so_far c (events ++ e ∷ [])) x
      → IsTrial (so_far c events) x ⊎ GoesOnFromAll c events (marks_of x)
  pub limits : (c : Setup) (events : List Event) (e : Event) (x : List Mark)
      → PassesLimit (so_far c (events ++ e ∷ [])) x
      → PassesLimit (so_far c events) x ⊎ GoesOnFromAll c events x
  pub more : (c : Setup) (events more : List Event) (x : List Mark)
      → PassesLimit (so_far c events) x → PassesLimit (so_far c (events ++ more)) x
  pub yields : (c : Setup) (events : List Event) (e : Event) (run : List Move)
      → YieldsFirst (so_far c (events ++ e ∷ [])) run (length events + 1)
      → BeginsYielding c events run
