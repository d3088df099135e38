-- What a watcher knows between calls.
use Rattle.std.specs.Prelude.{◌≡◌, ℕ, ◌+◌, ◌<◌, ◌≤◌, ◌^◌, false, List}
use Rattle.std.specs.Prelude.{length, Result, Ok, Err}
use Rattle.est_syntax.specs.declared.specification.Spec.{Spec}
use Rattle.est_meaning.specs.declared.event.Event.{Event}
use Rattle.est_meaning.specs.RecordedTraces.{known_trace}
use Rattle.est_meaning.specs.Run.{Setup}
use Rattle.est_meaning.specs.SituationStacks.{Stack}
use Rattle.est_meaning.specs.Task.{Suits}
use Rattle.est_meaning.specs.AllowedEvents.{most_events}
use Rattle.est_meaning.specs.Trials.{HasMany}
use Rattle.mean_watch.specs.declared.watched.Watched.{Watched}
use Rattle.mean_watch.specs.declared.watched.Watched.TheVariants.{Possible}
use Rattle.mean_watch.specs.Watching.{so_far, IsWatchTrial}
use Rattle.est_watch.specs.declared.watcher.State.{State}
use Rattle.est_watch.specs.declared.watcher.State.TheVariants.{Open, Closed, Spent}
use Rattle.est_watch.specs.declared.watcher.Watcher.{Watcher}
use Rattle.est_watch.specs.inside.Walk.{IsStanding}

-- the events that were given to a watcher
abbrev pub given_to : {W : Type 0} → Watcher W → List Event
given_to t = t.given.items

-- how many firings were tried since it began
abbrev pub tried_by : {W : Type 0} → Watcher W → ℕ
tried_by t = t.walk.tried

-- for one specification: while it is open, its runs are those along the events given, and it stands
-- at one that yields them; each other one comes after it
pub record IsKept {W : Type 0} (c : Setup) (spec : Spec) (limit : ℕ) (stack : Stack)
    (t : Watcher W) : Type 0 where
  pub size : HasMany (IsWatchTrial c (given_to t)) (tried_by t)
  pub suits : t.state ≡ Open → Suits (so_far c (given_to t)) spec limit t.limits.silent
      (known_trace (given_to t))
  pub stands : t.state ≡ Open → IsStanding (so_far c (given_to t)) false stack t.walk

-- What holds between calls: no more firings were tried than the budget allows, nor than there are
-- trials behind the events.
pub record IsWatching {W : Type 0} (speaks : W → Spec → Type 0) (stack : W → Spec → Stack)
    (limit fired : W → ℕ) (setup : Spec → Setup) (t : Watcher W) : Type 0 where
  pub room : fired t.world + t.limits.budget < 2 ^ 64 + tried_by t
  pub within : tried_by t ≤ t.limits.budget
  pub few : length (given_to t) ≤ most_events
  pub each : (spec : Spec) → speaks t.world spec
      → IsKept (setup spec) spec (limit t.world) (stack t.world spec) t

-- after an answer other than `Possible`, and after want of memory, no call changes anything
abbrev pub StaysSo : {W E : Type 0} → Watcher W → Watcher W → Result Watched E → State → Type 0
StaysSo old new result Open = Unit {0}
StaysSo old new (Ok answer) (Closed last) = (answer ≡ last) × (new ≡ old)
StaysSo old new (Err e) (Closed last) = ⊥
StaysSo old new (Ok answer) Spent = ⊥
StaysSo old new (Err e) Spent = new ≡ old

-- how a watcher is left by a call: open after `Possible`, else closed with the answer
abbrev pub state_after : Watched → State
state_after Possible = Open
state_after answer = Closed answer
