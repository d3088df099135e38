-- What holds while a walk goes on, and where it stops.
use Rattle.std.specs.Prelude.{◌≡◌, ℕ, ◌+◌, ◌-◌, ◌*◌, ◌<◌, ◌≤◌, ◌⊎◌, Bool, true, false, IsTrue}
use Rattle.std.specs.Prelude.{List, [], ◌++◌, Option, None, length, drop}
use Rattle.est_syntax.specs.declared.specification.Spec.{Spec}
use Rattle.est_meaning.specs.declared.event.Event.{Event}
use Rattle.est_meaning.specs.declared.firing.Firing.{Firing}
use Rattle.est_meaning.specs.declared.run.Move.{Move}
use Rattle.est_meaning.specs.declared.run.Move.TheVariants.{Fire}
use Rattle.est_meaning.specs.Agreement.{AgreeAll}
use Rattle.est_meaning.specs.Order.{Mark, marks_of}
use Rattle.est_meaning.specs.RecordedTraces.{known_trace}
use Rattle.est_meaning.specs.Run.{Setup, IsBoundedRun, FollowsBefore, silent_after}
use Rattle.est_meaning.specs.SituationStacks.{Stack}
use Rattle.est_meaning.specs.Task.{Suits}
use Rattle.est_meaning.specs.Trials.{IsTrial, HasMany}
use Rattle.mean_watch.specs.declared.watched.Watched.{Watched}
use Rattle.mean_watch.specs.declared.watched.Watched.TheVariants.{Possible, Impossible}
use Rattle.mean_watch.specs.declared.watched.Watched.TheVariants.{OverFirings, OverAction}
use Rattle.run_paths.specs.declared.path.Stage.TheVariants as stage
use Rattle.run_paths.specs.Paths.{View, view_of, entered, IsNext}
use Rattle.est_search.specs.inside.Ahead.{IsLater, IsAhead}
use Rattle.est_search.specs.inside.Known.{KnowsTrials}
use Rattle.est_search.specs.inside.Path.{place_at, AreLower, IsAt}
use Rattle.est_search.specs.inside.Walk.{load}
use Rattle.est_watch.specs.declared.walk.Walk.{Walk}
use Rattle.est_watch.specs.declared.walk.Landed.{Landed}
use Rattle.est_watch.specs.declared.walk.Landed.TheVariants as landed
use Rattle.est_watch.specs.declared.walk.Step.{Step}
use Rattle.est_watch.specs.declared.walk.Step.TheVariants as step
use Rattle.est_watch.specs.inside.Agreement.{AreGivenFor}
use Rattle.est_watch.specs.inside.Known.{IsSought, IsMet, Knows}

-- ON THE WAY

-- the walk stands at a run with fewer events than were given, after which this was dealt with last
pub record IsOnWay (c : Setup) (exact : Bool) (stack : Stack) (v : View Move Firing) (tried : ℕ)
    (passed : Bool) : Type 0 where
  pub dealt : Option Mark
  pub at : IsAt c stack v dealt
  pub knows : Knows c exact (IsAhead (marks_of v.moves) dealt) tried passed

abbrev pub IsWalk : Setup → Bool → Stack → Walk → Type 0
IsWalk c exact stack w = IsOnWay c exact stack (view_of w.path) w.tried w.passed

-- what each step needs
pub record IsReady (c : Setup) (exact : Bool) (spec : Spec) (limit silent : ℕ)
    (given : List Event) (stack : Stack) (w : Walk) : Type 0 where
  pub suits : Suits c spec limit silent (known_trace given)
  pub on_way : IsWalk c exact stack w

-- the firing is about to be tried: it was taken from those that are left
pub record IsTrying (c : Setup) (exact : Bool) (spec : Spec) (limit silent : ℕ)
    (given : List Event) (stack : Stack) (w : Walk) (f : Firing) : Type 0 where
  pub suits : Suits c spec limit silent (known_trace given)
  pub before : View Move Firing
  pub next : IsNext before f (view_of w.path)
  pub on_way : IsOnWay c exact stack before w.tried w.passed

-- nothing goes on from the run at which the walk stands, and it is not sought itself
pub record IsLeaving (c : Setup) (exact : Bool) (stack : Stack) (v : View Move Firing) (tried : ℕ)
    (passed : Bool) : Type 0 where
  pub lower : AreLower c v.lower v.moves stack.below v.tries
  pub knows : Knows c exact (IsLater (marks_of v.moves)) tried passed

-- WHERE IT STOPS

-- the run of the path has all events that were given, and then these, which its last firing sent
pub record StandsAt (c : Setup) (stack : Stack) (v : View Move Firing) (over : List Event)
    : Type 0 where
  pub events : List Event
  pub is_run : IsBoundedRun c v.moves (place_at stack.now v.top (events ++ over))
  pub agree : AgreeAll c.trace.events events
  pub before : FollowsBefore c v.moves
  pub matched : v.top.matched ≡ length c.trace.events
  pub fresh : v.stage ≡ stage.Fresh
  pub none_left : v.top.left ≡ 0
  pub lower : AreLower c v.lower v.moves stack.below v.tries

-- each other run that is sought comes after it, and so do all trials that were not tried
pub record IsFound (c : Setup) (exact : Bool) (stack : Stack) (v : View Move Firing)
    (over : List Event) (tried : ℕ) (passed : Bool) : Type 0 where
  pub stands : StandsAt c stack v over
  pub ends : IsTrue exact → over ≡ []
  pub trials : KnowsTrials c (IsAhead (marks_of v.moves) None) tried
  pub sought : (run : List Move) → IsSought c exact run
      → (run ≡ v.moves) ⊎ IsAhead (marks_of v.moves) None (marks_of run)
  pub met : IsMet c (IsAhead (marks_of v.moves) None) passed

-- what the last firing sent and was not given yet
abbrev pub over_of : Walk → List Event
over_of w = drop w.used w.outs.items

abbrev pub IsStanding : Setup → Bool → Stack → Walk → Type 0
IsStanding c exact stack w =
    IsFound c exact stack (view_of w.path) (over_of w) w.tried w.passed

-- after a move: the run is one that is sought, or the walk goes on
abbrev pub IsFoundOr : Setup → Bool → Stack → Bool → Walk → Type 0
IsFoundOr c exact stack true w = IsStanding c exact stack w
IsFoundOr c exact stack false w = IsWalk c exact stack w

-- what comes of a step
abbrev pub StepIs : Setup → Bool → Stack → Step → Walk → Type 0
StepIs c exact stack step.Going w = IsWalk c exact stack w
StepIs c exact stack step.Found w = IsStanding c exact stack w
StepIs c exact stack step.Over w = HasMany (IsTrial c) (w.tried + 1)
StepIs c exact stack step.Done w = Knows c exact (λ x. ⊥) w.tried w.passed

-- what is answered where it stops, and what holds then
abbrev pub AnswerIs : Setup → Bool → ℕ → Stack → Walk → Watched → Type 0
AnswerIs c exact budget stack w Possible = IsStanding c exact stack w
AnswerIs c exact budget stack w Impossible =
    (w.passed ≡ false) × Knows c exact (λ x. ⊥) w.tried w.passed
AnswerIs c exact budget stack w OverFirings = HasMany (IsTrial c) (budget + 1)
AnswerIs c exact budget stack w OverAction =
    (w.passed ≡ true) × Knows c exact (λ x. ⊥) w.tried w.passed

-- FIRINGS

-- all events that are given are those of the run, and it may end so
abbrev pub MayEnd : Bool → List Event → ℕ → ℕ → List Event → Type 0
MayEnd exact given matched k outs =
    (matched + k ≡ length given) × (IsTrue exact → k ≡ length outs)

-- the events of the firing are so many of those that are given, and it leads on
pub record HasLedOn (given : List Event) (silent : ℕ) (old new : Walk) (f : Firing) (k : ℕ)
    : Type 0 where
  pub agree : AreGivenFor given old.path.top.matched old.outs.items k
  pub few : silent_after old.path.top.silent old.outs.items ≤ silent
  pub path : view_of new.path ≡ entered (view_of old.path) (Fire f) (old.path.top.matched + k)
      (silent_after old.path.top.silent old.outs.items)
  pub used : new.used ≡ k
  pub others : new ≡ record old { path = new.path; used = new.used }

-- what comes of a firing that is done
abbrev pub HasLanded : Bool → List Event → ℕ → Walk → Walk → Firing → Landed → Type 0
HasLanded exact given silent old new f landed.On = HasLedOn given silent old new f
    (length old.outs.items) × (old.path.top.matched + length old.outs.items < length given)
HasLanded exact given silent old new f landed.Found = (k : ℕ) × HasLedOn given silent old new f k
    × MayEnd exact given old.path.top.matched k old.outs.items
HasLanded exact given silent old new f landed.Off = (new ≡ old)
    × ((silent < silent_after old.path.top.silent old.outs.items)
    ⊎ ((k : ℕ) × AreGivenFor given old.path.top.matched old.outs.items k
    × (k < length old.outs.items)
    × (MayEnd exact given old.path.top.matched k old.outs.items → ⊥)))

-- WORK

-- how many steps are left, at most
abbrev pub work : ℕ → ℕ → Walk → ℕ
work n budget w = (budget - w.tried) * (3 * n + 5) + load n (view_of w.path)
