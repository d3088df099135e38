-- What holds while a search goes on, and at its end.
use Rattle.std.specs.Prelude.{◌≡◌, ℕ, ◌+◌, ◌-◌, ◌*◌, ◌<◌, ◌≤◌, ◌⊎◌, Bool, true, false}
use Rattle.std.specs.Prelude.{List, [], ◌∷◌, Option, Some, None, length, reverse}
use Rattle.est_syntax.specs.declared.specification.Spec.{Spec}
use Rattle.est_meaning.specs.mean_blocks.Outcome.{Fault}
use Rattle.est_meaning.specs.mean_blocks.TextByPlace.{text_of}
use Rattle.est_meaning.specs.declared.event.Event.{Event}
use Rattle.est_meaning.specs.declared.trace.Expected.{Expected}
use Rattle.est_meaning.specs.RecordedTraces.{Recorded}
use Rattle.est_meaning.specs.declared.firing.Firing.{Firing}
use Rattle.est_meaning.specs.Endings.{IsTraceEnd}
use Rattle.est_meaning.specs.SituationStacks.{Stack}
use Rattle.est_meaning.specs.declared.run.Move.{Move}
use Rattle.est_meaning.specs.declared.run.Move.TheVariants.{Fire}
use Rattle.est_meaning.specs.Order.{Mark, Trying, marks_of, IsFirst}
use Rattle.est_meaning.specs.Task.{Suits, IsSetup}
use Rattle.est_meaning.specs.Run.{Setup, Explains, silent_after}
use Rattle.est_meaning.specs.Trials.{IsTrial, IsTrialUpTo, HasMany, HasExactly, ComesTo}
use Rattle.est_meaning.specs.Trials.{mark_passed}
use Rattle.est_search.specs.declared.verdict.Faulted.{Faulted}
use Rattle.est_search.specs.Verdict.{HasEvents}
use Rattle.est_search.specs.declared.verdict.Verdict.{Verdict}
use Rattle.est_search.specs.declared.verdict.Verdict.TheVariants.{Accepted, Refused}
use Rattle.est_search.specs.declared.verdict.Verdict.TheVariants.{OverFirings, OverAction}
use Rattle.run_paths.specs.declared.path.Stage.{Stage}
use Rattle.run_paths.specs.declared.path.Stage.TheVariants.{Fresh, Taken, Listed}
use Rattle.run_paths.specs.declared.path.Best.{Best}
use Rattle.est_search.specs.declared.walk.Passed.{Passed}
use Rattle.est_search.specs.declared.walk.Notes.{Notes}
use Rattle.est_search.specs.declared.walk.Walk.{Walk}
use Rattle.est_search.specs.declared.walk.Landed.{Landed}
use Rattle.est_search.specs.declared.walk.Landed.TheVariants.{On, Off}
use Rattle.est_search.specs.declared.walk.Step.{Step}
use Rattle.est_search.specs.declared.walk.Step.TheVariants.{Going, Accepting, Over, Done}
use Rattle.est_search.specs.inside.Ahead.{IsAhead}
use Rattle.est_search.specs.inside.Known.{Knows}
use Rattle.est_search.specs.inside.Agreement.{AgreeFor}
use Rattle.run_paths.specs.Paths.{View, view_of, entered, IsNext, IsKept, HasReached}
use Rattle.est_search.specs.inside.Path.{IsAt}

-- WHAT IS KNOWN ON THE WAY

-- where a limit was passed first
abbrev pub passed_at : Option Passed → Option (List Mark)
passed_at None = None
passed_at (Some p) = Some (mark_passed p.firing ∷ marks_of (reverse p.run))

-- where a block faulted first
abbrev pub faulted_at : Option Faulted → Option (List Mark)
faulted_at None = None
faulted_at (Some f) = Some (Trying f.firing ∷ marks_of (reverse f.run))

-- and with which fault
abbrev pub FaultIs : Setup → Option Faulted → Type 0
FaultIs c None = Unit {0}
FaultIs c (Some f) = ComesTo c (reverse f.run) f.firing (Fault f.fault)

-- and how many events the run has after which a limit was passed
abbrev pub EventsAre : Setup → Option Passed → Type 0
EventsAre c None = Unit {0}
EventsAre c (Some p) = HasEvents c (reverse p.run) p.events

-- what was noted is so
abbrev pub NotesAre : Setup → Notes → Type 0
NotesAre c notes = FaultIs c notes.faulted × EventsAre c notes.passed

-- what is known where these are ahead
pub record KnowsAll (c : Setup) (P : List Mark → Type 0) (moves : List Move) (tried : ℕ)
    (best : Best Move) (notes : Notes) : Type 0 where
  pub run : List Move
  pub kept : IsKept moves best run
  pub knows : Knows c P tried best.yields run (passed_at notes.passed) (faulted_at notes.faulted)
  pub noted : NotesAre c notes

-- the search is on its way
pub record IsOnWay (c : Setup) (stack : Stack) (v : View Move Firing) (tried : ℕ) (best : Best Move)
    (notes : Notes) : Type 0 where
  pub dealt : Option Mark
  pub at : IsAt c stack v dealt
  pub all : KnowsAll c (IsAhead (marks_of v.moves) dealt) v.moves tried best notes

abbrev pub IsWalk : Setup → Stack → Walk → Type 0
IsWalk c stack w = IsOnWay c stack (view_of w.path) w.tried w.best w.notes

-- what each step needs
pub record IsReady (c : Setup) (spec : Spec) (limit silent : ℕ) (trace : Recorded) (stack : Stack)
    (w : Walk) : Type 0 where
  pub suits : Suits c spec limit silent trace
  pub on_way : IsWalk c stack w

-- the firing is about to be tried: it was taken from those that are left
pub record IsTrying (c : Setup) (spec : Spec) (limit silent : ℕ) (trace : Recorded)
    (stack : Stack) (w : Walk) (f : Firing) : Type 0 where
  pub suits : Suits c spec limit silent trace
  pub before : View Move Firing
  pub next : IsNext before f (view_of w.path)
  pub on_way : IsOnWay c stack before w.tried w.best w.notes

-- STEPS

-- the events of the firing agree with the trace, and it leads on
pub record HasLedOn (trace : List Expected) (silent : ℕ) (old new : Walk) (f : Firing)
    : Type 0 where
  pub agree : AgreeFor trace old.path.top.matched old.outs.items (length old.outs.items)
  pub few : silent_after old.path.top.silent old.outs.items ≤ silent
  pub best : HasReached old.best new.best (length old.path.moves.items) (Fire f)
      (old.path.top.matched + length old.outs.items)
  pub path : view_of new.path ≡ entered (view_of old.path) (Fire f)
      (old.path.top.matched + length old.outs.items)
      (silent_after old.path.top.silent old.outs.items)
  pub notes : new.notes ≡ old.notes

-- its events depart from the trace
pub record HasDeparted (trace : List Expected) (silent : ℕ) (old new : Walk) (f : Firing)
    : Type 0 where
  pub k : ℕ
  pub agree : AgreeFor trace old.path.top.matched old.outs.items k
  pub short : k < length old.outs.items
  pub few : silent_after old.path.top.silent old.outs.items ≤ silent
  pub best : HasReached old.best new.best (length old.path.moves.items) (Fire f)
      (old.path.top.matched + k)
  pub path : new.path ≡ old.path
  pub notes : new.notes ≡ old.notes

-- what comes of a firing that is done
abbrev pub HasLanded : List Expected → ℕ → Walk → Walk → Firing → Landed → Type 0
HasLanded trace silent old new f On = HasLedOn trace silent old new f
HasLanded trace silent old new f Off =
    ((silent < silent_after old.path.top.silent old.outs.items) × (new ≡ old))
    ⊎ HasDeparted trace silent old new f

-- the run is the first that explains the trace, and so many trials stand up to it
pub record Accepts (c : Setup) (run : List Move) (tried : ℕ) : Type 0 where
  pub first : IsFirst (Explains c) run
  pub tried_is : HasExactly (IsTrialUpTo c run) tried

-- after a move: the run explains the trace, or the search goes on
abbrev pub IsFound : Setup → Stack → Bool → Walk → Type 0
IsFound c stack true w = Accepts c (reverse w.path.moves.items) w.tried
IsFound c stack false w = IsWalk c stack w

-- one more trial is to be made
pub record IsOver (c : Setup) (tried : ℕ) : Type 0 where
  pub size : HasMany (IsTrial c) (tried + 1)
  pub late : (run : List Move) → Explains c run → HasMany (IsTrialUpTo c run) (tried + 1)

-- nothing is ahead
abbrev pub IsDone : Setup → Walk → Type 0
IsDone c w = KnowsAll c (λ x. ⊥) [] w.tried w.best w.notes

-- what comes of a step
abbrev pub StepIs : Setup → Stack → Step → Walk → Type 0
StepIs c stack Going w = IsWalk c stack w
StepIs c stack Accepting w = Accepts c (reverse w.path.moves.items) w.tried
StepIs c stack Over w = IsOver c w.tried
StepIs c stack Done w = IsDone c w

-- WORK

-- how many steps a run takes, those after its moves aside
abbrev pub weight_of : ℕ → ℕ → Stage → ℕ
weight_of n matched Fresh = 3 * (n - matched) + 3
weight_of n matched Taken = 2
weight_of n matched Listed = 1

-- how many steps are left where no more firings are tried, at most
abbrev pub load : ℕ → View Move Firing → ℕ
load n v = weight_of n v.top.matched v.stage + 2 * length v.lower

-- how many steps are left, at most
abbrev pub work : ℕ → ℕ → Walk → ℕ
work n budget w = (budget - w.tried) * (3 * n + 5) + load n (view_of w.path)

-- THE ANSWER

-- where nothing is left to be tried
abbrev pub Concludes : Walk → Verdict → Type 0
Concludes w (Accepted run) = ⊥
Concludes w (Refused at run faulted) = (w.notes.passed ≡ None) × (at ≡ w.best.yields + 1)
    × (run ≡ reverse w.best.tail.items) × (faulted ≡ w.notes.faulted)
Concludes w (OverFirings tried) = ⊥
Concludes w (OverAction run events firing) =
    w.notes.passed ≡ Some (record { run = run; events = events; firing = firing })

-- where the search ends so
abbrev pub Answers : Walk → ℕ → Step → Verdict → Type 0
Answers w budget Going verdict = ⊥
Answers w budget Accepting verdict = verdict ≡ Accepted w.path.moves.items
Answers w budget Over verdict = verdict ≡ OverFirings budget
Answers w budget Done verdict = Concludes w verdict

-- THE START

-- no move was made yet, and none can be undone
pub record IsStarting (c : Setup) (spec : Spec) (limit silent : ℕ) (trace : Recorded)
    (stack : Stack) (outs : List Event) : Type 0 where
  pub setup : IsSetup c spec limit silent trace stack outs
  pub bottom : stack.below ≡ []

-- where a search begins: the start has so many events, which agree with the trace, and does not
-- explain it
pub record IsBeginning (c : Setup) (spec : Spec) (limit silent : ℕ) (trace : Recorded)
    (stack : Stack) (matched : ℕ) : Type 0 where
  pub suits : Suits c spec limit silent trace
  pub start_is : c.start ≡ stack.now
  pub bottom : stack.below ≡ []
  pub many : length c.start_outs ≡ matched
  pub agree : AgreeFor c.trace.events 0 c.start_outs matched
  pub unfinished : IsTraceEnd c.trace c.limit (text_of c.spec) c.start matched → ⊥
