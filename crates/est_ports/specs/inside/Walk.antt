-- What holds while a walk goes on, and at its end.
use Rattle.std.specs.Prelude.{◌≡◌, ℕ, ◌+◌, ◌-◌, ◌*◌, ◌<◌, ◌≤◌, List, [], ◌++◌, Option, Some, None}
use Rattle.std.specs.Prelude.{length, map, reverse}
use Rattle.est_syntax.specs.Least.{IsIn}
use Rattle.est_syntax.specs.declared.specification.Spec.{Spec}
use Rattle.est_meaning.specs.mean_blocks.GlobalSituation.{Situation}
use Rattle.est_meaning.specs.mean_blocks.Outcome.{Done}
use Rattle.est_meaning.specs.mean_blocks.TextByPlace.{text_of}
use Rattle.est_meaning.specs.FiringSteps.{outcome}
use Rattle.est_meaning.specs.RecordedTraces.{Recorded}
use Rattle.est_meaning.specs.Run.{Setup, IsBegun, silent_after}
use Rattle.est_meaning.specs.SituationStacks.{Stack, pushed}
use Rattle.est_meaning.specs.declared.event.Event.{Event}
use Rattle.est_meaning.specs.declared.firing.Firing.{Firing}
use Rattle.mean_ports.specs.declared.lists.PortLists.{PortLists}
use Rattle.mean_ports.specs.declared.moves.PortMove.{PortMove}
use Rattle.mean_ports.specs.declared.moves.PortMove.TheVariants.{TakeAt, Pass, Fire}
use Rattle.mean_ports.specs.declared.verdict.PortsVerdict.{PortsVerdict}
use Rattle.mean_ports.specs.declared.verdict.PortsVerdict.TheVariants.{Accepted, Refused}
use Rattle.mean_ports.specs.declared.verdict.PortsVerdict.TheVariants.{OverTries, OverAction}
use Rattle.mean_ports.specs.HowMany.{HasMany}
use Rattle.mean_ports.specs.Merges.{AreAllowedLists}
use Rattle.mean_ports.specs.PortRunLaws.{plain_move}
use Rattle.mean_ports.specs.PortRuns.{Left, PortPlace, IsPortRun, IsAllUsed, AreNext, all_left}
use Rattle.mean_ports.specs.PortTrials.{IsPortTrial, IsFiringTrial}
use Rattle.run_paths.specs.declared.path.Stage.{Stage}
use Rattle.run_paths.specs.declared.path.Stage.TheVariants as stage
use Rattle.run_paths.specs.declared.path.Best.{Best}
use Rattle.run_paths.specs.Paths.{View, view_of, entered, with_tries, IsNext, HasReached}
use Rattle.est_ports.specs.declared.left.Used.{Used}
use Rattle.est_ports.specs.declared.left.Rest.{Rest}
use Rattle.est_ports.specs.declared.walk.Passed.{Passed}
use Rattle.est_ports.specs.declared.walk.Walk.{Walk}
use Rattle.est_ports.specs.declared.walk.Step.{Step}
use Rattle.est_ports.specs.declared.walk.Step.TheVariants.{Going, Accepting, Over}
use Rattle.est_ports.specs.declared.walk.Step.TheVariants as step
use Rattle.est_ports.specs.inside.Ahead.{IsAhead, AreGuardsAhead}
use Rattle.est_ports.specs.inside.Known.{Knows}
use Rattle.est_ports.specs.inside.Leftover.{HasUsedUp, Stands, used_of, kept, ArrivesNext, PassesNext}
use Rattle.est_ports.specs.inside.Leftover.{MergesFrom, HasUsed, UsesMore}
use Rattle.est_ports.specs.inside.Standing.{IsAt, IsBest, AreApart}

-- WHAT COMES FROM OUTSIDE

-- the move takes what may come next from outside
abbrev pub IsTakeIn : Left → PortMove → Type 0
IsTakeIn left (TakeAt port) = (e : Event) × ArrivesNext left port e
IsTakeIn left Pass = (units : ℕ) × (after : Left) × PassesNext left units after
IsTakeIn left (Fire f) = ⊥

-- these take the arrivals that are next at the ports below this one, each once
pub record ArrivalsBelow (left : Left) (many : ℕ) (moves : List PortMove) : Type 0 where
  pub apart : AreApart moves
  pub each : (m : PortMove) → IsIn m moves → (port : ℕ) × (m ≡ TakeAt port) × (port < many)
      × IsTakeIn left (TakeAt port)
  pub all : (port : ℕ) → port < many → IsTakeIn left (TakeAt port) → IsIn (TakeAt port) moves

-- these are all such moves, each once
pub record AreTakes (left : Left) (moves : List PortMove) : Type 0 where
  pub apart : AreApart moves
  pub each : (m : PortMove) → IsIn m moves → IsTakeIn left m
  pub all : (m : PortMove) → IsTakeIn left m → IsIn m moves

-- ON THE WAY

-- the setup is of these, its start is ready and the lists within their limits
pub record Suits (c : Setup) (spec : Spec) (limit silent : ℕ) (lists : PortLists) : Type 0 where
  pub spec_is : c.spec ≡ spec
  pub limit_is : c.limit ≡ limit
  pub silent_is : c.silent ≡ silent
  pub begun : IsBegun c
  pub allowed : AreAllowedLists c.spec lists

-- the walk is on its way
pub record IsOnWay (c : Setup) (lists : PortLists) (stack : Stack) (v : View PortMove PortMove)
    (rest : Rest) (tried fired : ℕ) (best : Best PortMove) (best_used : Best Used)
    (passed : Option Passed) : Type 0 where
  pub at : IsAt c lists stack v rest
  pub knows : Knows c lists (IsAhead v) (AreGuardsAhead v) tried fired best.yields passed
  pub is_best : IsBest c lists v.moves (used_of rest) best best_used

abbrev pub IsWalk : Setup → PortLists → Stack → Walk → Type 0
IsWalk c lists stack w = IsOnWay c lists stack (view_of w.path) w.rest w.tried w.fired w.best
    w.best_used w.passed

-- what each step needs
pub record IsReady (c : Setup) (spec : Spec) (limit silent : ℕ) (lists : PortLists) (stack : Stack)
    (w : Walk) : Type 0 where
  pub suits : Suits c spec limit silent lists
  pub on_way : IsWalk c lists stack w

-- the move is about to be tried: it was taken from those that are left, and is counted
pub record IsTrying (c : Setup) (spec : Spec) (limit silent : ℕ) (lists : PortLists)
    (stack : Stack) (w : Walk) (m : PortMove) : Type 0 where
  pub suits : Suits c spec limit silent lists
  pub before : View PortMove PortMove
  pub tried : ℕ
  pub next : IsNext before m (view_of w.path)
  pub counted : w.tried ≡ tried + 1
  pub on_way : IsOnWay c lists stack before w.rest tried w.fired w.best w.best_used w.passed

-- the firing was tried, and its block is done
pub record IsFired (c : Setup) (spec : Spec) (limit silent : ℕ) (lists : PortLists)
    (stack : Stack) (w : Walk) (f : Firing) : Type 0 where
  pub suits : Suits c spec limit silent lists
  pub before : View PortMove PortMove
  pub tried : ℕ
  pub fired : ℕ
  pub earlier : Stack
  pub situation : Situation
  pub next : IsNext before (Fire f) (view_of w.path)
  pub counted : w.tried ≡ tried + 1
  pub fired_is : w.fired ≡ fired + 1
  pub on_way : IsOnWay c lists earlier before w.rest tried fired w.best w.best_used w.passed
  pub done : outcome c.limit (text_of c.spec) earlier.now f ≡ Done w.outs.items situation
  pub stack_is : stack ≡ pushed situation earlier

-- BEST

-- the best run, after one that yields so many events, which are all that are used up
pub record HasRaised (old new : Walk) (last : PortMove) (k : ℕ) : Type 0 where
  pub best : HasReached old.best new.best (length old.path.moves.items) last k
  pub less : k ≤ old.best.yields → new.best_used ≡ old.best_used
  pub more : old.best.yields < k → (new.best_used.common ≡ length old.rest.used.items)
      × (new.best_used.tail.items ≡ [])
  pub others : new ≡ record old { best = new.best; best_used = new.best_used }

-- LISTING

-- the moves that take the arrivals at the ports below this one are added
pub record AddsArrivals (lists : PortLists) (rest : Rest) (many : ℕ) (old new : List PortMove)
    : Type 0 where
  pub moves : List PortMove
  pub added : new ≡ old ++ moves
  pub below : (left : Left) (events : List Event) → Stands lists rest left events
      → ArrivalsBelow left many moves

-- the moves that take what comes next from outside are added
pub record AddsTakes (lists : PortLists) (rest : Rest) (old new : List PortMove) : Type 0 where
  pub moves : List PortMove
  pub added : new ≡ old ++ moves
  pub takes : (left : Left) (events : List Event) → Stands lists rest left events
      → AreTakes left moves

-- the firings that are offered are listed, and after them what comes next from outside
pub record HasListed (lists : PortLists) (old new : Walk) : Type 0 where
  pub moves : List PortMove
  pub takes : (left : Left) (events : List Event) → Stands lists old.rest left events
      → AreTakes left moves
  pub path : view_of new.path
      ≡ with_tries (view_of old.path) stage.Listed (map Fire old.offers.items ++ moves)
  pub others : new ≡ record old { path = new.path; tries = new.tries }

-- STEPS

-- the firing is done, and so many of its events are used up, those that were the next ones of their
-- ports; not all of them were
pub record IsDeparting (c : Setup) (spec : Spec) (limit silent : ℕ) (lists : PortLists)
    (stack : Stack) (w : Walk) (f : Firing) (matched : ℕ) : Type 0 where
  pub old : Walk
  pub many : ℕ
  pub fired : IsFired c spec limit silent lists stack old f
  pub few : silent_after old.path.top.silent old.outs.items ≤ silent
  pub matched_is : matched ≡ old.path.top.matched + many
  pub short : many < length old.outs.items
  pub used : UsesMore (used_of old.rest) (used_of w.rest) many
  pub uses : (left : Left) (events : List Event) → Stands lists old.rest left events
      → HasUsed lists w.rest left events old.outs.items many
  pub others : w ≡ record old { rest = w.rest }

-- whether nothing is left is what the step says
abbrev pub IsEnd : Step → Left → Type 0
IsEnd Going left = IsAllUsed left → ⊥
IsEnd Accepting left = IsAllUsed left
IsEnd Over left = ⊥
IsEnd step.Done left = ⊥

-- the path goes on by a move, with so many events, all of them used up
pub record HasGoneOn (lists : PortLists) (old new : Walk) (made : PortMove) (matched silent : ℕ)
    (step : Step) : Type 0 where
  pub mid : Walk
  pub raised : HasRaised old mid made matched
  pub path : view_of new.path ≡ entered (view_of old.path) made matched silent
  pub others : new ≡ record mid { path = new.path }
  pub all_used : (left : Left) (events : List Event) → Stands lists old.rest left events
      → IsEnd step left

-- the run uses the lists up, with these
pub record Accepts (c : Setup) (lists : PortLists) (used : List Used) (run : List PortMove)
    : Type 0 where
  pub place : PortPlace
  pub is_run : IsPortRun c lists run place
  pub all_used : IsAllUsed place.left
  pub uses : HasUsedUp lists used place.left place.events

-- nothing is ahead
pub record IsDone (c : Setup) (lists : PortLists) (w : Walk) : Type 0 where
  pub knows : Knows c lists (λ x. ⊥) (λ x. ⊥) w.tried w.fired w.best.yields w.passed
  pub is_best : IsBest c lists [] (used_of w.rest) w.best w.best_used

-- what comes of a step
abbrev pub StepIs : Setup → PortLists → Stack → Step → Walk → Type 0
StepIs c lists stack Going w = IsWalk c lists stack w
StepIs c lists stack Accepting w =
    Accepts c lists (used_of w.rest) (reverse w.path.moves.items)
    × HasMany (IsFiringTrial c lists) w.fired
StepIs c lists stack Over w =
    HasMany (IsPortTrial c lists) (w.tried + 1) × HasMany (IsFiringTrial c lists) w.fired
StepIs c lists stack step.Done w = IsDone c lists w

-- WORK

-- how many steps are left after a run, those after its moves aside
abbrev pub weight_of : Stage → ℕ
weight_of stage.Fresh = 2
weight_of stage.Taken = 1
weight_of stage.Listed = 1

-- how many steps are left where no more moves are tried, at most
abbrev pub load : View PortMove PortMove → ℕ
load v = weight_of v.stage + length v.lower

-- how many steps are left, at most
abbrev pub work : ℕ → Walk → ℕ
work budget w = (budget - w.tried) * 3 + load (view_of w.path)

-- THE ANSWER

-- the merge begins with what is used up by these
abbrev pub BeginsWith : PortLists → List Used → Recorded → Type 0
BeginsWith lists used merge = (left : Left) (events : List Event)
    → length lists.phases ≡ length lists.times + 1 → HasUsedUp lists used left events
    → MergesFrom lists events merge

-- where nothing is left to be tried
abbrev pub Concludes : PortLists → Walk → PortsVerdict → Type 0
Concludes lists w (Accepted merge run) = ⊥
Concludes lists w (Refused most merge run) = (w.passed ≡ None) × (most ≡ w.best.yields)
    × (reverse run ≡ map plain_move w.best.tail.items)
    × BeginsWith lists (kept w.best_used (used_of w.rest)) merge
Concludes lists w (OverTries tried) = ⊥
Concludes lists w (OverAction merge run events firing) = (p : Passed) × (w.passed ≡ Some p)
    × (run ≡ map plain_move p.run) × (events ≡ p.events) × (firing ≡ p.firing)
    × BeginsWith lists (reverse p.used) merge

-- a run that uses the lists up
abbrev pub IsAnswered : PortLists → Walk → PortsVerdict → Type 0
IsAnswered lists w (Accepted merge run) =
    (run ≡ map plain_move w.path.moves.items) × BeginsWith lists (used_of w.rest) merge
IsAnswered lists w (Refused most merge run) = ⊥
IsAnswered lists w (OverTries tried) = ⊥
IsAnswered lists w (OverAction merge run events firing) = ⊥

-- where the walk ends so
abbrev pub Answers : PortLists → Walk → ℕ → Step → PortsVerdict → Type 0
Answers lists w budget Going verdict = ⊥
Answers lists w budget Accepting verdict = IsAnswered lists w verdict
Answers lists w budget Over verdict = verdict ≡ OverTries budget
Answers lists w budget step.Done verdict = Concludes lists w verdict

-- THE START

-- no move was made yet, and none can be undone
pub record IsStarting (c : Setup) (spec : Spec) (limit silent : ℕ) (lists : PortLists)
    (stack : Stack) (outs : List Event) : Type 0 where
  pub suits : Suits c spec limit silent lists
  pub start_is : c.start ≡ stack.now
  pub outs_are : c.start_outs ≡ outs
  pub bottom : stack.below ≡ []

-- where a walk begins: the start has so many events, each the next one of its port, and does not
-- use the lists up
pub record IsBeginning (c : Setup) (spec : Spec) (limit silent : ℕ) (lists : PortLists)
    (stack : Stack) (rest : Rest) (matched : ℕ) : Type 0 where
  pub suits : Suits c spec limit silent lists
  pub start_is : c.start ≡ stack.now
  pub bottom : stack.below ≡ []
  pub many : length c.start_outs ≡ matched
  pub height : length (used_of rest) ≡ matched
  pub left : Left
  pub next : AreNext (all_left lists.phases lists.times) c.start_outs left
  pub stands : Stands lists rest left c.start_outs
  pub unfinished : IsAllUsed left → ⊥
