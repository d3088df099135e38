-- Trials: firings that are tried after runs, what comes of them, and how many there are.
use Rattle.std.specs.Prelude.{◌≡◌, ℕ, ◌≤◌, List, [], ◌∷◌, Option, Some, None, length}
use Rattle.est_syntax.specs.Least.{IsIn}
use Rattle.mean_blocks.specs.declared.fault.BlockFault.{BlockFault}
use Rattle.mean_blocks.specs.Outcome.{Outcome, Fault, Limit}
use Rattle.mean_blocks.specs.GlobalSituation.{Situation}
use Rattle.mean_blocks.specs.TextByPlace.{text_of}
use Rattle.est_meaning.specs.declared.firing.Firing.{Firing}
use Rattle.est_meaning.specs.declared.event.Event.{Event}
use Rattle.est_meaning.specs.TransitionSelection.{IsSettled, IsPossible}
use Rattle.est_meaning.specs.FiringSteps.{outcome}
use Rattle.est_meaning.specs.declared.run.Move.{Move}
use Rattle.est_meaning.specs.declared.run.Move.TheVariants.{Take, Fire}
use Rattle.est_meaning.specs.Order.{Mark, Guarding, Trying, marks_of, NotAfter, IsEarliest}
use Rattle.est_meaning.specs.Run.{Setup, Place, IsBoundedRun, Follows, IsWhole}

-- a bounded run that follows the trace and does not explain it
pub record IsInner (c : Setup) (run : List Move) (p : Place) : Type 0 where
  pub is_run : IsBoundedRun c run p
  pub follows : Follows c p
  pub unfinished : IsWhole c p → ⊥

-- a trial: a possible firing after an inner run, whatever comes of its block
abbrev pub IsTrial : Setup → List Move → Type 0
IsTrial c [] = ⊥
IsTrial c (Take ∷ earlier) = ⊥
IsTrial c (Fire f ∷ earlier) =
    (p : Place) × IsInner c earlier p × IsPossible c.limit (text_of c.spec) p.situation f

-- a trial that comes before a run or is one of its own firings
abbrev pub IsTrialUpTo : Setup → List Move → List Move → Type 0
IsTrialUpTo c run x = IsTrial c x × NotAfter x run

-- PASSED LIMITS AND FAULTS

-- a trial whose block has this outcome
pub record ComesTo (c : Setup) (earlier : List Move) (f : Firing)
    (o : Outcome Situation (List Event)) : Type 0 where
  pub place : Place
  pub inner : IsInner c earlier place
  pub possible : IsPossible c.limit (text_of c.spec) place.situation f
  pub outcome_is : outcome c.limit (text_of c.spec) place.situation f ≡ o

-- an inner run after which some guard passes its limit
pub record IsUnsettled (c : Setup) (run : List Move) : Type 0 where
  pub place : Place
  pub inner : IsInner c run place
  pub unsettled : IsSettled c.limit (text_of c.spec) place.situation → ⊥

-- in the order of marks: where a limit is passed, by the guards after a run or by a trial's block
pub data PassesLimit (c : Setup) (x : List Mark) : Type 0 where
  guards : (run : List Move) → x ≡ Guarding ∷ marks_of run → IsUnsettled c run → PassesLimit c x
  block : (earlier : List Move) (f : Firing) → x ≡ Trying f ∷ marks_of earlier
      → ComesTo c earlier f Limit → PassesLimit c x

-- in the order of marks: where a trial's block faults
pub record Faults (c : Setup) (x : List Mark) : Type 0 where
  pub earlier : List Move
  pub firing : Firing
  pub fault : BlockFault
  pub at : x ≡ Trying firing ∷ marks_of earlier
  pub comes : ComesTo c earlier firing (Fault fault)

-- what passes its limit after a run: a firing that is tried, or else the guards
abbrev pub mark_passed : Option Firing → Mark
mark_passed None = Guarding
mark_passed (Some f) = Trying f

-- after the run this firing, or a guard, is the first to pass its limit
abbrev pub IsFirstPass : Setup → List Move → Option Firing → Type 0
IsFirstPass c run firing = IsEarliest (PassesLimit c) (mark_passed firing ∷ marks_of run)

-- after the run the block of this firing is the first to fault, and it has this fault
pub record IsFirstFault (c : Setup) (run : List Move) (f : Firing) (fault : BlockFault)
    : Type 0 where
  pub comes : ComesTo c run f (Fault fault)
  pub earliest : IsEarliest (Faults c) (Trying f ∷ marks_of run)

-- HOW MANY

-- no run stands twice in the list
abbrev pub AreDistinct : List (List Move) → Type 0
AreDistinct [] = Unit {0}
AreDistinct (x ∷ xs) = (IsIn x xs → ⊥) × AreDistinct xs

-- so many runs, and maybe more, have this
pub record HasMany (P : List Move → Type 0) (many : ℕ) : Type 0 where
  pub runs : List (List Move)
  pub count : length runs ≡ many
  pub distinct : AreDistinct runs
  pub each : (x : List Move) → IsIn x runs → P x

-- so many runs have this, and no more
pub record HasExactly (P : List Move → Type 0) (many : ℕ) : Type 0 where
  pub found : HasMany P many
  pub all : (x : List Move) → P x → IsIn x found.runs

-- at most so many runs have this
abbrev pub HasAtMost : (List Move → Type 0) → ℕ → Type 0
HasAtMost P most = (many : ℕ) × (many ≤ most) × HasExactly P many
