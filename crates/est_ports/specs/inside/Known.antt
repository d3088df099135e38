-- What a walk knows, where the runs and the guards of a set are still ahead.
use Rattle.std.specs.Prelude.{◌≡◌, ℕ, ◌<◌, ◌⊎◌, List, ◌∷◌, Option, Some, None, length, reverse}
use Rattle.est_syntax.specs.Least.{IsIn}
use Rattle.est_meaning.specs.Run.{Setup}
use Rattle.est_meaning.specs.declared.firing.Firing.{Firing}
use Rattle.mean_ports.specs.declared.lists.PortLists.{PortLists}
use Rattle.mean_ports.specs.declared.moves.PortMove.{PortMove}
use Rattle.mean_ports.specs.declared.moves.PortMove.TheVariants.{Fire}
use Rattle.mean_ports.specs.HowMany.{AreDistinct}
use Rattle.mean_ports.specs.PortRuns.{PortPlace, IsPortRun, IsAllUsed}
use Rattle.mean_ports.specs.PortTrials.{IsPortTrial, IsFiringTrial, PassesIn, PassesOnTree}
use Rattle.mean_ports.specs.PortYields.{PortYields}
use Rattle.est_ports.specs.inside.Leftover.{HasUsedUp}
use Rattle.est_ports.specs.declared.walk.Passed.{Passed}

-- TRIALS

-- so many firings were tried, all of them among these trials
pub record KnowsFirings (c : Setup) (lists : PortLists) (trials : List (List PortMove)) (fired : ℕ)
    : Type 0 where
  pub firings : List (List PortMove)
  pub count : length firings ≡ fired
  pub distinct : AreDistinct firings
  pub each : (x : List PortMove) → IsIn x firings → IsFiringTrial c lists x
  pub tried : (x : List PortMove) → IsIn x firings → IsIn x trials

-- so many trials were tried, which are not ahead, and all others are
pub record KnowsTrials (c : Setup) (lists : PortLists) (P : List PortMove → Type 0)
    (tried fired : ℕ) : Type 0 where
  pub trials : List (List PortMove)
  pub count : length trials ≡ tried
  pub distinct : AreDistinct trials
  pub each : (x : List PortMove) → IsIn x trials → IsPortTrial c lists x
  pub all : (x : List PortMove) → IsPortTrial c lists x → IsIn x trials ⊎ P x
  pub apart : (x : List PortMove) → IsIn x trials → P x → ⊥
  pub firings : KnowsFirings c lists trials fired

-- RUNS

-- the run uses the lists up
pub record IsUsing (c : Setup) (lists : PortLists) (run : List PortMove) : Type 0 where
  pub place : PortPlace
  pub is_run : IsPortRun c lists run place
  pub all_used : IsAllUsed place.left

-- each run that uses the lists up is ahead
abbrev pub KnowsUsing : Setup → PortLists → (List PortMove → Type 0) → Type 0
KnowsUsing c lists P = (run : List PortMove) → IsUsing c lists run → P run

-- each run that yields more events is ahead
abbrev pub KnowsMore : Setup → PortLists → (List PortMove → Type 0) → ℕ → Type 0
KnowsMore c lists P most =
    (run : List PortMove) (k : ℕ) → PortYields c lists run k → most < k → P run

-- PASSED LIMITS

-- what passes its limit after a run, a firing or the guards, is still ahead
abbrev pub IsPassAhead : (P G : List PortMove → Type 0) → List PortMove → Option Firing → Type 0
IsPassAhead P G run None = G run
IsPassAhead P G run (Some f) = P (Fire f ∷ run)

-- after this run, with these events, this passes its limit
pub record IsPassNoted (c : Setup) (lists : PortLists) (p : Passed) : Type 0 where
  pub place : PortPlace
  pub is_run : IsPortRun c lists (reverse p.run) place
  pub uses : HasUsedUp lists (reverse p.used) place.left place.events
  pub count : length place.events ≡ p.events
  pub passes : PassesIn c place.situation p.firing

-- something was noted, or all that passes its limit is ahead
abbrev pub IsNoted : Setup → PortLists → (P G : List PortMove → Type 0) → Option Passed → Type 0
IsNoted c lists P G None = (u : PassesOnTree c lists) → IsPassAhead P G u.run u.firing
IsNoted c lists P G (Some p) = IsPassNoted c lists p

-- all of this
pub record Knows (c : Setup) (lists : PortLists) (P G : List PortMove → Type 0)
    (tried fired most : ℕ) (passed : Option Passed) : Type 0 where
  pub trials : KnowsTrials c lists P tried fired
  pub using : KnowsUsing c lists P
  pub more : KnowsMore c lists P most
  pub passes : IsNoted c lists P G passed
