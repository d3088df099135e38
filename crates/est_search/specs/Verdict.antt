-- The verdict on a specification, a trace and limits.
use Rattle.std.specs.Prelude.{◌≡◌, ℕ, ◌+◌, ◌<◌, List, Option, Some, None, length, reverse}
use Rattle.est_meaning.specs.declared.firing.Firing.{Firing}
use Rattle.est_meaning.specs.declared.run.Move.{Move}
use Rattle.est_meaning.specs.Order.{Mark, IsFirst}
use Rattle.est_meaning.specs.Run.{Setup, Place, IsBoundedRun, Explains, Yields}
use Rattle.est_meaning.specs.Trials.{IsTrial, IsTrialUpTo, HasMany, HasAtMost}
use Rattle.est_meaning.specs.Trials.{PassesLimit, Faults, IsFirstPass, IsFirstFault}
use Rattle.est_search.specs.declared.verdict.Faulted.{Faulted}
use Rattle.est_search.specs.declared.verdict.Verdict.{Verdict}
use Rattle.est_search.specs.declared.verdict.Verdict.TheVariants.{Accepted, Refused}
use Rattle.est_search.specs.declared.verdict.Verdict.TheVariants.{OverFirings, OverAction}

-- the run is the first that explains the trace, and the trials up to it are within the budget
pub record IsAccepted (c : Setup) (budget : ℕ) (run : List Move) : Type 0 where
  pub first : IsFirst (Explains c) run
  pub tried : HasAtMost (IsTrialUpTo c run) budget

-- The trials are more than the budget, and so are those up to each run that explains the trace: as
-- they grow along the order of runs, this says no more than that of the first such run.
pub record IsOverFirings (c : Setup) (budget : ℕ) : Type 0 where
  pub size : HasMany (IsTrial c) (budget + 1)
  pub late : (run : List Move) → Explains c run → HasMany (IsTrialUpTo c run) (budget + 1)

-- all trials are within the budget, and no run explains the trace
pub record IsUnexplained (c : Setup) (budget : ℕ) : Type 0 where
  pub size : HasAtMost (IsTrial c) budget
  pub none : (run : List Move) → Explains c run → ⊥

-- a bounded run has so many events
pub record HasEvents (c : Setup) (run : List Move) (events : ℕ) : Type 0 where
  pub place : Place
  pub is_run : IsBoundedRun c run place
  pub count : length place.events ≡ events

-- something passes its limit, first after the run, which has so many events
pub record IsOverAction (c : Setup) (budget : ℕ) (run : List Move) (events : ℕ)
    (firing : Option Firing) : Type 0 where
  pub unexplained : IsUnexplained c budget
  pub first : IsFirstPass c run firing
  pub reached : HasEvents c run events

-- the least number that no run yields
pub record IsLeastUnyielded (c : Setup) (at : ℕ) : Type 0 where
  pub unyielded : (run : List Move) → Yields c run at → ⊥
  pub below : (k : ℕ) → k < at → (run : List Move) × Yields c run k

-- the first block that faults, where one does
abbrev pub IsFirstFaulted : Setup → Option Faulted → Type 0
IsFirstFaulted c None = (x : List Mark) → Faults c x → ⊥
IsFirstFaulted c (Some f) = IsFirstFault c (reverse f.run) f.firing f.fault

-- nothing passes its limit; the run is the first that yields all but one of the events up to the
-- one refused
pub record IsRefused (c : Setup) (budget at : ℕ) (run : List Move)
    (faulted : Option Faulted) : Type 0 where
  pub unexplained : IsUnexplained c budget
  pub within : (x : List Mark) → PassesLimit c x → ⊥
  pub least : IsLeastUnyielded c at
  pub first : (k : ℕ) → k + 1 ≡ at → IsFirst (λ r. Yields c r k) run
  pub faulted_is : IsFirstFaulted c faulted

-- the verdict (`one_verdict`: there is no other)
abbrev pub IsVerdict : Setup → ℕ → Verdict → Type 0
IsVerdict c budget (Accepted run) = IsAccepted c budget (reverse run)
IsVerdict c budget (Refused at run faulted) = IsRefused c budget at (reverse run) faulted
IsVerdict c budget (OverFirings tried) = (tried ≡ budget) × IsOverFirings c budget
IsVerdict c budget (OverAction run events firing) =
    IsOverAction c budget (reverse run) events firing

-- where the trace is explained, so many trials stand up to the run
abbrev pub IsWithinTried : Setup → Verdict → ℕ → Type 0
IsWithinTried c (Accepted run) many = HasMany (IsTrialUpTo c (reverse run)) many
IsWithinTried c (Refused at run faulted) many = Unit {0}
IsWithinTried c (OverFirings tried) many = Unit {0}
IsWithinTried c (OverAction run events firing) many = Unit {0}

-- a setup has one verdict at most within a budget
abbrev pub VerdictIsUnique : Type 0
VerdictIsUnique = (c : Setup) (budget : ℕ) (v w : Verdict) → IsVerdict c budget v
    → IsVerdict c budget w → v ≡ w
