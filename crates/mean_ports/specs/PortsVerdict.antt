-- The verdict on a specification, one trace for each port, and limits.
use Rattle.std.specs.Prelude.{◌≡◌, ℕ, ◌+◌, ◌≤◌, List, Option, length, reverse}
use Rattle.est_meaning.specs.declared.firing.Firing.{Firing}
use Rattle.est_meaning.specs.declared.run.Move.{Move}
use Rattle.est_meaning.specs.RecordedTraces.{Recorded}
use Rattle.est_meaning.specs.Run.{Setup, Place, IsBoundedRun, Follows, Explains, Yields}
use Rattle.mean_ports.specs.declared.lists.PortLists.{PortLists}
use Rattle.mean_ports.specs.declared.verdict.PortsVerdict.{PortsVerdict}
use Rattle.mean_ports.specs.declared.verdict.PortsVerdict.TheVariants.{Accepted, Refused}
use Rattle.mean_ports.specs.declared.verdict.PortsVerdict.TheVariants.{OverTries, OverAction}
use Rattle.mean_ports.specs.HowMany.{HasMany, HasAtMost}
use Rattle.mean_ports.specs.Merges.{IsMerge}
use Rattle.mean_ports.specs.PortRuns.{along}
use Rattle.mean_ports.specs.PortTrials.{IsPortTrial, PassesIn, PassesOnTree}

-- no bounded run explains any merge
abbrev pub NoneExplains : Setup → PortLists → Type 0
NoneExplains c lists = (merge : Recorded) (run : List Move) → IsMerge lists merge
    → Explains (along c merge) run → ⊥

-- a bounded run yields so many events of some merge, and none yields more of any
pub record IsMostYielded (c : Setup) (lists : PortLists) (most : ℕ) (merge : Recorded)
    (run : List Move) : Type 0 where
  pub is_merge : IsMerge lists merge
  pub yields : Yields (along c merge) run most
  pub no_more : (other : Recorded) (r : List Move) (k : ℕ) → IsMerge lists other
      → Yields (along c other) r k → k ≤ most

-- a merge, and a bounded run that explains it
pub record IsAcceptedMerge (c : Setup) (lists : PortLists) (merge : Recorded)
    (run : List Move) : Type 0 where
  pub is_merge : IsMerge lists merge
  pub explains : Explains (along c merge) run

-- All trials are within the budget, no bounded run explains any merge, and nothing passes its limit.
-- So many events are the most that are yielded, here by this run of this merge.
pub record IsRefusedEverywhere (c : Setup) (lists : PortLists) (budget most : ℕ)
    (merge : Recorded) (run : List Move) : Type 0 where
  pub size : HasAtMost (IsPortTrial c lists) budget
  pub none : NoneExplains c lists
  pub within : PassesOnTree c lists → ⊥
  pub greatest : IsMostYielded c lists most merge run

-- All trials are within the budget, and no bounded run explains any merge. This bounded run follows
-- this merge and has so many events; after it something passes its limit.
pub record IsOverSomewhere (c : Setup) (lists : PortLists) (budget : ℕ) (merge : Recorded)
    (run : List Move) (events : ℕ) (firing : Option Firing) : Type 0 where
  pub size : HasAtMost (IsPortTrial c lists) budget
  pub none : NoneExplains c lists
  pub is_merge : IsMerge lists merge
  pub place : Place
  pub is_run : IsBoundedRun (along c merge) run place
  pub follows : Follows (along c merge) place
  pub count : length place.events ≡ events
  pub passes : PassesIn c place.situation firing

-- Which answers are right. Where a run explains a merge and the trials are within the budget, none
-- but `Accepted` is.
abbrev pub IsPortsVerdict : Setup → PortLists → ℕ → PortsVerdict → Type 0
IsPortsVerdict c lists budget (Accepted merge run) =
    IsAcceptedMerge c lists merge (reverse run)
IsPortsVerdict c lists budget (Refused most merge run) =
    IsRefusedEverywhere c lists budget most merge (reverse run)
IsPortsVerdict c lists budget (OverTries tried) =
    (tried ≡ budget) × HasMany (IsPortTrial c lists) (budget + 1)
IsPortsVerdict c lists budget (OverAction merge run events firing) =
    IsOverSomewhere c lists budget merge (reverse run) events firing
