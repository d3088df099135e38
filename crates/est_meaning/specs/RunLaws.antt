-- What holds of runs and their order.
use Rattle.std.specs.Prelude.{◌≡◌, ◌≤◌, ◌+◌, ◌^◌, ◌↔◌, ◌⊎◌, ℕ, List, [], ◌∷◌, ◌++◌, length}
use Rattle.std.specs.Prelude.{map, take}
use Rattle.mean_blocks.specs.GlobalSituation.{Situation}
use Rattle.mean_blocks.specs.KeepingLaws.{AreNumbered, AreMutual}
use Rattle.mean_blocks.specs.TextByPlace.{text_of}
use Rattle.est_meaning.specs.declared.event.Event.{Event}
use Rattle.est_meaning.specs.declared.firing.Firing.{Firing}
use Rattle.est_meaning.specs.declared.trace.Expected.{Expected}
use Rattle.est_meaning.specs.declared.trace.Expected.TheVariants.{Known}
use Rattle.est_meaning.specs.Agreement.{AgreeAll, AgreeFirst}
use Rattle.est_meaning.specs.FiringSteps.{IsStep}
use Rattle.est_meaning.specs.AllowedEvents.{IsAllowedTrace}
use Rattle.est_meaning.specs.OutsideEvents.{units_of}
use Rattle.est_meaning.specs.declared.run.Move.{Move}
use Rattle.est_meaning.specs.declared.run.Move.TheVariants.{Take, Fire}
use Rattle.est_meaning.specs.Order.{RunBefore}
use Rattle.est_meaning.specs.Run.{Setup, Place, IsBegun, IsRun, IsBoundedRun, Takes, Yields}

-- a run leads to one situation and one list of events
abbrev pub RunsAreUnique : Type 0
RunsAreUnique = (c : Setup) (run : List Move) (p q : Place) → IsRun c run p → IsRun c run q → p ≡ q

-- what a bounded run begins with is a bounded run
abbrev pub BoundedRunsBeginBounded : Type 0
BoundedRunsBeginBounded = (c : Setup) (later earlier : List Move) (p : Place)
    → IsBoundedRun c (later ++ earlier) p → (q : Place) × IsBoundedRun c earlier q

-- after a run a firing is a step without an outside event
pub record IsSilentFiring (c : Setup) (earlier : List Move) (f : Firing) : Type 0 where
  pub place : Place
  pub is_run : IsRun c earlier place
  pub next : Situation
  pub step : IsStep c.limit (text_of c.spec) place.situation f next []

-- after a run a move is a silent firing: to take an event is none
abbrev pub IsSilent : Setup → List Move → Move → Type 0
IsSilent c earlier Take = ⊥
IsSilent c earlier (Fire f) = IsSilentFiring c earlier f

-- after a run all these moves, one after the other, are silent firings
abbrev pub AreSilent : Setup → List Move → List Move → Type 0
AreSilent c earlier [] = Unit {0}
AreSilent c earlier (m ∷ moves) = IsSilent c (moves ++ earlier) m × AreSilent c earlier moves

-- nowhere in a run are more moves in a row silent firings than the setup allows
abbrev pub HasFewInARow : Setup → List Move → Type 0
HasFewInARow c run = (later moves earlier : List Move) → run ≡ later ++ (moves ++ earlier)
    → length moves ≡ c.silent + 1 → AreSilent c earlier moves → ⊥

-- the bounded runs are the runs with few silent firings in a row
abbrev pub BoundedMeansFewInARow : Type 0
BoundedMeansFewInARow = (c : Setup) (run : List Move) (p : Place)
    → IsBoundedRun c run p ↔ (IsRun c run p × HasFewInARow c run)

-- events that are known agree with themselves and with no others; those that agree with the first
-- of a list agree with as many of its front; and what is added leaves the agreement of what was
-- there
pub record AgreementIsOneByOne : Type 0 where
  pub known : (es fs : List Event) → AgreeAll (map Known es) fs ↔ (fs ≡ es)
  pub first : (expected : List Expected) (es : List Event)
      → AgreeFirst expected es
      ↔ ((length es ≤ length expected) × AgreeAll (take (length es) expected) es)
  pub joined : (front back : List Expected) (es fs : List Event) → length front ≡ length es
      → AgreeAll (front ++ back) (es ++ fs) ↔ (AgreeAll front es × AgreeAll back fs)

-- what a run yields has no gaps below it, and a run without moves yields at least 0
pub record YieldsAllBelow : Type 0 where
  pub smaller : (c : Setup) (run : List Move) (k j : ℕ) → j ≤ k → Yields c run k → Yields c run j
  pub start : (c : Setup) → Yields c [] 0

-- the order of runs is a strict total order
pub record RunOrderIsStrictTotal : Type 0 where
  pub irreflexive : (x : List Move) → RunBefore x x → ⊥
  pub transitive : (x y z : List Move) → RunBefore x y → RunBefore y z → RunBefore x z
  pub total : (x y : List Move) → (x ≡ y) ⊎ (RunBefore x y ⊎ RunBefore y x)

-- where a trace is within its limits, no run along it brings the clock past 10^15
abbrev pub ClockStaysBounded : Type 0
ClockStaysBounded = (c : Setup) (run : List Move) (p : Place) → IsBegun c
    → IsAllowedTrace c.spec c.trace → IsRun c run p
    → (p.situation.clock ≤ 10 ^ 15)
    × ((q : Place) (taken : Takes c p q) → p.situation.clock + units_of taken.event ≤ 10 ^ 15)

-- the instances of a situation stand in ascending number, and its connections lead both ways
pub record IsInOrder (s : Situation) : Type 0 where
  pub numbers : AreNumbered s
  pub connections : AreMutual s.peer

-- so it is in each situation of a run
abbrev pub RowsAreInOrder : Type 0
RowsAreInOrder = (c : Setup) (run : List Move) (p : Place) → IsBegun c → IsRun c run p
    → IsInOrder p.situation
