-- Where a walk stands, and the best run.
use Rattle.std.specs.Prelude.{◌≡◌, ℕ, ◌≤◌, List, [], ◌∷◌, ◌++◌, length, take, drop}
use Rattle.est_syntax.specs.Least.{IsIn}
use Rattle.est_meaning.specs.mean_blocks.GlobalSituation.{Situation}
use Rattle.est_meaning.specs.mean_blocks.TextByPlace.{text_of}
use Rattle.est_meaning.specs.FiringSteps.{IsStep}
use Rattle.est_meaning.specs.Order.{StartsWith}
use Rattle.est_meaning.specs.Run.{Setup, silent_after}
use Rattle.est_meaning.specs.SituationStacks.{Stack}
use Rattle.est_meaning.specs.declared.event.Event.{Event}
use Rattle.est_meaning.specs.declared.firing.Firing.{Firing}
use Rattle.mean_ports.specs.declared.lists.PortLists.{PortLists}
use Rattle.mean_ports.specs.declared.moves.PortMove.{PortMove}
use Rattle.mean_ports.specs.declared.moves.PortMove.TheVariants.{Fire}
use Rattle.mean_ports.specs.PortRuns.{Left, PortPlace, IsPortRun, IsAllUsed, AreNext, all_left}
use Rattle.mean_ports.specs.PortTrials.{IsDefinedMove}
use Rattle.run_paths.specs.declared.path.Level.{Level}
use Rattle.run_paths.specs.declared.path.Stage.{Stage}
use Rattle.run_paths.specs.declared.path.Stage.TheVariants.{Fresh, Taken, Listed}
use Rattle.run_paths.specs.declared.path.Best.{Best}
use Rattle.run_paths.specs.Paths.{View, IsKept}
use Rattle.est_ports.specs.declared.left.Used.{Used}
use Rattle.est_ports.specs.declared.left.Rest.{Rest}
use Rattle.est_ports.specs.inside.Leftover.{HasUsedUp, Stands, used_of, kept}

-- ON THE PATH

-- where a run stands that has these events and leaves this
abbrev pub place_at : Situation → Level → List Event → Left → PortPlace
place_at s l events left = record
    { situation = s; events = events; left = left; silent_in_row = l.silent }

-- the run uses this up, so many events, and does not use up all
pub record IsNode (c : Setup) (lists : PortLists) (used : List Used) (h : List PortMove)
    (s : Situation) (l : Level) : Type 0 where
  pub events : List Event
  pub left : Left
  pub is_run : IsPortRun c lists h (place_at s l events left)
  pub uses : HasUsedUp lists used left events
  pub height : length used ≡ l.matched
  pub count : length events ≡ l.matched
  pub unfinished : IsAllUsed left → ⊥

-- where it stands
abbrev pub node_place : {c : Setup} {lists : PortLists} {used : List Used} {h : List PortMove}
    {s : Situation} {l : Level} → IsNode c lists used h s l → PortPlace
node_place {s = s} {l = l} n = place_at s l n.events n.left

-- no move stands twice in the list
abbrev pub AreApart : List PortMove → Type 0
AreApart [] = Unit {0}
AreApart (m ∷ moves) = (IsIn m moves → ⊥) × AreApart moves

-- these moves are open at a place: each is defined there, is listed, and stands once
pub record AreOpen (c : Setup) (p : PortPlace) (stage : Stage) (moves : List PortMove) : Type 0
  where
    pub apart : AreApart moves
    pub defined : (m : PortMove) → IsIn m moves → IsDefinedMove c p m
    pub staged : (m : PortMove) → IsIn m moves → stage ≡ Listed

-- the levels below the top, with the moves that were made from them, the situations and all
-- that is left to be tried there; the first of what was used up above is used up there
abbrev pub AreLower : Setup → PortLists → List Used → List Level → List PortMove → List Situation
    → List PortMove → Type 0
AreLower c lists upper [] [] [] tries = Unit {0}
AreLower c lists upper (l ∷ ls) (m ∷ h) (s ∷ below) tries =
    (used : List Used) × StartsWith upper used × (node : IsNode c lists used h s l)
    × AreOpen c (place_at s l node.events node.left) Listed (m ∷ take l.left tries)
    × AreLower c lists used ls h below (drop l.left tries)
AreLower c lists upper _ _ _ tries = ⊥

-- the moves are listed at once, so that nothing lies between
abbrev pub IsStage : Stage → Type 0
IsStage Fresh = Unit {0}
IsStage Taken = ⊥
IsStage Listed = Unit {0}

-- the walk and the world stand at an inner run
pub record IsAt (c : Setup) (lists : PortLists) (stack : Stack) (v : View PortMove PortMove)
    (rest : Rest) : Type 0 where
  pub node : IsNode c lists (used_of rest) v.moves stack.now v.top
  pub stands : Stands lists rest node.left node.events
  pub staged : IsStage v.stage
  pub «open» : AreOpen c (place_at stack.now v.top node.events node.left) v.stage
      (take v.top.left v.tries)
  pub lower : AreLower c lists (used_of rest) v.lower v.moves stack.below
      (drop v.top.left v.tries)

-- THE BEST RUN

-- the events that a run has used up, with those of a start or of a last firing that may send more
-- than the lists have next
pub data HasFront (c : Setup) (lists : PortLists) : List PortMove → List Event → Type 0 where
  of_run : {run : List PortMove} {events : List Event} (p : PortPlace)
      → IsPortRun c lists run p → events ≡ p.events → HasFront c lists run events
  of_start : {events : List Event} (many : ℕ) (after : Left) → many ≤ length c.start_outs
      → AreNext (all_left lists.phases lists.times) (take many c.start_outs) after
      → events ≡ take many c.start_outs → HasFront c lists [] events
  of_firing : {earlier : List PortMove} {events : List Event} (f : Firing) (p : PortPlace)
      (next : Situation) (outs : List Event) (many : ℕ) (after : Left)
      → IsPortRun c lists earlier p → IsStep c.limit (text_of c.spec) p.situation f next outs
      → silent_after p.silent_in_row outs ≤ c.silent → many ≤ length outs
      → AreNext p.left (take many outs) after → events ≡ p.events ++ take many outs
      → HasFront c lists (Fire f ∷ earlier) events

-- the best run, what it uses up, and so many events
pub record IsBest (c : Setup) (lists : PortLists) (moves : List PortMove) (used : List Used)
    (best : Best PortMove) (best_used : Best Used) : Type 0 where
  pub run : List PortMove
  pub events : List Event
  pub left : Left
  pub is_kept : IsKept moves best run
  pub uses : HasUsedUp lists (kept best_used used) left events
  pub within : best_used.common ≤ length used
  pub front : HasFront c lists run events
  pub count : length events ≡ best.yields
