-- How many events of a merge a port run yields.
use Rattle.std.specs.Prelude.{◌≡◌, ℕ, ◌+◌, ◌≤◌, List, [], ◌∷◌, map, take, length}
use Rattle.est_meaning.specs.mean_blocks.GlobalSituation.{Situation}
use Rattle.est_meaning.specs.mean_blocks.TextByPlace.{text_of}
use Rattle.est_meaning.specs.FiringSteps.{IsStep}
use Rattle.est_meaning.specs.RecordedTraces.{Recorded}
use Rattle.est_meaning.specs.Run.{Setup, IsBegun, YieldsFirst, silent_after}
use Rattle.est_meaning.specs.declared.event.Event.{Event}
use Rattle.est_meaning.specs.declared.firing.Firing.{Firing}
use Rattle.est_meaning.specs.declared.run.Move.{Move}
use Rattle.mean_ports.specs.declared.lists.PortLists.{PortLists}
use Rattle.mean_ports.specs.declared.moves.PortMove.{PortMove}
use Rattle.mean_ports.specs.declared.moves.PortMove.TheVariants.{Fire}
use Rattle.mean_ports.specs.Merges.{IsMerge, AreAllowedLists}
use Rattle.mean_ports.specs.PortRunLaws.{plain_move}
use Rattle.mean_ports.specs.PortRuns.{PortPlace, Left, IsPortRun, AreNext, all_left, along}

-- After these events so many of those of a start or a firing are the next ones of their ports, which
-- makes so many events or more in all.
pub record Reaches (left : Left) (before outs : List Event) (k : ℕ) : Type 0 where
  pub many : ℕ
  pub after : Left
  pub within : many ≤ length outs
  pub next : AreNext left (take many outs) after
  pub enough : k ≤ length before + many

-- A port run yields so many events, with those of a start or of a last firing that may send more
-- than the lists have next.
pub data PortYields (c : Setup) (lists : PortLists) : List PortMove → ℕ → Type 0 where
  by_run : {run : List PortMove} {k : ℕ} (p : PortPlace) → IsPortRun c lists run p
      → k ≤ length p.events → PortYields c lists run k
  by_start : {k : ℕ} → Reaches (all_left lists.phases lists.times) [] c.start_outs k
      → PortYields c lists [] k
  by_firing : {earlier : List PortMove} {k : ℕ} (f : Firing) (p : PortPlace) (next : Situation)
      (outs : List Event) → IsPortRun c lists earlier p
      → IsStep c.limit (text_of c.spec) p.situation f next outs
      → silent_after p.silent_in_row outs ≤ c.silent → Reaches p.left p.events outs k
      → PortYields c lists (Fire f ∷ earlier) k

-- a port run that yields so many events, and whose moves are those of a run
pub record IsYieldedBy (c : Setup) (lists : PortLists) (run : List Move) (k : ℕ) : Type 0 where
  pub moves : List PortMove
  pub yields : PortYields c lists moves k
  pub moves_are : map plain_move moves ≡ run

-- what a bounded run yields of a merge a port run yields
abbrev pub YieldsArePortYields : Type 0
YieldsArePortYields = (c : Setup) (lists : PortLists) (merge : Recorded) (run : List Move) (k : ℕ)
    → IsBegun c → AreAllowedLists c.spec lists → IsMerge lists merge
    → YieldsFirst (along c merge) run k → IsYieldedBy c lists run k

-- a merge of which a port run yields so many events as a run does
pub record YieldsOfMerge (c : Setup) (lists : PortLists) (run : List PortMove) (k : ℕ) : Type 0
  where
    pub merge : Recorded
    pub is_merge : IsMerge lists merge
    pub yields : YieldsFirst (along c merge) (map plain_move run) k

-- what a port run yields it yields of some merge
abbrev pub PortYieldsAreYields : Type 0
PortYieldsAreYields = (c : Setup) (lists : PortLists) (run : List PortMove) (k : ℕ)
    → AreAllowedLists c.spec lists → PortYields c lists run k → YieldsOfMerge c lists run k
