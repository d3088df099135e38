-- Port runs that use their lists up: they explain merges.
use Rattle.std.specs.Prelude.{◌≡◌, List, map}
use Rattle.est_meaning.specs.RecordedTraces.{Recorded, known_trace}
use Rattle.est_meaning.specs.Run.{Setup, IsBegun, Explains}
use Rattle.est_meaning.specs.declared.run.Move.{Move}
use Rattle.mean_ports.specs.declared.lists.PortLists.{PortLists}
use Rattle.mean_ports.specs.declared.moves.PortMove.{PortMove}
use Rattle.mean_ports.specs.Merges.{IsMerge, AreAllowedLists}
use Rattle.mean_ports.specs.PortRunLaws.{plain_move}
use Rattle.mean_ports.specs.PortRuns.{PortPlace, IsPortRun, IsAllUsed, along}

-- a port run after which nothing is left
pub record UsesUp (c : Setup) (lists : PortLists) (run : List PortMove) (p : PortPlace) : Type 0
  where
    pub is_run : IsPortRun c lists run p
    pub all_used : IsAllUsed p.left

-- its events are a merge, and the run explains it
pub record ExplainsItsMerge (c : Setup) (lists : PortLists) (run : List PortMove) (p : PortPlace)
    : Type 0 where
  pub is_merge : IsMerge lists (known_trace p.events)
  pub explains : Explains (along c (known_trace p.events)) (map plain_move run)

-- each port run that uses allowed lists up explains its merge
abbrev pub UsedUpRunsExplain : Type 0
UsedUpRunsExplain = (c : Setup) (lists : PortLists) (run : List PortMove) (p : PortPlace)
    → AreAllowedLists c.spec lists → UsesUp c lists run p → ExplainsItsMerge c lists run p

-- a port run that uses the lists up, and whose moves are those of a run
pub record IsUsedUpBy (c : Setup) (lists : PortLists) (run : List Move) : Type 0 where
  pub moves : List PortMove
  pub place : PortPlace
  pub uses_up : UsesUp c lists moves place
  pub moves_are : map plain_move moves ≡ run

-- each bounded run that explains a merge uses the lists up
abbrev pub ExplainingRunsUseUp : Type 0
ExplainingRunsUseUp = (c : Setup) (lists : PortLists) (merge : Recorded) (run : List Move)
    → IsBegun c → AreAllowedLists c.spec lists → IsMerge lists merge
    → Explains (along c merge) run → IsUsedUpBy c lists run
