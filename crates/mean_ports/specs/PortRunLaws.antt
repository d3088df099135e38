-- What holds of port runs: they are the runs along merges.
use Rattle.std.specs.Prelude.{◌≡◌, List, map}
use Rattle.est_meaning.specs.RecordedTraces.{Recorded}
use Rattle.est_meaning.specs.Run.{Setup, Place, IsBegun, IsBoundedRun, Follows}
use Rattle.est_meaning.specs.declared.run.Move.{Move}
use Rattle.est_meaning.specs.declared.run.Move.TheVariants as move
use Rattle.mean_ports.specs.declared.lists.PortLists.{PortLists}
use Rattle.mean_ports.specs.declared.moves.PortMove.{PortMove}
use Rattle.mean_ports.specs.declared.moves.PortMove.TheVariants.{TakeAt, Pass, Fire}
use Rattle.mean_ports.specs.Merges.{IsMerge, AreAllowedLists}
use Rattle.mean_ports.specs.PortRuns.{PortPlace, IsPortRun, along}

-- the move of a run that a move along lists is
abbrev pub plain_move : PortMove → Move
plain_move (TakeAt port) = move.Take
plain_move Pass = move.Take
plain_move (Fire f) = move.Fire f

-- where a run stands that is a port run
abbrev pub plain_place : PortPlace → Place
plain_place p = record
    { situation = p.situation; events = p.events; silent_in_row = p.silent_in_row }

-- a port run is a bounded run along the merge, and follows it
pub record IsRunAlong (c : Setup) (lists : PortLists) (run : List PortMove) (p : PortPlace)
    (merge : Recorded) : Type 0 where
  pub is_merge : IsMerge lists merge
  pub is_run : IsBoundedRun (along c merge) (map plain_move run) (plain_place p)
  pub follows : Follows (along c merge) (plain_place p)

-- each port run along allowed lists is a run along some merge
abbrev pub PortRunsAreRuns : Type 0
PortRunsAreRuns = (c : Setup) (lists : PortLists) (run : List PortMove) (p : PortPlace)
    → AreAllowedLists c.spec lists → IsPortRun c lists run p
    → (merge : Recorded) × IsRunAlong c lists run p merge

-- a port run whose moves and place are those of a run
pub record IsPortRunOf (c : Setup) (lists : PortLists) (run : List Move) (p : Place) : Type 0 where
  pub moves : List PortMove
  pub place : PortPlace
  pub is_run : IsPortRun c lists moves place
  pub moves_are : map plain_move moves ≡ run
  pub place_is : plain_place place ≡ p

-- each bounded run that follows a merge is a port run
abbrev pub RunsArePortRuns : Type 0
RunsArePortRuns = (c : Setup) (lists : PortLists) (merge : Recorded) (run : List Move) (p : Place)
    → IsBegun c → AreAllowedLists c.spec lists → IsMerge lists merge
    → IsBoundedRun (along c merge) run p → Follows (along c merge) p
    → IsPortRunOf c lists run p
