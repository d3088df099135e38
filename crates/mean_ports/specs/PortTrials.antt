-- Trials along one trace for each port, and what passes a limit there.
use Rattle.std.specs.Prelude.{◌≡◌, List, [], ◌∷◌, Option, Some, None}
use Rattle.est_meaning.specs.mean_blocks.GlobalSituation.{Situation}
use Rattle.est_meaning.specs.mean_blocks.Outcome.{Limit}
use Rattle.est_meaning.specs.mean_blocks.TextByPlace.{text_of}
use Rattle.est_meaning.specs.declared.firing.Firing.{Firing}
use Rattle.est_meaning.specs.TransitionSelection.{IsSettled, IsPossible}
use Rattle.est_meaning.specs.FiringSteps.{outcome}
use Rattle.est_meaning.specs.Run.{Setup}
use Rattle.mean_ports.specs.declared.lists.PortLists.{PortLists}
use Rattle.mean_ports.specs.declared.moves.PortMove.{PortMove}
use Rattle.mean_ports.specs.declared.moves.PortMove.TheVariants.{TakeAt, Pass, Fire}
use Rattle.mean_ports.specs.PortRuns.{PortPlace, IsPortRun, IsAllUsed, TakesAt, PassesOn}

-- TRIALS

-- a bounded port run that follows the lists and does not use them up
pub record IsInnerPortRun (c : Setup) (lists : PortLists) (run : List PortMove) (p : PortPlace)
    : Type 0 where
  pub is_run : IsPortRun c lists run p
  pub unfinished : IsAllUsed p.left → ⊥

-- the move is defined there: an arrival is the next event of the port, or a time may pass, or the
-- firing is possible, whatever comes of its block
abbrev pub IsDefinedMove : Setup → PortPlace → PortMove → Type 0
IsDefinedMove c p (TakeAt port) = (q : PortPlace) × TakesAt c p port q
IsDefinedMove c p Pass = (q : PortPlace) × PassesOn c p q
IsDefinedMove c p (Fire f) = IsPossible c.limit (text_of c.spec) p.situation f

-- A trial: an inner port run with a move that is defined after it. The size of a search along the
-- lists is how many trials there are.
abbrev pub IsPortTrial : Setup → PortLists → List PortMove → Type 0
IsPortTrial c lists [] = ⊥
IsPortTrial c lists (m ∷ earlier) =
    (p : PortPlace) × IsInnerPortRun c lists earlier p × IsDefinedMove c p m

-- a trial that fires; no more blocks are fired than there are of these
abbrev pub IsFiringTrial : Setup → PortLists → List PortMove → Type 0
IsFiringTrial c lists [] = ⊥
IsFiringTrial c lists (TakeAt port ∷ earlier) = ⊥
IsFiringTrial c lists (Pass ∷ earlier) = ⊥
IsFiringTrial c lists (Fire f ∷ earlier) = IsPortTrial c lists (Fire f ∷ earlier)

-- PASSED LIMITS

-- in a situation this firing is possible and its block passes its limit, or with no firing a guard
-- does
abbrev pub PassesIn : Setup → Situation → Option Firing → Type 0
PassesIn c s None = IsSettled c.limit (text_of c.spec) s → ⊥
PassesIn c s (Some f) = IsPossible c.limit (text_of c.spec) s f
    × (outcome c.limit (text_of c.spec) s f ≡ Limit)

-- after some inner port run something passes its limit
pub record PassesOnTree (c : Setup) (lists : PortLists) : Type 0 where
  pub run : List PortMove
  pub place : PortPlace
  pub inner : IsInnerPortRun c lists run place
  pub firing : Option Firing
  pub passes : PassesIn c place.situation firing
