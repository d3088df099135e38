-- What is still ahead of a walk: no order of runs is promised, so that is what goes on from a run
-- of the path by a move that is left there.
use Rattle.std.specs.Prelude.{◌≡◌, ◌⊎◌, List, [], ◌∷◌, take, drop}
use Rattle.est_syntax.specs.Least.{IsIn}
use Rattle.est_meaning.specs.Order.{StartsWith}
use Rattle.mean_ports.specs.declared.moves.PortMove.{PortMove}
use Rattle.run_paths.specs.declared.path.Level.{Level}
use Rattle.run_paths.specs.declared.path.Stage.{Stage}
use Rattle.run_paths.specs.declared.path.Stage.TheVariants.{Fresh, Taken, Listed}
use Rattle.run_paths.specs.Paths.{View}

-- MOVES THAT ARE LEFT

-- the move is still to be tried: at first each, and then, once the moves are listed, each of these
abbrev pub IsLeft : Stage → List PortMove → PortMove → Type 0
IsLeft Fresh mine m = Unit {0}
IsLeft Taken mine m = IsIn m mine
IsLeft Listed mine m = IsIn m mine

-- the moves were not listed yet
abbrev pub IsEarly : Stage → Type 0
IsEarly Fresh = Unit {0}
IsEarly Taken = ⊥
IsEarly Listed = ⊥

-- WHAT GOES ON

-- the run goes on from another by a move that is left there
pub record GoesOn (stage : Stage) (mine h y : List PortMove) : Type 0 where
  pub move : PortMove
  pub is_left : IsLeft stage mine move
  pub starts : StartsWith y (move ∷ h)

-- or it is that run, whose guards were not evaluated yet
abbrev pub IsUnasked : Stage → List PortMove → List PortMove → List PortMove → Type 0
IsUnasked stage mine h y = GoesOn stage mine h y ⊎ (IsEarly stage × (y ≡ h))

-- ON A PATH

-- so it is for a run below the top, with the moves that are left there
abbrev pub IsBelow : (Stage → List PortMove → List PortMove → List PortMove → Type 0)
    → List Level → List PortMove → List PortMove → List PortMove → Type 0
IsBelow P [] h tries y = ⊥
IsBelow P (l ∷ ls) [] tries y = ⊥
IsBelow P (l ∷ ls) (m ∷ h) tries y =
    P Listed (take l.left tries) h y ⊎ IsBelow P ls h (drop l.left tries) y

-- or at the top
abbrev pub IsOnPath : (Stage → List PortMove → List PortMove → List PortMove → Type 0)
    → View PortMove PortMove → List PortMove → Type 0
IsOnPath P v y = P v.stage (take v.top.left v.tries) v.moves y
    ⊎ IsBelow P v.lower v.moves (drop v.top.left v.tries) y

-- the run is still ahead
abbrev pub IsAhead : View PortMove PortMove → List PortMove → Type 0
IsAhead v y = IsOnPath GoesOn v y

-- the guards after the run are still to be evaluated
abbrev pub AreGuardsAhead : View PortMove PortMove → List PortMove → Type 0
AreGuardsAhead v y = IsOnPath IsUnasked v y
