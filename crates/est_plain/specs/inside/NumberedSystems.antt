-- That systems have their instances in order has one proof at most. Ghost fields of the code cite
-- this, so it stands here.
use Rattle.std.specs.Prelude.{ℕ, ◌+◌, List, [], ◌∷◌}
use Rattle.std.specs.Coded.{×_prop, Unit-prop, le_prop}
use mathlib.Core.HLevel.{×₃_prop}
use Rattle.est_meaning.specs.mean_blocks.declared.situation.Row.{Row}
use Rattle.est_meaning.specs.mean_blocks.GlobalSituation.{Situation}
use Rattle.est_meaning.specs.mean_blocks.KeepingLaws.{AscendBelow, AreNumbered}
use Rattle.plain_frames.specs.plain_systems.declared.system.System.{System}
use Rattle.plain_frames.specs.plain_systems.HeldSystems.{situation_of}

-- the instances of each system stand in ascending number
abbrev pub AllNumbered : List System → Type 0
AllNumbered [] = Unit {0}
AllNumbered (s ∷ systems) = AreNumbered (situation_of s) × AllNumbered systems

AscendBelow-prop : (least next : ℕ) (rs : List Row) → IsProp (AscendBelow least next rs)
AscendBelow-prop least next [] = Unit-prop
AscendBelow-prop least next (r ∷ rs) =
    ×₃_prop le_prop le_prop (AscendBelow-prop (r.number + 1) next rs)

-- that instances stand in ascending number has one proof at most
pub AreNumbered-prop : (s : Situation) → IsProp (AreNumbered s)
AreNumbered-prop s = ×_prop le_prop (AscendBelow-prop 1 s.next s.rows)

-- so has that those of all systems do
pub AllNumbered-prop : (systems : List System) → IsProp (AllNumbered systems)
AllNumbered-prop [] = Unit-prop
AllNumbered-prop (s ∷ systems) =
    ×_prop (AreNumbered-prop (situation_of s)) (AllNumbered-prop systems)
