-- How many port runs there are of which something holds.
use Rattle.std.specs.Prelude.{◌≡◌, ℕ, ◌≤◌, List, [], ◌∷◌, length}
use Rattle.est_syntax.specs.Least.{IsIn}
use Rattle.mean_ports.specs.declared.moves.PortMove.{PortMove}

-- no run stands twice in the list
abbrev pub AreDistinct : List (List PortMove) → Type 0
AreDistinct [] = Unit {0}
AreDistinct (x ∷ xs) = (IsIn x xs → ⊥) × AreDistinct xs

-- so many runs, and maybe more, have this
pub record HasMany (P : List PortMove → Type 0) (many : ℕ) : Type 0 where
  pub runs : List (List PortMove)
  pub count : length runs ≡ many
  pub distinct : AreDistinct runs
  pub each : (x : List PortMove) → IsIn x runs → P x

-- so many runs have this, and no more
pub record HasExactly (P : List PortMove → Type 0) (many : ℕ) : Type 0 where
  pub found : HasMany P many
  pub all : (x : List PortMove) → P x → IsIn x found.runs

-- at most so many runs have this
abbrev pub HasAtMost : (List PortMove → Type 0) → ℕ → Type 0
HasAtMost P most = (many : ℕ) × (many ≤ most) × HasExactly P many
