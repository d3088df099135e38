-- What is still ahead of a search, in the order of marks.
use Rattle.std.specs.Prelude.{◌⊎◌, List, ◌∷◌, Option, Some, None}
use Rattle.est_meaning.specs.Order.{Mark, MarkBefore, StartsWith}

-- both go on from the same marks, and the second by a later mark
pub record IsLater (x y : List Mark) : Type 0 where
  pub common : List Mark
  pub mark : Mark
  pub next : Mark
  pub order : MarkBefore mark next
  pub starts : StartsWith x (mark ∷ common)
  pub goes_on : StartsWith y (next ∷ common)

-- a mark comes after the one that was dealt with last, where one was
abbrev pub IsAfter : Option Mark → Mark → Type 0
IsAfter None n = Unit {0}
IsAfter (Some m) n = MarkBefore m n

-- y is still ahead where, after a run with these marks, this was dealt with last
abbrev pub IsAhead : List Mark → Option Mark → List Mark → Type 0
IsAhead h dealt y = ((n : Mark) × IsAfter dealt n × StartsWith y (n ∷ h)) ⊎ IsLater h y
