use Rattle.std.proofs.Common.{◌≡◌, take}
use Rattle.plain_births.specs.NewInstances.{elements_at}
use Rattle.plain_births.proofs.births.elements_at.Given as goal

-- the elements of so many places are there
abbrev pub invariant-loop-place : goal.invariant-loop-place
invariant-loop-place l = l.holdings ≡ elements_at l.outline (take l.place-index l.places)
