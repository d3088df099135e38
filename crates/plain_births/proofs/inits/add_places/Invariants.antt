use Rattle.std.proofs.Common.{◌≡◌, ◌++◌, take}
use Rattle.plain_births.proofs.inits.add_places.Given as goal

-- so many places are added
abbrev pub invariant-loop-place : goal.invariant-loop-place
invariant-loop-place l = l.places ≡ l.fn.places ++ take l.place-index l.more
