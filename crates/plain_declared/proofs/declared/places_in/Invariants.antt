use Rattle.std.proofs.Common.{◌≡◌, take}
use Rattle.plain_declared.specs.ShownNames.{places_in}
use Rattle.plain_declared.proofs.declared.places_in.Given as goal

abbrev pub invariant-loop-number : goal.invariant-loop-number
invariant-loop-number l = l.places ≡ places_in l.outline l.sort (take l.number l.names)
