use Rattle.std.proofs.Common.{◌≡◌, take}
use Rattle.est_meaning.specs.OutsideEvents.{departures}
use Rattle.plain_outside.proofs.outside.Outside.departures.Given as goal

abbrev pub invariant-loop-item : goal.invariant-loop-item
invariant-loop-item l = l.events ≡ departures l.self (take l.item-index l.item-items)
