use Rattle.std.proofs.Common.{◌≡◌, map, take}
use Rattle.mean_ports.specs.declared.moves.PortMove.TheVariants.{Fire}
use Rattle.est_ports.proofs.turn.firings.Given as goal

abbrev pub invariant-loop-firing : goal.invariant-loop-firing
invariant-loop-firing l = l.into.items ≡ map Fire (take l.firing-index l.offers)
