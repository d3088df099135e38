use Rattle.std.proofs.Common.{◌≡◌, map, take}
use Rattle.mean_ports.specs.PortRunLaws.{plain_move}
use Rattle.est_ports.proofs.explain.plain.Given as goal

abbrev pub invariant-loop-made : goal.invariant-loop-made
invariant-loop-made l = l.list.items ≡ map plain_move (take l.made-index l.moves)
