use Rattle.std.proofs.Common.{◌≡◌}
use Rattle.plain_names.proofs.part_names.+part.Given as goal

abbrev pub invariant-parts-loop-one : goal.invariant-parts-loop-one
invariant-parts-loop-one l = l.known ≡ l.fn.known
