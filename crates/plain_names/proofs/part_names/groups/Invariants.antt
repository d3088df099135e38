use Rattle.std.proofs.Common.{◌≡◌}
use Rattle.plain_names.proofs.part_names.groups.Given as goal

abbrev pub invariant-loop-one : goal.invariant-loop-one
invariant-loop-one l = l.known ≡ l.fn.known
