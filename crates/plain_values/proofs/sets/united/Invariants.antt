use Rattle.std.proofs.Common.{◌≡◌, drop}
use Rattle.mean_blocks.specs.SetOperators.{united}
use Rattle.plain_values.proofs.sets.united.Given as goal

-- with the others all are there
abbrev pub invariant-loop-y : goal.invariant-loop-y
invariant-loop-y l = united l.members (drop l.y-index l.y-items) ≡ united l.xs l.y-items
