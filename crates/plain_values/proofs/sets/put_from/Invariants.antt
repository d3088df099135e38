use Rattle.std.proofs.Common.{◌≡◌, ◌-◌, pos, ◌+ℤ◌}
use Rattle.mean_blocks.specs.SetOperators.{with_members}
use Rattle.plain_values.proofs.sets.put_from.Given as goal

-- with the others all are there
abbrev pub invariant-loop-i : goal.invariant-loop-i
invariant-loop-i l = with_members (l.count - l.i) (l.first +ℤ pos l.i) l.members
    ≡ with_members l.count l.first l.initial.members
