use Rattle.std.proofs.Common.{◌≡◌, ◌++◌, take, drop}
use Rattle.text_values.specs.inside.Gathering.{with_member}
use Rattle.text_values.proofs.sets.room.Given as goal

-- the ordinal is put after the members so far
abbrev pub invariant-loop-i : goal.invariant-loop-i
invariant-loop-i l = with_member l.z l.members
    ≡ take l.i l.members ++ with_member l.z (drop l.i l.members)
