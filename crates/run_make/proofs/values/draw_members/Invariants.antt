use Rattle.run_make.specs.Words.{stream_at}
use Rattle.run_make.specs.DrawnValues.{DrawsMembers}
use Rattle.run_make.proofs.values.draw_members.Given as goal

-- of so many first values of the base
abbrev pub invariant-loop-distance : goal.invariant-loop-distance
invariant-loop-distance l =
    DrawsMembers l.base l.distance (stream_at l.fn.rng) l.members (stream_at l.rng)
