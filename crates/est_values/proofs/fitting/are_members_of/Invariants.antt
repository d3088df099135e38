use Rattle.std.proofs.Common.{drop}
use Rattle.est_values.specs.FittingValues.{AscendFrom}
use Rattle.est_values.proofs.fitting.are_members_of.Given as goal

-- the members ascend where those that are left do
abbrev pub invariant-loop-member : goal.invariant-loop-member
invariant-loop-member l = (AscendFrom l.least l.last (drop l.member-index l.members)
    → AscendFrom l.initial.least l.last l.members)
    × (AscendFrom l.initial.least l.last l.members
    → AscendFrom l.least l.last (drop l.member-index l.members))
