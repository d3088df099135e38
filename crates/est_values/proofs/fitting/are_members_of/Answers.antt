use Rattle.std.proofs.Common.{arith}
use Rattle.std.proofs.lemmas.Int.{ints}
use Rattle.est_values.proofs.AscendingOn.{ascend_on}
use Rattle.est_values.proofs.fitting.are_members_of.Goals as goal

pub loop-member-preserved : goal.loop-member-preserved
loop-member-preserved c =
    ascend_on _ _ _ c.args.members.now c.loop-member.member-index _
    (omega (arith, ints)) (grind (arith, ints)) (grind (arith, ints)) (omega (arith, ints))
    c.loop-member.invariant
