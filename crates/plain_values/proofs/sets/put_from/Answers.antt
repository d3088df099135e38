use Rattle.std.proofs.Common.{arith}
use Rattle.std.proofs.lemmas.Int.{ints}
use Rattle.plain_values.proofs.MembersInTurn.{put_next}
use Rattle.plain_values.proofs.sets.put_from.Goals as goal

pub loop-i-preserved : goal.loop-i-preserved
loop-i-preserved c =
    put_next c.args.count c.loop-i.i _ _ _ _ _ c.in_ok-put.ensures c.loop-i.invariant
    (omega (arith, ints)) (omega arith)
