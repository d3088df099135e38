use Rattle.std.proofs.Common.{arith, w32}
use Rattle.std.proofs.lemmas.Int.{to_z-of_z}
use mir.Val.{SFits}
use Rattle.plain_values.proofs.MemberCounts.{many_in_span}
use Rattle.plain_values.proofs.sets.extended.Goals as goal

pub returns-then-count : goal.returns-then-count
returns-then-count c =
    let f : SFits w32 c.args.a = c.ranges.a in
    let g : SFits w32 c.args.b = c.ranges.b in
    many_in_span c.args.a c.args.b c.counted-count.result c.args.members
    (simp to_z-of_z at c.counted-count.ensures) (omega arith)
