use Rattle.std.proofs.Common.{pos, ◌-ℤ◌, ◌<ℤ◌, arith}
use Rattle.std.proofs.lemmas.Int.{ints}
use Rattle.est_values.proofs.Gaps.{gap_counted, gap_none}
use Rattle.est_values.proofs.ordinals.counted.Goals as goal

pub returns-then-distance-lt0 : goal.returns-then-distance-lt0
returns-then-distance-lt0 c =
    let h : (c.args.last -ℤ c.args.first) <ℤ pos 0 = grind (arith, ints) in
    gap_none c.args.first c.args.last h

pub returns-else-distance-lt0 : goal.returns-else-distance-lt0
returns-else-distance-lt0 c = gap_counted c.args.first c.args.last _ (grind (arith, ints))
