use Rattle.std.proofs.Common.{arith}
use Rattle.std.proofs.lemmas.Int.{ints}
use Rattle.run_make.proofs.Drawing.{gap_within}
use Rattle.run_make.proofs.values.ordinal_at.Goals as goal

pub overflow_cast-result-2 : goal.overflow_cast-result-2
overflow_cast-result-2 c =
    let h = gap_within c.args.first c.args.last c.args.distance c.requires in omega (arith, ints)

pub overflow_add-result : goal.overflow_add-result
overflow_add-result c =
    let h = gap_within c.args.first c.args.last c.args.distance c.requires in
    grind (arith, ints)

pub overflow_cast-result-3 : goal.overflow_cast-result-3
overflow_cast-result-3 c =
    let h = gap_within c.args.first c.args.last c.args.distance c.requires in
    grind (arith, ints)

pub returns : goal.returns
returns c =
    let h = gap_within c.args.first c.args.last c.args.distance c.requires in
    grind (arith, ints)
