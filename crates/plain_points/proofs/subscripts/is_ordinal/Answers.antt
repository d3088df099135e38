use Rattle.std.proofs.Common.{sym, ◌<ℤ◌, ◌≤ℤ◌, arith}
use Rattle.std.proofs.lemmas.Int.{ints}
use Rattle.est_values.specs.FittingValues.{first_ordinal, last_ordinal}
use Rattle.plain_points.proofs.DeclaredLaws.{ordinal_there, ordinal_below, ordinal_above}
use Rattle.plain_points.proofs.subscripts.is_ordinal.Goals as goal

pub returns-then-z-first_ordinal : goal.returns-then-z-first_ordinal
returns-then-z-first_ordinal c =
    let h : c.args.z <ℤ first_ordinal c.args.kind.now = grind (arith, ints) in
    sym (ordinal_below c.args.kind.now c.args.z h)

pub returns-then-last_ordinal-z : goal.returns-then-last_ordinal-z
returns-then-last_ordinal-z c =
    let h : last_ordinal c.args.kind.now <ℤ c.args.z = grind (arith, ints) in
    sym (ordinal_above c.args.kind.now c.args.z h)

pub returns : goal.returns
returns c =
    let l : first_ordinal c.args.kind.now ≤ℤ c.args.z = grind (arith, ints) in
    let m : c.args.z ≤ℤ last_ordinal c.args.kind.now = grind (arith, ints) in
    sym (ordinal_there c.args.kind.now c.args.z l m)
