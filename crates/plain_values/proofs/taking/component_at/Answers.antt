use Rattle.std.proofs.Common.{sym, ◌∙◌, subst, arith, rules, ℤ, ◌≤ℤ◌, w32}
use Rattle.std.proofs.lemmas.Int.{ints, to_z-of_z}
use mir.Val.{SFits}
use Rattle.mean_blocks.proofs.FittingTaken.{ordinal_within}
use Rattle.plain_values.proofs.taking.component_at.Goals as goal

pub overflow_cast-result-then-is_within-2 : goal.overflow_cast-result-then-is_within-2
overflow_cast-result-then-is_within-2 c =
    let f : SFits w32 c.first_ordinal.result = search rules in
    let g : SFits w32 c.args.z = c.ranges.z in
    let h : c.first_ordinal.result ≤ℤ c.args.z =
    subst (λ (a : ℤ). a ≤ℤ c.args.z) (sym c.first_ordinal.ensures)
    (ordinal_within c.args.index.now c.args.z
    (simp to_z-of_z at (sym c.is_within.ensures ∙ c.if-is_within.true))).0 in
    omega (arith, ints, f, g, h)
