use Rattle.std.proofs.Common.{rules, arith, subst, pos, length, ◌-◌, ◌<◌, w32}
use Rattle.std.proofs.Common.{get_or, ◌<ℤ◌}
use Rattle.std.proofs.lemmas.Int.{ints, to_z-of_z}
use mir.Val.{SFits, to_z, of_z}
use Rattle.text_values.proofs.Members.{put_last}
use Rattle.text_values.proofs.sets.is_above.Goals as goal

pub returns : goal.returns
returns c = λ t.
    let xs = c.args.members.now in
    let last = get_or xs (length xs - 1) (pos 0) in
    let fits : SFits w32 last = search rules in
    let p = to_z-of_z w32 last fits in
    let q = to_z-of_z w32 c.args.z c.ranges.z in
    let some : 0 < length xs = grind arith in
    let less : to_z w32 (of_z w32 last) <ℤ to_z w32 (of_z w32 c.args.z) = omega (arith, ints, t) in
    put_last _ _ c.args.z (pos 0) xs c.requires some
    (subst (λ x. x <ℤ c.args.z) p (subst (λ x. to_z w32 (of_z w32 last) <ℤ x) q less))
