use Rattle.std.proofs.Common.{◌≡◌, ◌≤◌, ◌<◌, ◌∙◌, ◌++◌, length, take, drop, reverse, sym, ap, arith}
use Rattle.est_ports.proofs.BackLaws.{kept_first}
use Rattle.est_ports.proofs.left.kept_list.Goals as goal

pub returns : goal.returns
returns c =
    let used = c.args.used.now in
    let common = c.args.best.now.common in
    let tail = c.args.best.now.tail.items in
    let n = c.min-common.result in
    let whole : c.loop-at.at ≡ 0 = omega arith in
    let few : common ≤ length used → n ≡ common = λ le. omega (arith, c.min-common.ensures) in
    let many : length used < common → n ≡ length used = λ lt. omega (arith, c.min-common.ensures) in
    c.loop-at.invariant ∙ ap (λ w. drop w tail ++ reverse (take n used)) whole
    ∙ ap (λ w. tail ++ w) (sym (kept_first used common n few many))
