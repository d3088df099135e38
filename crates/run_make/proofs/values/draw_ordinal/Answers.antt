use Rattle.std.proofs.Common.{◌∙◌, ◌<◌, ◌%◌, ◌+ℤ◌, pos, ap, arith, rules, w32}
use Rattle.std.proofs.Common.{ℤ}
use Rattle.std.proofs.lemmas.Int.{to_z-of_z}
use Rattle.std.specs.Int.{int_gap}
use mir.Val.{SFits, to_z, of_z}
use Rattle.run_make.proofs.Drawing.{ordinal_drawn, undefined_drawn}
use Rattle.run_make.proofs.values.draw_ordinal.Goals as goal

pub returns-then-count-eq0 : goal.returns-then-count-eq0
returns-then-count-eq0 c =
    let k = c.args.kind.now in
    let f : SFits w32 c.first_ordinal-first.result = search rules in
    let g : SFits w32 c.last_ordinal-last.result = search rules in
    let first = to_z-of_z w32 c.first_ordinal-first.result f ∙ c.first_ordinal-first.ensures in
    let last = to_z-of_z w32 c.last_ordinal-last.result g ∙ c.last_ordinal-last.ensures in
    undefined_drawn k _ _ c.draw.result c.counted-count.result c.requires c.draw.ensures
    (c.counted-count.ensures ∙ (λ i. int_gap (first i) (last i +ℤ pos 1))) c.if-count-eq0.true

pub returns : goal.returns
returns c =
    let k = c.args.kind.now in
    let f : SFits w32 c.first_ordinal-first.result = search rules in
    let g : SFits w32 c.last_ordinal-last.result = search rules in
    let h : SFits w32 c.ordinal_at.result = search rules in
    let first = to_z-of_z w32 c.first_ordinal-first.result f ∙ c.first_ordinal-first.ensures in
    let last = to_z-of_z w32 c.last_ordinal-last.result g ∙ c.last_ordinal-last.ensures in
    let n = c.counted-count.result in
    let some : 0 < n = omega arith in
    ordinal_drawn k _ _ c.draw.result c.from-word.result n (to_z w32 (of_z w32 c.ordinal_at.result))
    c.requires c.draw.ensures c.from-word.ensures
    (c.counted-count.ensures ∙ (λ i. int_gap (first i) (last i +ℤ pos 1))) some
    (to_z-of_z w32 c.ordinal_at.result h ∙ c.ordinal_at.ensures
    ∙ ap (λ (z : ℤ). z +ℤ pos (c.from-word.result % n)) first)
