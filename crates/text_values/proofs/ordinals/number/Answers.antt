use Rattle.std.proofs.Common.{rules, arith, ap, ◌∙◌, w32}
use Rattle.std.proofs.lemmas.Int.{to_z-of_z, to_z_pos}
use mir.Val.{SFits}
use Rattle.est_values.specs.FittingValues.{first_ordinal, last_ordinal}
use Rattle.text_values.specs.TraceGrammar.{to_natural}
use Rattle.text_values.proofs.Numbers.{numbers_read, numbers_wrong, is_below, not_below}
use Rattle.text_values.proofs.Numbers.{natural_small}
use Rattle.text_values.proofs.ordinals.number.Goals as goal

pub returns-then-last-lt0 : goal.returns-then-last-lt0
returns-then-last-lt0 c =
    let fits : SFits w32 c.last_ordinal-last.result = search rules in
    let low = first_ordinal c.args.kind.now in
    let high = last_ordinal c.args.kind.now in
    numbers_wrong low high (is_below _ high
    (to_z-of_z w32 c.last_ordinal-last.result fits ∙ c.last_ordinal-last.ensures)
    c.if-last-lt0.true) c.no_ordinal.ensures

pub returns : goal.returns
returns c =
    let fits : SFits w32 c.last_ordinal-last.result = search rules in
    let fits' : SFits w32 c.first_ordinal.result = search rules in
    let low = first_ordinal c.args.kind.now in
    let high = last_ordinal c.args.kind.now in
    let p = to_z-of_z w32 c.last_ordinal-last.result fits in
    let small = natural_small c.last_ordinal-last.result fits in
    let e = c.natural-high.ensures ∙ ap to_natural p in
    numbers_read low high _ c.natural-low.result c.natural-high.result c.number-number.result
    (not_below _ high (p ∙ c.last_ordinal-last.ensures) c.if-last-lt0.false)
    (c.natural-low.ensures ∙ ap to_natural (to_z-of_z w32 c.first_ordinal.result fits'
    ∙ c.first_ordinal.ensures))
    (e ∙ ap to_natural c.last_ordinal-last.ensures) c.number-number.ensures
    (to_z_pos w32 c.number-number.result (omega (arith, c.number-number.ensures.bounded, e, small)))
