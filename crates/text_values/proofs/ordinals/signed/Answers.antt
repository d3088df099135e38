use Rattle.std.proofs.Common.{rules, arith, ap, ◌∙◌, neg_ℤ, w32}
use Rattle.std.proofs.lemmas.Int.{to_z-of_z}
use mir.Val.{SFits}
use Rattle.est_values.specs.FittingValues.{first_ordinal, last_ordinal}
use Rattle.text_values.specs.TraceGrammar.{to_natural}
use Rattle.text_values.proofs.Numbers.{negative_read, integer_read, unseen_unsigned}
use Rattle.text_values.proofs.Numbers.{unsigned_small}
use Rattle.text_values.proofs.ordinals.signed.Goals as goal

pub returns-then-not-sees : goal.returns-then-not-sees
returns-then-not-sees c =
    let low = first_ordinal c.args.kind.now in
    let high = last_ordinal c.args.kind.now in
    let fits : SFits w32 c.number.result = search rules in
    integer_read low high _ c.number.result (to_z-of_z w32 c.number.result fits)
    (unseen_unsigned low high c.if-not-sees.ensures) c.number.ensures

pub negative-requires : goal.negative-requires
negative-requires c =
    let fits : SFits w32 c.first_ordinal.result = search rules in
    let small = unsigned_small c.first_ordinal.result fits in
    let e = c.unsigned-high.ensures ∙ ap (λ z. to_natural (neg_ℤ z))
    (to_z-of_z w32 c.first_ordinal.result fits) in
    omega (arith, c.number-number.ensures.bounded, e, small)

pub returns : goal.returns
returns c =
    let fits : SFits w32 c.last_ordinal.result = search rules in
    let fits' : SFits w32 c.first_ordinal.result = search rules in
    let fits'' : SFits w32 c.negative.result = search rules in
    let low = first_ordinal c.args.kind.now in
    let high = last_ordinal c.args.kind.now in
    negative_read low high _ c.unsigned.result c.max-low.result c.unsigned-high.result
    c.number-number.result c.requires c.if-not-sees.ensures c.symbol.ensures
    (c.unsigned.ensures ∙ ap (λ z. to_natural (neg_ℤ z)) (to_z-of_z w32 c.last_ordinal.result fits
    ∙ c.last_ordinal.ensures)) c.max-low.ensures
    (c.unsigned-high.ensures ∙ ap (λ z. to_natural (neg_ℤ z))
    (to_z-of_z w32 c.first_ordinal.result fits' ∙ c.first_ordinal.ensures))
    c.number-number.ensures (to_z-of_z w32 c.negative.result fits'' ∙ c.negative.ensures)
