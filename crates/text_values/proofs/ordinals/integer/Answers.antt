use Rattle.std.proofs.Common.{rules, ◌∙◌, w32}
use Rattle.std.proofs.lemmas.Int.{to_z-of_z}
use mir.Val.{SFits}
use Rattle.est_values.specs.FittingValues.{first_ordinal, last_ordinal}
use Rattle.text_values.proofs.Numbers.{integer_read, natural_unsigned, is_below, not_below}
use Rattle.text_values.proofs.ordinals.integer.Goals as goal

pub signed-requires : goal.signed-requires
signed-requires c =
    let fits : SFits w32 c.first_ordinal-first.result = search rules in
    is_below _ (first_ordinal c.args.kind.now)
    (to_z-of_z w32 c.first_ordinal-first.result fits ∙ c.first_ordinal-first.ensures)
    c.if-first-lt0.true

pub returns : goal.returns
returns c =
    let fits : SFits w32 c.first_ordinal-first.result = search rules in
    let low = first_ordinal c.args.kind.now in
    let high = last_ordinal c.args.kind.now in
    let fits' : SFits w32 c.number.result = search rules in
    integer_read low high _ c.number.result (to_z-of_z w32 c.number.result fits')
    (natural_unsigned low high c.args.reader.now (not_below _ low
    (to_z-of_z w32 c.first_ordinal-first.result fits ∙ c.first_ordinal-first.ensures)
    c.if-first-lt0.false)) c.number.ensures
