use Rattle.std.proofs.Common.{rules, ap, w32}
use Rattle.std.proofs.lemmas.Int.{to_z-of_z}
use mir.Val.{SFits}
use Rattle.est_values.specs.declared.value.Value.TheVariants as value
use Rattle.text_values.proofs.Groups.{ordinal_undefined, ordinal_defined}
use Rattle.text_values.proofs.values.ordinal_value.Goals as goal

pub returns-then-sees : goal.returns-then-sees
returns-then-sees c = ordinal_undefined c.args.kind.now value.Ordinal value.Undefined
    c.if-sees.ensures c.symbol.ensures

pub returns : goal.returns
returns c =
    let fits : SFits w32 c.ordinal.result = search rules in
    ordinal_defined c.args.kind.now value.Ordinal value.Undefined _ c.ordinal.result
    (ap value.Ordinal (to_z-of_z w32 c.ordinal.result fits)) c.if-sees.ensures c.ordinal.ensures
