use Rattle.std.proofs.Common.{rules, ap, w32}
use Rattle.std.proofs.lemmas.Int.{to_z-of_z}
use mir.Val.{SFits}
use Rattle.est_seen.specs.declared.seen.Seen.TheVariants as seen
use Rattle.text_values.proofs.Groups.{ordinal_undefined, ordinal_defined}
use Rattle.text_values.proofs.seens.ordinal_seen.Goals as goal

pub returns-then-sees : goal.returns-then-sees
returns-then-sees c = ordinal_undefined c.args.kind.now seen.Ordinal seen.Undefined
    c.if-sees.ensures c.symbol.ensures

pub returns : goal.returns
returns c =
    let fits : SFits w32 c.ordinal.result = search rules in
    ordinal_defined c.args.kind.now seen.Ordinal seen.Undefined _ c.ordinal.result
    (ap seen.Ordinal (to_z-of_z w32 c.ordinal.result fits)) c.if-sees.ensures c.ordinal.ensures
