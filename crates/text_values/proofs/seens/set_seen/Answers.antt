use Rattle.std.proofs.Common.{refl}
use Rattle.est_seen.specs.declared.seen.Seen.TheVariants as seen
use Rattle.text_values.proofs.Groups.{set_undefined, set_defined}
use Rattle.text_values.proofs.seens.set_seen.Goals as goal

pub returns-then-sees : goal.returns-then-sees
returns-then-sees c = set_undefined c.args.base.now seen.Set seen.Undefined c.if-sees.ensures
    c.symbol.ensures

pub returns : goal.returns
returns c = set_defined c.args.base.now seen.Set seen.Undefined _ c.set.result refl
    c.if-sees.ensures c.set.ensures
