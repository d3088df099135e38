use Rattle.std.proofs.Common.{ap}
use Rattle.est_values.specs.declared.value.Value.TheVariants as value
use Rattle.text_values.proofs.Groups.{set_undefined, set_defined, set_lost}
use Rattle.text_values.proofs.values.set_value.Goals as goal

pub returns-then-sees : goal.returns-then-sees
returns-then-sees c = set_undefined c.args.base.now value.Set value.Undefined c.if-sees.ensures
    c.symbol.ensures

pub returns-in-Ok : goal.returns-in-Ok
returns-in-Ok c = set_defined c.args.base.now value.Set value.Undefined _ c.set-members.result
    (ap value.Set c.in-Ok.ensures) c.if-sees.ensures c.set-members.ensures

pub returns-in-Err : goal.returns-in-Err
returns-in-Err c = set_lost c.args.base.now value.Set value.Undefined _ c.set-members.result
    c.if-sees.ensures c.set-members.ensures c.spend.ensures.still c.spend.ensures.spent
