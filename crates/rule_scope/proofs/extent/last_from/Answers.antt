use Rattle.std.proofs.Common.{sym}
use Rattle.rule_scope.proofs.Extents.{last_at}
use Rattle.rule_scope.proofs.extent.last_from.Goals as goal

pub returns-in-Some : goal.returns-in-Some
returns-in-Some c = sym (last_at c.args.extents.now c.in-Some.extent.now
    (sym c.in-Some.ensures.value))
