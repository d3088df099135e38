use Rattle.std.proofs.Common.{◌≡◌, drop}
use Rattle.rule_declares.specs.Declares.{roles_put}
use Rattle.rule_outline.proofs.modules.roles.Given as goal

abbrev pub invariant-loop-used : goal.invariant-loop-used
invariant-loop-used l = roles_put l.region (drop l.used-index l.names) l.role l.outline
    ≡ roles_put l.region l.names l.fn.role l.fn.outline
