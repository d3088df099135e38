use Rattle.std.proofs.Common.{◌≡◌, drop}
use Rattle.rule_declares.specs.Declares.{with_senders, senders}
use Rattle.rule_outline.proofs.modules.senders.Given as goal

abbrev pub invariant-loop-used : goal.invariant-loop-used
invariant-loop-used l = with_senders l.outline l.region (drop l.used-index l.roles) l.found
    ≡ senders l.outline l.region l.roles
