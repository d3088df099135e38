use Rattle.std.proofs.Common.{◌≡◌, ◌++◌, drop}
use Rattle.rule_kinds.specs.TypeTexts.{field_kinds}
use Rattle.rule_kinds.proofs.composed.add_kinds.Given as goal

abbrev pub invariant-loop-used : goal.invariant-loop-used
invariant-loop-used l = l.kinds ++ field_kinds (drop l.used-index l.names) l.kind
    ≡ l.fn.kinds ++ field_kinds l.names l.kind
