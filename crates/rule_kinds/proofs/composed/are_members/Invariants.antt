use Rattle.std.proofs.Common.{◌≡◌, drop}
use Rattle.rule_kinds.specs.TypeTexts.{are_members}
use Rattle.rule_kinds.proofs.composed.are_members.Given as goal

abbrev pub invariant-loop-used : goal.invariant-loop-used
invariant-loop-used l = are_members l.outline (drop l.used-index l.names) ≡ are_members l.outline
    l.names
