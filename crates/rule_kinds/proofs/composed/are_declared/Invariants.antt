use Rattle.std.proofs.Common.{◌≡◌, drop}
use Rattle.rule_kinds.specs.TypeTexts.{are_declared}
use Rattle.rule_kinds.proofs.composed.are_declared.Given as goal

abbrev pub invariant-loop-used : goal.invariant-loop-used
invariant-loop-used l = are_declared l.outline (drop l.used-index l.names) ≡ are_declared l.outline
    l.names
