use Rattle.std.proofs.Common.{◌≡◌, drop, Some}
use Rattle.rule_scope.specs.LeastSoFar.{least_with}
use Rattle.rule_kinds.specs.TypeTexts.{arrays, indices_faults, fields_after, defs_faults, no_fields}
use Rattle.rule_kinds.proofs.texts.+texts.Given as goal

abbrev pub invariant-check_indices-loop-i : goal.invariant-check_indices-loop-i
invariant-check_indices-loop-i l =
    (l.kind ≡ arrays l.outline (drop l.i l.texts) l.fn.of)
    × (l.least.at ≡ least_with l.fn.least.at (indices_faults l.outline (drop l.i l.texts) l.fn.of
    l.place))

abbrev pub invariant-check_defs-loop-def : goal.invariant-check_defs-loop-def
invariant-check_defs-loop-def l =
    (fields_after l.outline (drop l.def-index l.def-items) l.gathered ≡ fields_after l.outline
    l.defs (Some no_fields))
    × (least_with l.least.at (defs_faults l.outline (drop l.def-index l.def-items))
    ≡ least_with l.fn.least.at (defs_faults l.outline l.defs))
