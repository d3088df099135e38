use Rattle.std.proofs.Common.{◌≡◌, drop}
use Rattle.rule_scope.specs.LeastSoFar.{least_with}
use Rattle.rule_statements.specs.Cases.{with_constants, choices_faults}
use Rattle.rule_statements.proofs.cases.check_choices.Given as goal

abbrev pub invariant-loop-constant : goal.invariant-loop-constant
invariant-loop-constant l =
    (with_constants l.outline l.host l.chosen (drop l.constant-index l.constants)
    ≡ with_constants l.outline l.host l.fn.chosen l.constants)
    × (least_with l.least.at (choices_faults l.outline l.host l.chosen
    (drop l.constant-index l.constants)) ≡ least_with l.fn.least.at
    (choices_faults l.outline l.host l.fn.chosen l.constants))
