use Rattle.std.specs.Prelude.{flat_map}
use Rattle.std.proofs.Common.{◌≡◌, drop}
use Rattle.rule_scope.specs.LeastSoFar.{least_with}
use Rattle.rule_statements.specs.Statements.{statement_faults, arms_faults}
use Rattle.rule_statements.proofs.statements.+statement.Given as goal

abbrev pub invariant-check_statements-loop-statement :
    goal.invariant-check_statements-loop-statement
invariant-check_statements-loop-statement l = least_with l.least.at (flat_map (statement_faults l.outline l.function l.loops) (drop l.statement-index l.statements)) ≡ least_with l.fn.least.at
    (flat_map (statement_faults l.outline l.function l.loops) l.statements)

abbrev pub invariant-check_arms-loop-arm : goal.invariant-check_arms-loop-arm
invariant-check_arms-loop-arm l = least_with l.least.at (arms_faults l.outline l.function l.loops
    l.host l.chosen (drop l.arm-index l.arms)) ≡ least_with l.fn.least.at
    (arms_faults l.outline l.function l.loops l.host l.fn.chosen l.arms)
