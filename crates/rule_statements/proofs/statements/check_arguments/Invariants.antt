use Rattle.std.proofs.Common.{◌≡◌, drop}
use Rattle.rule_scope.specs.LeastSoFar.{least_with}
use Rattle.rule_statements.specs.Statements.{arguments_faults}
use Rattle.rule_statements.proofs.statements.check_arguments.Given as goal

abbrev pub invariant-loop-i : goal.invariant-loop-i
invariant-loop-i l = least_with l.least.at (arguments_faults l.outline l.function l.loops
    l.procedure l.i l.name (drop l.i l.exprs)) ≡ least_with l.fn.least.at
    (arguments_faults l.outline l.function l.loops l.procedure 0 l.name l.exprs)
