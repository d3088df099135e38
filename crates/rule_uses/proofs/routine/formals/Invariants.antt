use Rattle.std.proofs.Common.{◌≡◌, drop}
use Rattle.rule_uses.specs.Closed.{all_free}
use Rattle.rule_uses.specs.Routines.{formals_names}
use Rattle.rule_uses.proofs.routine.formals.Given as goal

abbrev pub invariant-loop-one : goal.invariant-loop-one
invariant-loop-one l =
    all_free l.outline l.routine (formals_names (drop l.one-index l.formals))
    ≡ all_free l.outline l.routine (formals_names l.formals)
