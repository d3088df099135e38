use Rattle.std.proofs.Common.{◌≡◌, drop}
use Rattle.rule_uses.specs.Closed.{all_free}
use Rattle.rule_uses.specs.Routines.{parts_names}
use Rattle.rule_uses.proofs.routine.parts.Given as goal

abbrev pub invariant-loop-one : goal.invariant-loop-one
invariant-loop-one l =
    all_free l.outline l.routine (parts_names (drop l.one-index l.parts))
    ≡ all_free l.outline l.routine (parts_names l.parts)
