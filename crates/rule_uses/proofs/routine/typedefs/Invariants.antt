use Rattle.std.proofs.Common.{◌≡◌, drop}
use Rattle.rule_uses.specs.Closed.{all_free}
use Rattle.rule_uses.specs.Routines.{typedefs_names}
use Rattle.rule_uses.proofs.routine.typedefs.Given as goal

abbrev pub invariant-loop-def : goal.invariant-loop-def
invariant-loop-def l =
    all_free l.outline l.routine (typedefs_names (drop l.def-index l.defs))
    ≡ all_free l.outline l.routine (typedefs_names l.defs)
