use Rattle.std.proofs.Common.{◌≡◌, drop}
use Rattle.rule_uses.specs.Closed.{all_free}
use Rattle.rule_uses.specs.Routines.{constdefs_names}
use Rattle.rule_uses.proofs.routine.constdefs.Given as goal

abbrev pub invariant-loop-def : goal.invariant-loop-def
invariant-loop-def l =
    all_free l.outline l.routine (constdefs_names (drop l.def-index l.defs))
    ≡ all_free l.outline l.routine (constdefs_names l.defs)
