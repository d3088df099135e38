use Rattle.std.proofs.Common.{◌≡◌, ◌++◌, drop}
use Rattle.std.specs.Prelude.{map}
use Rattle.plain_effects.specs.SystemSteps.{bound_value}
use Rattle.plain_effects.proofs.effects.values_in_frame.Given as goal

abbrev pub invariant-loop-i : goal.invariant-loop-i
invariant-loop-i l =
    l.values ++ map bound_value (drop l.i l.frame) ≡ map bound_value l.frame
