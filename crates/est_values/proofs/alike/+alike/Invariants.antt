use Rattle.std.proofs.Common.{◌≡◌, drop}
use Rattle.est_values.specs.Alike.{are_alike}
use Rattle.est_values.proofs.alike.+alike.Given as goal

abbrev pub invariant-are_alike-loop-i : goal.invariant-are_alike-loop-i
invariant-are_alike-loop-i l = are_alike (drop l.i l.fields) (drop l.i l.others)
    ≡ are_alike l.fields l.others
