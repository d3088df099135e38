use Rattle.std.proofs.Common.{◌≡◌, drop}
use Rattle.plain_points.proofs.DeclaredLaws.{fits_tuple}
use Rattle.plain_points.proofs.subscripts.is_tuple.Given as goal

-- the ordinals that are left decide
abbrev pub invariant-loop-i : goal.invariant-loop-i
invariant-loop-i l =
    fits_tuple l.kinds l.tuple ≡ fits_tuple (drop l.i l.kinds) (drop l.i l.tuple)
