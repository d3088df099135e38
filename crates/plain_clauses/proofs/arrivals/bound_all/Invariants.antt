use Rattle.std.proofs.Common.{◌≡◌, ◌++◌, drop}
use Rattle.est_meaning.specs.TransitionChoices.{bound_all}
use Rattle.plain_clauses.proofs.arrivals.bound_all.Given as goal

-- the names so far, and those that are left, are all
abbrev pub invariant-loop-i : goal.invariant-loop-i
invariant-loop-i l = l.frame ++ bound_all (drop l.i l.places) (drop l.i l.values)
    ≡ bound_all l.places l.values
