use Rattle.std.proofs.Common.{◌≡◌}
use Rattle.plain_guards.specs.plain_systems.HeldSystems.{situation_of}
use Rattle.plain_choices.proofs.Rows.{IsFoundAt}
use Rattle.plain_choices.proofs.found.find.Given as goal

-- what is found of so many rows, and the system looks as before
abbrev pub invariant-loop-at : goal.invariant-loop-at
invariant-loop-at l =
    (situation_of l.working.system ≡ situation_of l.fn.working.system)
    × IsFoundAt l.limit l.behaviour (situation_of l.fn.working.system) l.at l.found
