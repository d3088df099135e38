use Rattle.std.proofs.Common.{drop}
use Rattle.plain_guards.specs.plain_systems.HeldSystems.{situation_of}
use Rattle.plain_choices.proofs.Keeping.{IsKeptBut}
use Rattle.plain_choices.proofs.ancestors.keep_unpreceded.Given as goal

-- what is kept but for the firings that are left
abbrev pub invariant-loop-firing : goal.invariant-loop-firing
invariant-loop-firing l =
    IsKeptBut (situation_of l.system) l.found.dues.items l.found.firings.items
    (drop l.firing-index l.firing-items) l.into.items
