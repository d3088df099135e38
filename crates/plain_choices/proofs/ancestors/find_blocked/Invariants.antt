use Rattle.plain_guards.specs.plain_systems.HeldSystems.{situation_of}
use Rattle.plain_choices.proofs.Blocking.{AreBlockedAt}
use Rattle.plain_choices.proofs.ancestors.find_blocked.Given as goal

-- what is found of so many rows
abbrev pub invariant-loop-row : goal.invariant-loop-row
invariant-loop-row l =
    AreBlockedAt (situation_of l.system) l.dues l.row-index l.blocked.items
