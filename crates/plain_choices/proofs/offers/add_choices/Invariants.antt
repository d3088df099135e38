use Rattle.std.proofs.Common.{◌≡◌, ◌≤◌, ◌-◌, ◌^◌}
use Rattle.plain_guards.specs.plain_systems.HeldSystems.{situation_of}
use Rattle.plain_choices.specs.inside.InstanceOffers.{IsSurvey, IsUpTo}
use Rattle.plain_choices.proofs.offers.add_choices.Given as goal

-- the choices below a number are surveyed, and the system looks as before
abbrev pub invariant-loop-chosen : goal.invariant-loop-chosen
invariant-loop-chosen l =
    (situation_of l.working.system ≡ situation_of l.fn.working.system)
    × (1 ≤ l.choice)
    × IsSurvey l.limit l.behaviour (situation_of l.fn.working.system)
    (IsUpTo l.candidate.instance l.candidate.number l.choice) l.offers.items

-- the numbers ascend
abbrev pub decreases-loop-chosen : goal.decreases-loop-chosen
decreases-loop-chosen l = 2 ^ 32 - l.choice
