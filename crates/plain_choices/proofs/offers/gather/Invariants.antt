use Rattle.std.proofs.Common.{◌≡◌, ◌+◌, ◌-◌, ◌^◌}
use Rattle.plain_guards.specs.plain_systems.HeldSystems.{situation_of}
use Rattle.plain_choices.specs.inside.InstanceOffers.{IsSurvey, IsUpTo}
use Rattle.plain_choices.proofs.offers.gather.Given as goal

-- the transitions up to a number are surveyed, and the system looks as before
abbrev pub invariant-loop-number : goal.invariant-loop-number
invariant-loop-number l =
    (situation_of l.working.system ≡ situation_of l.fn.working.system)
    × IsSurvey l.limit l.behaviour (situation_of l.fn.working.system)
    (IsUpTo l.instance.number (l.after + 1) 0) l.offers.items

-- the numbers ascend
abbrev pub decreases-loop-number : goal.decreases-loop-number
decreases-loop-number l = 2 ^ 32 - l.after
