use Rattle.std.proofs.Common.{◌≡◌, ◌-◌}
use Rattle.plain_frames.specs.plain_systems.HeldSystems.{situation_of, stamped}
use Rattle.est_meaning.specs.DelayStamps.{stamp_after}
use Rattle.plain_steps.proofs.StampSteps.{AreUpTo}
use Rattle.plain_steps.proofs.stamping.stamp_instance.Given as goal

-- the transitions so far have their stamps, and nothing else changed
abbrev pub invariant-loop-number : goal.invariant-loop-number
invariant-loop-number l = AreUpTo l.living.number l.last
    (stamp_after l.limit l.behaviour l.fired (situation_of l.fn.working.system))
    (stamped l.fn.stamps) (stamped l.stamps)
    × (situation_of l.working.system ≡ situation_of l.fn.working.system)

abbrev pub decreases-loop-number : goal.decreases-loop-number
decreases-loop-number l = 4294967295 - l.last
