use Rattle.std.proofs.Common.{◌≡◌}
use Rattle.est_meaning.specs.mean_blocks.GlobalSituation.{Clocked}
use Rattle.plain_frames.specs.plain_systems.HeldSystems.{situation_of, stamped}
use Rattle.plain_steps.specs.inside.StampLists.{stamps_until}
use Rattle.plain_steps.proofs.stamping.stamp_rows.Given as goal

-- the instances so far have their stamps, and nothing else changed
abbrev pub invariant-loop-at : goal.invariant-loop-at
invariant-loop-at l = ((k : Clocked) → stamped l.stamps k
    ≡ stamps_until l.limit l.behaviour l.fired (situation_of l.fn.working.system) l.at k)
    × (situation_of l.working.system ≡ situation_of l.fn.working.system)
