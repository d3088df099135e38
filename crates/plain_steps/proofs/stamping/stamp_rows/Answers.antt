use Rattle.std.proofs.Common.{sym, subst, arith, ◌∙◌, ◌+◌, ◌≤◌, length}
use Rattle.est_meaning.specs.mean_blocks.KeepingLaws.{AreNumbered}
use Rattle.plain_frames.specs.plain_systems.HeldSystems.{situation_of, stamped}
use Rattle.plain_steps.proofs.StampedRows.{until_same, same_until, until_all}
use Rattle.plain_steps.proofs.stamping.stamp_rows.Goals as goal

-- the instances stand in ascending number as before
pub stamp_row-requires-clause-numbered : goal.stamp_row-requires-clause-numbered
stamp_row-requires-clause-numbered c =
    subst AreNumbered (sym c.loop-at.invariant.1) c.requires.numbered

-- those before the row have their stamps
pub stamp_row-requires-clause-before : goal.stamp_row-requires-clause-before
stamp_row-requires-clause-before c = until_same c.args.limit c.args.behaviour.now c.args.fired
    (situation_of c.args.working.now.system) (situation_of c.loop-at.working.system) c.loop-at.at
    (stamped c.loop-at.stamps) c.loop-at.invariant.1 c.loop-at.invariant.0

-- with those of the row
pub loop-at-preserved : goal.loop-at-preserved
loop-at-preserved c = (
  same_until c.args.limit c.args.behaviour.now c.args.fired
      (situation_of c.args.working.now.system) (situation_of c.loop-at.working.system)
      (c.loop-at.at + 1) (stamped c.stamp_row.new.stamps) c.loop-at.invariant.1
      c.in_ok-stamp_row.ensures.stamps,
  c.in_ok-stamp_row.ensures.system ∙ c.loop-at.invariant.1,
)

-- after the last row
pub returns-clause-stamps : goal.returns-clause-stamps
returns-clause-stamps c = until_all c.args.limit c.args.behaviour.now c.args.fired
    (situation_of c.args.working.now.system) c.loop-at.at (stamped c.loop-at.stamps)
    (subst (λ rs. length rs ≤ c.loop-at.at) c.get.ensures (subst (λ n. n ≤ c.loop-at.at)
    c.len-at-end.ensures (omega (arith, c.loop-at-test.false)))) c.loop-at.invariant.0
