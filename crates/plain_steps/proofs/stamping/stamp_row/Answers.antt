use Rattle.std.proofs.Common.{sym}
use Rattle.plain_frames.specs.plain_systems.HeldSystems.{situation_of, stamped}
use Rattle.plain_steps.proofs.StampedRows.{on_ok_map, row_lives, row_without}
use Rattle.plain_steps.proofs.StampedRows.{until_next, until_past}
use Rattle.plain_steps.proofs.stamping.stamp_row.Goals as goal

-- the instance lives
pub stamp_instance-requires-clause-living : goal.stamp_instance-requires-clause-living
stamp_instance-requires-clause-living c = row_lives c.args.limit c.args.behaviour.now
    c.args.fired (situation_of c.args.working.now.system) c.args.at c.in-Some.living
    c.requires.numbered (sym c.in-Some.ensures)

-- it has no stamps yet
pub stamp_instance-requires-clause-none : goal.stamp_instance-requires-clause-none
stamp_instance-requires-clause-none c = row_without c.args.limit c.args.behaviour.now
    c.args.fired (situation_of c.args.working.now.system) c.args.at c.in-Some.living
    (stamped c.args.stamps.now) c.requires.numbered (sym c.in-Some.ensures) c.requires.before

-- no row stands there
pub returns-in-None-clause-stamps : goal.returns-in-None-clause-stamps
returns-in-None-clause-stamps c = until_past c.args.limit c.args.behaviour.now c.args.fired
    (situation_of c.args.working.now.system) c.args.at (stamped c.args.stamps.now)
    c.in-None.ensures c.requires.before

-- the instance has its stamps
pub returns-in-Some-clause-stamps : goal.returns-in-Some-clause-stamps
returns-in-Some-clause-stamps c = on_ok_map c.stamp_instance.result (until_next c.args.limit
    c.args.behaviour.now c.args.fired (situation_of c.args.working.now.system) c.args.at
    c.in-Some.living (stamped c.args.stamps.now) (stamped c.stamp_instance.new.stamps)
    (sym c.in-Some.ensures) c.requires.before) c.stamp_instance.ensures.stamps
