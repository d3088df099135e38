use Rattle.std.proofs.Common.{get_or}
use Rattle.est_ports.specs.declared.left.Used.TheVariants.{At}
use Rattle.est_ports.proofs.CursorCalls.{read_same}
use Rattle.est_ports.proofs.OrderLaws.{written_step}
use Rattle.est_ports.proofs.merges.write_used.Goals as goal

pub loop-at-preserved : goal.loop-at-preserved
loop-at-preserved c =
    let used = c.args.used.now in
    let at = c.loop-at.at in
    let next = get_or used at (At 0) in
    written_step c.args.lists.now used at next c.loop-at.rest.phase c.write_one.new.rest.phase
    c.loop-at.rest.cursors.items c.write_one.new.rest.cursors.items c.args.merge.now c.loop-at.merge
    c.write_one.new.merge c.loop-at-test.true (read_same used at next (At 0) c.loop-at-test.true)
    c.loop-at.invariant c.in_ok-write_one.ensures.written c.in_ok-write_one.ensures.leads
