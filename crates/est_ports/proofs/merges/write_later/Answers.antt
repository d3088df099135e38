use Rattle.std.proofs.Common.{◌<◌, ◌+◌, ◌∙◌, ◌++◌, drop, length, map, ap, refl, arith}
use Rattle.est_meaning.specs.declared.trace.Expected.TheVariants.{Known}
use Rattle.est_ports.specs.inside.PortOrder.{in_order, phases_in_order}
use Rattle.est_ports.proofs.OrderCalls.{write_phase}
use Rattle.est_ports.proofs.merges.write_later.Goals as goal

pub loop-at-preserved : goal.loop-at-preserved
loop-at-preserved c =
    let lists = c.args.lists.now in
    let at = c.loop-at.at in
    let n = c.len.ensures in
    let m = c.saturating_sub-last.ensures in
    let below = c.loop-at-test.true in
    let lt : at + 1 < length lists.phases = omega arith in
    write_phase lists (c.args.merge.now ++ map Known (phases_in_order
    (drop (c.args.phase + 1) lists.phases) (drop c.args.phase lists.times))) c.loop-at.merge
    c.write_time.new.merge c.write_lists.new.merge at (at + 1) lt refl c.in_ok-write_time.ensures
    (c.in_ok-write_lists.ensures
    ∙ ap (λ w. c.write_time.new.merge ++ map Known (in_order w)) c.lists_at.ensures)
    c.loop-at.invariant
