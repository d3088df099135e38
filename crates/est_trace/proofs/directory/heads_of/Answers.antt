use Rattle.std.proofs.Common.{arith}
use Rattle.est_trace.proofs.Listed.{all_listed}
use Rattle.est_trace.proofs.directory.heads_of.Goals as goal

pub returns : goal.returns
returns c =
    let n = c.requires.count in
    let l = c.loop-next-test.false in
    all_listed c.args.ports.now c.requires.good c.loop-next.next c.loop-next.heads
    (omega (arith, n, l)) c.loop-next.invariant
