use Rattle.std.proofs.Common.{◌≡◌, ◌≤◌, Some, length, arith}
use Rattle.est_ports.specs.inside.Cursors.{cut, first_at}
use Rattle.est_ports.proofs.CursorCalls.{not_used, all_used}
use Rattle.est_ports.proofs.cursors.are_used.Goals as goal

pub returns-in-Some : goal.returns-in-Some
returns-in-Some c =
    let cs = c.args.cursors.now in
    let ls = c.args.lists.now in
    let port = c.loop-port.port in
    let h : first_at (cut cs ls) port ≡ Some c.in-Some._left.now = cc c.in-Some.ensures in
    not_used cs ls port c.in-Some._left.now h

pub returns : goal.returns
returns c =
    let le : length c.args.cursors.now ≤ c.loop-port.port = omega arith in
    all_used c.args.cursors.now c.args.lists.now c.loop-port.port c.loop-port.invariant le
