use Rattle.std.proofs.Common.{◌≡◌, ◌≤◌, ◌+◌, ◌∙◌, ◌++◌, suc, length, map, ap, arith}
use Rattle.est_meaning.specs.declared.trace.Expected.TheVariants.{Known}
use Rattle.est_ports.specs.inside.Cursors.{cut}
use Rattle.est_ports.specs.inside.PortOrder.{in_order}
use Rattle.est_ports.proofs.CursorLaws.{cut_length}
use Rattle.est_ports.proofs.OrderCalls.{write_list_on, write_end}
use Rattle.est_ports.proofs.merges.write_cut.Goals as goal

pub loop-port-preserved : goal.loop-port-preserved
loop-port-preserved c =
    let ls = cut c.args.cursors.now c.args.lists.now in
    let at = c.loop-port.port in
    let one : at + 1 ≡ suc at = omega arith in
    write_list_on (c.args.merge.now ++ map Known (in_order ls)) c.loop-port.merge
    c.write_list.new.merge ls at (at + 1)
    (c.in_ok-write_list.ensures ∙ ap (λ w. c.loop-port.merge ++ map Known w) c.left_in.ensures) one
    c.loop-port.invariant

pub returns : goal.returns
returns c =
    let ls = cut c.args.cursors.now c.args.lists.now in
    let short = cut_length c.args.cursors.now c.args.lists.now in
    let le : length ls ≤ c.loop-port.port = omega arith in
    write_end (c.args.merge.now ++ map Known (in_order ls)) c.loop-port.merge ls c.loop-port.port le
    c.loop-port.invariant
