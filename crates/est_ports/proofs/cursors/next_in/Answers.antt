use Rattle.std.proofs.Common.{◌≡◌, ◌∙◌, Some, get_or, sym}
use Rattle.std.specs.Prelude.{slice_get}
use Rattle.est_ports.proofs.CursorLaws.{no_cursor, no_list, first_cut}
use Rattle.est_ports.proofs.CursorCalls.{past_end, read_there, read_number}
use Rattle.est_ports.proofs.cursors.next_in.Goals as goal

pub returns-then-port-cursors : goal.returns-then-port-cursors
returns-then-port-cursors c = sym (no_cursor c.args.cursors.now c.args.lists.now c.args.port
    (past_end c.args.cursors.now c.args.port c.if-port-cursors.true))

pub returns-then-port-lists : goal.returns-then-port-lists
returns-then-port-lists c = sym (no_list c.args.cursors.now c.args.lists.now c.args.port
    (past_end c.args.lists.now c.args.port c.if-port-lists.true))

pub returns : goal.returns
returns c =
    let cs = c.args.cursors.now in
    let port = c.args.port in
    let list = c.index-lists-port.result in
    let a = read_number cs port c.if-port-cursors.false in
    let b : slice_get c.args.lists.now port ≡ Some list =
    read_there c.args.lists.now port list c.if-port-lists.false c.index-lists-port.is in
    c.get.ensures ∙ sym (first_cut cs c.args.lists.now port (get_or cs port 0) list a b)
