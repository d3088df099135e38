use Rattle.std.proofs.Common.{◌≡◌, ◌≤◌, ◌∙◌, sym, ap, Some, get_or, drop, length, arith}
use Rattle.std.proofs.lemmas.Slice.{between_to_end}
use Rattle.std.specs.Prelude.{slice_get}
use Rattle.est_ports.proofs.CursorCalls.{past_end, read_there, read_number}
use Rattle.est_ports.proofs.LeftLaws.{drop_none}
use Rattle.est_ports.proofs.OrderCalls.{cut_first, cut_no_cursor, cut_no_list}
use Rattle.est_ports.proofs.merges.left_in.Goals as goal

pub returns-then-port-cursors : goal.returns-then-port-cursors
returns-then-port-cursors c = sym (cut_no_cursor c.args.cursors.now c.args.lists.now c.args.port
    (past_end c.args.cursors.now c.args.port c.if-port-cursors.true))

pub returns-then-port-lists : goal.returns-then-port-lists
returns-then-port-lists c = sym (cut_no_list c.args.cursors.now c.args.lists.now c.args.port
    (past_end c.args.lists.now c.args.port c.if-port-lists.true))

pub returns-then-cursor-events : goal.returns-then-cursor-events
returns-then-cursor-events c =
    let cs = c.args.cursors.now in
    let port = c.args.port in
    let list = c.index-lists-port.result in
    let a = read_number cs port c.if-port-cursors.false in
    let b : slice_get c.args.lists.now port ≡ Some list =
    read_there c.args.lists.now port list c.if-port-lists.false c.index-lists-port.is in
    let size : length c.as_slice-events.result.now ≡ length list =
    ap length c.as_slice-events.ensures in
    let past = c.if-cursor-events.true in
    let le : length list ≤ get_or cs port 0 = omega arith in
    sym (cut_first cs c.args.lists.now port (get_or cs port 0) list a b
    ∙ drop_none list (get_or cs port 0) le)

pub returns : goal.returns
returns c =
    let cs = c.args.cursors.now in
    let port = c.args.port in
    let list = c.index-lists-port.result in
    let at = get_or cs port 0 in
    let events = c.as_slice-events.result.now in
    let a = read_number cs port c.if-port-cursors.false in
    let b : slice_get c.args.lists.now port ≡ Some list =
    read_there c.args.lists.now port list c.if-port-lists.false c.index-lists-port.is in
    let whole : length events ≤ length events = omega arith in
    between_to_end events at (length events) whole
    ∙ ap (λ w. drop at w) c.as_slice-events.ensures
    ∙ sym (cut_first cs c.args.lists.now port at list a b)
