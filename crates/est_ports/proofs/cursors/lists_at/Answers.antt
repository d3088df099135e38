use Rattle.std.proofs.Common.{◌≡◌, ◌∙◌, Some, None}
use Rattle.std.specs.Prelude.{slice_get}
use Rattle.est_ports.proofs.CursorCalls.{lists_there, no_lists}
use Rattle.est_ports.proofs.cursors.lists_at.Goals as goal

pub returns-in-Some : goal.returns-in-Some
returns-in-Some c =
    let h : slice_get c.args.lists.now.phases c.args.phase ≡ Some c.in-Some.lists.now =
    cc c.in-Some.ensures in
    c.as_slice.ensures ∙ lists_there c.args.lists.now c.args.phase c.in-Some.lists.now h

pub returns-in-None : goal.returns-in-None
returns-in-None c =
    let h : slice_get c.args.lists.now.phases c.args.phase ≡ None = cc c.in-None.ensures in
    no_lists c.args.lists.now c.args.phase h
