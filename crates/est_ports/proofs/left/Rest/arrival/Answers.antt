use Rattle.std.proofs.Common.{◌≡◌, true, false, Some, None}
use Rattle.est_ports.specs.inside.Cursors.{cut, first_at}
use Rattle.est_ports.specs.inside.Leftover.{lists_of}
use Rattle.est_ports.proofs.CursorCalls.{next_there}
use Rattle.est_ports.proofs.StandLaws.{arrival_some, arrival_none, arrival_other}
use Rattle.est_ports.proofs.left.Rest.arrival.Goals as goal

pub returns-in_default-clause-none : goal.returns-in_default-clause-none
returns-in_default-clause-none c left events s e a =
    let rest = c.args.self.now in
    let cs : c.deref.result.now ≡ rest.cursors.items = cc c.deref.ensures.value in
    let is : None ≡ first_at (cut c.deref.result.now c.lists_at-now.result.now) c.args.port =
    cc c.in_default.ensures in
    let h = next_there c.deref.result.now rest.cursors.items c.lists_at-now.result.now
    (lists_of c.args.lists.now rest.phase) c.args.port None cs c.lists_at-now.ensures is in
    arrival_none c.args.lists.now rest left events s c.args.port e h a

pub returns-then-arrives_at-clause-some : goal.returns-then-arrives_at-clause-some
returns-then-arrives_at-clause-some c left events s =
    let rest = c.args.self.now in
    let e = c.in-Some.event.now in
    let cs : c.deref.result.now ≡ rest.cursors.items = cc c.deref.ensures.value in
    let is : Some e ≡ first_at (cut c.deref.result.now c.lists_at-now.result.now) c.args.port =
    cc c.in-Some.ensures in
    let h = next_there c.deref.result.now rest.cursors.items c.lists_at-now.result.now
    (lists_of c.args.lists.now rest.phase) c.args.port (Some e) cs c.lists_at-now.ensures is in
    arrival_some c.args.lists.now rest left events s c.args.port e h
    (c.arrives_at.ensures.is.0 c.if-arrives_at.true)

pub returns-else-arrives_at-clause-none : goal.returns-else-arrives_at-clause-none
returns-else-arrives_at-clause-none c left events s e a =
    let rest = c.args.self.now in
    let f = c.in-Some.event.now in
    let cs : c.deref.result.now ≡ rest.cursors.items = cc c.deref.ensures.value in
    let is : Some f ≡ first_at (cut c.deref.result.now c.lists_at-now.result.now) c.args.port =
    cc c.in-Some.ensures in
    let h = next_there c.deref.result.now rest.cursors.items c.lists_at-now.result.now
    (lists_of c.args.lists.now rest.phase) c.args.port (Some f) cs c.lists_at-now.ensures is in
    arrival_other c.args.lists.now rest left events s c.args.port e f h
    (λ x. let yes : c.arrives_at.result ≡ true = c.arrives_at.ensures.is.1 x in
    let other : c.arrives_at.result ≡ false = c.if-arrives_at.false in cc) a
