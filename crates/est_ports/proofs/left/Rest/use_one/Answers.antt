use Rattle.std.proofs.Common.{◌≡◌, ◌∙◌, true, false, Some, None, ap}
use Rattle.est_ports.specs.inside.Cursors.{cut, first_at}
use Rattle.est_ports.specs.inside.Leftover.{lists_of}
use Rattle.est_ports.proofs.CursorCalls.{next_there}
use Rattle.est_ports.proofs.UseLaws.{no_port, not_first, is_first}
use Rattle.est_ports.proofs.left.Rest.use_one.Goals as goal

pub returns-in_default : goal.returns-in_default
returns-in_default c =
    no_port c.args.lists.now c.args.self.now c.args.out.now c.in_default.ensures.none

pub returns-in_default-next_in : goal.returns-in_default-next_in
returns-in_default-next_in c =
    let rest = c.args.self.now in
    let port = c.in-Some.port in
    let cs : c.deref.result.now ≡ rest.cursors.items = cc c.deref.ensures.value in
    let is : None ≡ first_at (cut c.deref.result.now c.lists_at-now.result.now) port =
    cc c.in_default-next_in.ensures in
    let h = next_there c.deref.result.now rest.cursors.items c.lists_at-now.result.now
    (lists_of c.args.lists.now rest.phase) port None cs c.lists_at-now.ensures is in
    not_first c.args.lists.now rest c.args.out.now port c.in-Some.ensures.some (λ first. cc)

pub returns-then-not-is : goal.returns-then-not-is
returns-then-not-is c =
    let rest = c.args.self.now in
    let port = c.in-Some.port in
    let e = c.in-Some-next_in.event.now in
    let cs : c.deref.result.now ≡ rest.cursors.items = cc c.deref.ensures.value in
    let is : Some e ≡ first_at (cut c.deref.result.now c.lists_at-now.result.now) port =
    cc c.in-Some-next_in.ensures in
    let h = next_there c.deref.result.now rest.cursors.items c.lists_at-now.result.now
    (lists_of c.args.lists.now rest.phase) port (Some e) cs c.lists_at-now.ensures is in
    let other : c.is.result ≡ false = c.if-not-is.true in
    not_first c.args.lists.now rest c.args.out.now port c.in-Some.ensures.some (λ first.
    let same : e ≡ c.args.out.now = cc in
    let yes : c.is.result ≡ true = c.is.ensures.1 same in cc)

pub returns : goal.returns
returns c =
    let rest = c.args.self.now in
    let port = c.in-Some.port in
    let e = c.in-Some-next_in.event.now in
    let cs : c.deref.result.now ≡ rest.cursors.items = cc c.deref.ensures.value in
    let is : Some e ≡ first_at (cut c.deref.result.now c.lists_at-now.result.now) port =
    cc c.in-Some-next_in.ensures in
    let h = next_there c.deref.result.now rest.cursors.items c.lists_at-now.result.now
    (lists_of c.args.lists.now rest.phase) port (Some e) cs c.lists_at-now.ensures is in
    let yes : c.is.result ≡ true = c.if-not-is.false in
    let same : e ≡ c.args.out.now = c.is.ensures.0 yes in
    is_first c.args.lists.now rest c.args.out.now c.take.new.self port c.in-Some.ensures.some
    (h ∙ ap Some same) c.in_ok-take.ensures.used c.in_ok-take.ensures.stands
