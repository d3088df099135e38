use Rattle.std.proofs.Common.{◌≡◌, ◌≤◌, ◌<◌, ◌+◌, true, false, length, subst, arith}
use Rattle.std.specs.Prelude.{◌↔◌, IsTrue}
use Rattle.mean_ports.specs.Merges.{AreUsedUp}
use Rattle.est_ports.specs.inside.Cursors.{cut}
use Rattle.est_ports.proofs.StandLaws.{some_left, whether_left, used_later, used_times}
use Rattle.est_ports.proofs.left.Rest.is_all_used.Goals as goal

pub returns-then-has_later : goal.returns-then-has_later
returns-then-has_later c left events s =
    some_left c.args.lists.now c.args.self.now left events s
    (λ u. used_later c.args.lists.now c.args.self.now left events s u
    (c.has_later.ensures.later.0 c.if-has_later.true))

pub returns-then-len-self : goal.returns-then-len-self
returns-then-len-self c left events s =
    some_left c.args.lists.now c.args.self.now left events s
    (λ u. let le = used_times c.args.lists.now c.args.self.now left events s u in
    let size = c.len.ensures in omega arith)

pub returns : goal.returns
returns c left events s =
    let lists = c.args.lists.now in
    let rest = c.args.self.now in
    let cs : c.deref.result.now ≡ rest.cursors.items = cc c.deref.ensures.value in
    let size = c.len.ensures in
    let le : length lists.times ≤ rest.phase = omega arith in
    let none : rest.phase + 1 < length lists.phases → ⊥ =
    λ lt. let yes : c.has_later.result ≡ true = c.has_later.ensures.later.1 lt in
    let other : c.has_later.result ≡ false = c.if-has_later.false in cc in
    whether_left lists rest left events s c.are_used.result le none
    (subst (λ w. IsTrue c.are_used.result ↔ AreUsedUp (cut rest.cursors.items w)) c.lists_at.ensures
    (subst (λ w. IsTrue c.are_used.result ↔ AreUsedUp (cut w c.lists_at.result.now)) cs
    c.are_used.ensures))
