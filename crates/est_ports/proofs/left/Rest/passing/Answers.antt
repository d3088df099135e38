use Rattle.std.proofs.Common.{◌≡◌, true, false, Some, None, subst}
use Rattle.std.specs.Prelude.{◌↔◌, IsTrue, slice_get}
use Rattle.mean_ports.specs.Merges.{AreUsedUp}
use Rattle.est_ports.specs.inside.Cursors.{cut}
use Rattle.est_ports.proofs.StandLaws.{passing_some, passable}
use Rattle.est_ports.proofs.left.Rest.passing.Goals as goal

pub returns-then-not-has_later-clause-none : goal.returns-then-not-has_later-clause-none
returns-then-not-has_later-clause-none c left events s units after x =
    let p = passable c.args.lists.now c.args.self.now left events s units after x in
    let yes : c.has_later.result ≡ true = c.has_later.ensures.later.1 p.later in
    let other : c.has_later.result ≡ false = c.if-not-has_later.true in
    cc

pub returns-then-not-are_used-clause-none : goal.returns-then-not-are_used-clause-none
returns-then-not-are_used-clause-none c left events s units after x =
    let lists = c.args.lists.now in
    let rest = c.args.self.now in
    let p = passable lists rest left events s units after x in
    let cs : c.deref.result.now ≡ rest.cursors.items = cc c.deref.ensures.value in
    let used = subst (λ w. IsTrue c.are_used.result ↔ AreUsedUp (cut rest.cursors.items w))
    c.lists_at.ensures (subst (λ w. IsTrue c.are_used.result ↔ AreUsedUp (cut w
    c.lists_at.result.now)) cs c.are_used.ensures) in
    let yes : c.are_used.result ≡ true = used.1 p.used in
    let other : c.are_used.result ≡ false = c.if-not-are_used.true in
    cc

pub returns-in_default-clause-none : goal.returns-in_default-clause-none
returns-in_default-clause-none c left events s units after x =
    let p = passable c.args.lists.now c.args.self.now left events s units after x in
    let is : slice_get c.args.lists.now.times c.args.self.now.phase ≡ Some units = p.units_is in
    let none : slice_get c.args.lists.now.times c.args.self.now.phase ≡ None =
    cc c.in_default.ensures in
    cc

pub returns-clause-some : goal.returns-clause-some
returns-clause-some c left events s =
    let lists = c.args.lists.now in
    let rest = c.args.self.now in
    let cs : c.deref.result.now ≡ rest.cursors.items = cc c.deref.ensures.value in
    let used = subst (λ w. IsTrue c.are_used.result ↔ AreUsedUp (cut rest.cursors.items w))
    c.lists_at.ensures (subst (λ w. IsTrue c.are_used.result ↔ AreUsedUp (cut w
    c.lists_at.result.now)) cs c.are_used.ensures) in
    let yes : c.are_used.result ≡ true = c.if-not-are_used.false in
    let later : c.has_later.result ≡ true = c.if-not-has_later.false in
    let units : slice_get lists.times rest.phase ≡ Some c.in-Some.units.now = cc c.in-Some.ensures
    in
    passing_some lists rest left events s c.in-Some.units.now (c.has_later.ensures.later.0 later)
    (used.0 yes) units
