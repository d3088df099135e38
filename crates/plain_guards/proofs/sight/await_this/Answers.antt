use Rattle.std.proofs.Common.{◌≡◌, sym, arith, length}
use Rattle.std.proofs.lemmas.List.{nil_from_length}
use Rattle.plain_guards.proofs.sight.await_this.Goals as goal

pub returns-then-is_empty-clause-sight : goal.returns-then-is_empty-clause-sight
returns-then-is_empty-clause-sight c = λ ch b known.
    let index = c.args.awaits.now.at.now.index in
    let none : length index ≡ 0 = grind (arith, c.if-is_empty.ensures, c.as_slice.ensures) in
    c.in_ok-sight.ensures.sight c.args.limit ch b known (sym (c.in-Some.ensures known.fixed))
    (nil_from_length index none)
