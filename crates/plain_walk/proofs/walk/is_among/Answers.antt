use Rattle.std.proofs.Common.{get_or}
use Rattle.est_meaning.specs.declared.firing.Firing.{Firing}
use Rattle.est_explanation.proofs.Events.{among_at, same_firing}
use Rattle.plain_walk.proofs.walk.is_among.Goals as goal

pub returns-then-eq : goal.returns-then-eq
returns-then-eq c =
    let d : Firing = record { instance = 0; transition = 0; choice = 0 } in
    let k = c.loop-other.other-index in
    λ _. among_at c.args.firing.now c.args.firings.now k d c.loop-other-test.true
    (same_firing (get_or c.args.firings.now k d) c.args.firing.now c.if-eq.ensures)
