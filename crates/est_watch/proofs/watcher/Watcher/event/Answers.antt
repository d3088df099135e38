use Rattle.std.proofs.Common.{refl, sym, subst}
use Rattle.est_watch.specs.Watchers.{IsWatching}
use Rattle.est_watch.proofs.watcher.Watcher.event.Goals as goal

pub give-requires : goal.give-requires
give-requires g c κs within = (within, (c.in-Open.is, (c.requires.1.0, (c.requires.1.1.0, c.requires.1.1.1))))

pub returns-in-Closed-clause-stays : goal.returns-in-Closed-clause-stays
returns-in-Closed-clause-stays g c = rw c.in-Closed.is (refl, refl)

pub returns-in-Spent-clause-stays : goal.returns-in-Spent-clause-stays
returns-in-Spent-clause-stays g c = rw c.in-Spent.is refl

pub returns-in-Ok-clause-stays : goal.returns-in-Ok-clause-stays
returns-in-Ok-clause-stays g c = rw c.in-Open.is tt

pub returns-in-Err-clause-stays : goal.returns-in-Err-clause-stays
returns-in-Err-clause-stays g c = rw c.in-Open.is tt

pub returns-in-Ok-clause-watching : goal.returns-in-Ok-clause-watching
returns-in-Ok-clause-watching g c =
    let w = g.W.World in
    subst (λ st. IsWatching w.speaks w.stack w.limit w.fired g.setup
    (record c.give.new.self { state = st })) (sym c.left_by-self.ensures) c.in-Ok.ensures.watching
