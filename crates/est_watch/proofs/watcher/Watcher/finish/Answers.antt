use Rattle.std.proofs.Common.{refl}
use Rattle.est_watch.proofs.watcher.Watcher.finish.Goals as goal

pub end-requires : goal.end-requires
end-requires g c κs within = (within, (c.in-Open.is, c.requires.1))

pub returns-in-Closed-clause-stays : goal.returns-in-Closed-clause-stays
returns-in-Closed-clause-stays g c = rw c.in-Closed.is (refl, refl)

pub returns-in-Spent-clause-stays : goal.returns-in-Spent-clause-stays
returns-in-Spent-clause-stays g c = rw c.in-Spent.is refl

pub returns-in-Ok-clause-stays : goal.returns-in-Ok-clause-stays
returns-in-Ok-clause-stays g c = rw c.in-Open.is tt

pub returns-in-Err-clause-stays : goal.returns-in-Err-clause-stays
returns-in-Err-clause-stays g c = rw c.in-Open.is tt
