use Rattle.std.proofs.Common.{vec_len}
use Rattle.est_ports.proofs.BackLaws.{IsGoingBack}
use Rattle.est_ports.proofs.left.Rest.back_to.Given as goal

abbrev pub invariant-back : goal.invariant-back
invariant-back l = IsGoingBack l.lists l.height l.fn.self l.fn.best l.self l.best

abbrev pub decreases-back : goal.decreases-back
decreases-back l = vec_len l.self.used
