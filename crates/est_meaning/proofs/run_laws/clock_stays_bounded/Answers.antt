use Rattle.est_meaning.proofs.ClockLaws.{clock_bounded}
use Rattle.est_meaning.proofs.run_laws.clock_stays_bounded.Goals as goal

pub returns : goal.returns
returns c = clock_bounded
