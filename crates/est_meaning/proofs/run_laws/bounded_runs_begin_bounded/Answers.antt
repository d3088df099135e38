use Rattle.est_meaning.proofs.RunLaws.{begin_bounded}
use Rattle.est_meaning.proofs.run_laws.bounded_runs_begin_bounded.Goals as goal

pub returns : goal.returns
returns c = begin_bounded
