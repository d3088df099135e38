use Rattle.est_meaning.proofs.RunLaws.{yields_below_all}
use Rattle.est_meaning.proofs.run_laws.yields_all_below.Goals as goal

pub returns : goal.returns
returns c = yields_below_all
