use Rattle.est_meaning.proofs.RunLaws.{runs_unique}
use Rattle.est_meaning.proofs.run_laws.runs_are_unique.Goals as goal

pub returns : goal.returns
returns c = runs_unique
