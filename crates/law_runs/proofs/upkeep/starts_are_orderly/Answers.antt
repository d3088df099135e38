use Rattle.law_runs.proofs.OrderlyStart.{starts_are_orderly}
use Rattle.law_runs.proofs.upkeep.starts_are_orderly.Goals as goal

pub returns : goal.returns
returns c = starts_are_orderly
