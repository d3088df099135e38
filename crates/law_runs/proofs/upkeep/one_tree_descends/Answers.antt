use Rattle.law_runs.proofs.OrderlySteps.{one_tree_descends}
use Rattle.law_runs.proofs.upkeep.one_tree_descends.Goals as goal

pub returns : goal.returns
returns c = one_tree_descends
