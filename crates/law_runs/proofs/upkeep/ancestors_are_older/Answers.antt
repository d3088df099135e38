use Rattle.law_runs.proofs.Ancestors.{ancestors_older, none_its_ancestor}
use Rattle.law_runs.proofs.upkeep.ancestors_are_older.Goals as goal

pub returns-clause-older : goal.returns-clause-older
returns-clause-older c = ancestors_older

pub returns-clause-other : goal.returns-clause-other
returns-clause-other c = none_its_ancestor
