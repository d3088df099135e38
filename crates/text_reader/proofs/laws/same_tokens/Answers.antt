use Rattle.text_reader.proofs.SameTokens.{same_trees, same_causes, refusals_stay}
use Rattle.text_reader.proofs.laws.same_tokens.Goals as goal

pub returns-clause-trees : goal.returns-clause-trees
returns-clause-trees g c = same_trees

pub returns-clause-causes : goal.returns-clause-causes
returns-clause-causes g c = same_causes

pub returns-clause-stay : goal.returns-clause-stay
returns-clause-stay g c = refusals_stay
