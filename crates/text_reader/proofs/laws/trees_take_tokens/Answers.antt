use Rattle.text_reader.proofs.Extents.{law_trees, law_turns}
use Rattle.text_reader.proofs.laws.trees_take_tokens.Goals as goal

pub returns-clause-trees : goal.returns-clause-trees
returns-clause-trees g c = law_trees

pub returns-clause-turns : goal.returns-clause-turns
returns-clause-turns g c = law_turns
