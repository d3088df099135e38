use Rattle.text_reader.proofs.Fronts.{fronts_of_tree, fronts_of_partial}
use Rattle.text_reader.proofs.laws.beginnings.Goals as goal

pub returns-clause-of_tree : goal.returns-clause-of_tree
returns-clause-of_tree g c = fronts_of_tree

pub returns-clause-of_partial : goal.returns-clause-of_partial
returns-clause-of_partial g c = fronts_of_partial
