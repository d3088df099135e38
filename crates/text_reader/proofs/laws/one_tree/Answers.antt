use Rattle.text_reader.proofs.OneTree.{at_most_one_tree}
use Rattle.text_reader.proofs.laws.one_tree.Goals as goal

pub returns : goal.returns
returns g c = at_most_one_tree
