use Rattle.text_reader.proofs.Extents.{law_leaves}
use Rattle.text_reader.proofs.laws.leaves_are_tokens.Goals as goal

pub returns : goal.returns
returns g c = law_leaves
