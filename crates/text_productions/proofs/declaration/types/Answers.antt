use Rattle.text_reader.proofs.Going.{take, rule_goes}
use Rattle.text_productions.proofs.Fits.{K}
use Rattle.text_productions.proofs.declaration.types.Goals as goal

pub returns : goal.returns
returns c = rule_goes K (take K c.word.ensures c.typedefs.ensures)
