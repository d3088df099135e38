use Rattle.text_reader.proofs.Going.{take}
use Rattle.text_productions.proofs.Fits.{K}
use Rattle.text_productions.proofs.stateset.statesets.Goals as goal

pub returns : goal.returns
returns c = take K c.word.ensures c.several_statesets.ensures
