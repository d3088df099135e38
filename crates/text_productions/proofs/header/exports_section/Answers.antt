use Rattle.text_reader.proofs.Going.{take}
use Rattle.text_reader.proofs.Turns.{adds_within}
use Rattle.text_productions.proofs.Fits.{K}
use Rattle.text_productions.proofs.header.exports_section.Goals as goal

pub returns : goal.returns
returns c = adds_within K c.more_exports.ensures (λ w. w) (λ ns x. take K c.word.ensures x)
