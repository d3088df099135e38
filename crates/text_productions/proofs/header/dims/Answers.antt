use Rattle.std.proofs.Common.{refl}
use Rattle.text_reader.proofs.Going.{take, then, last, rule_goes}
use Rattle.text_productions.proofs.Fits.{K}
use Rattle.text_productions.proofs.header.dims.Goals as goal

pub returns : goal.returns
returns c =
    rule_goes K (take K c.word.ensures
    (take K c.symbol.ensures (then K refl c.shorttypes-index.ensures
    (take K c.symbol-2.ensures (last K c.word-2.ensures)))))
