use Rattle.std.proofs.Common.{refl}
use Rattle.text_reader.proofs.Going.{take, then, last, rule_goes, part}
use Rattle.text_reader.proofs.Single.{name_goes}
use Rattle.text_productions.proofs.Fits.{K}
use Rattle.text_productions.proofs.header.header.Goals as goal

pub returns : goal.returns
returns c =
    part refl (rule_goes K (take K c.word.ensures (then K refl (name_goes K c.name-name.ensures)
    (then K refl c.attribute-system.ensures (then K refl c.parameters-params.ensures
    (take K c.symbol.ensures (then K refl c.sections-points.ensures
    (take K c.word-2.ensures (last K c.symbol-2.ensures)))))))))
