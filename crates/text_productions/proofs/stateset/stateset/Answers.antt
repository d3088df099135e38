use Rattle.std.proofs.Common.{refl}
use Rattle.text_reader.proofs.Going.{take, then, last, rule_goes, part}
use Rattle.text_reader.proofs.Single.{name_goes}
use Rattle.text_productions.proofs.Fits.{K}
use Rattle.text_productions.proofs.stateset.stateset.Goals as goal

pub returns : goal.returns
returns c =
    part refl (rule_goes K (then K refl (name_goes K c.name-name.ensures)
    (take K c.symbol.ensures (take K c.symbol-2.ensures (then K refl c.idents-states.ensures
    (take K c.symbol-3.ensures (last K c.symbol-4.ensures)))))))
