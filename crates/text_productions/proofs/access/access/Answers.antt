use Rattle.std.proofs.Common.{refl}
use Rattle.text_reader.proofs.Going.{then, rule_goes, part}
use Rattle.text_reader.proofs.Single.{name_goes}
use Rattle.text_productions.proofs.Fits.{K}
use Rattle.text_productions.proofs.access.access.Goals as goal

pub returns : goal.returns
returns c =
    part refl (rule_goes K (then K refl (name_goes K c.name-name.ensures)
    c.subscripts_given-index.ensures))
