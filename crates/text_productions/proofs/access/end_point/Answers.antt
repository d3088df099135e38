use Rattle.std.proofs.Common.{refl}
use Rattle.text_reader.proofs.Going.{then, rule_goes, part}
use Rattle.text_productions.proofs.Fits.{K}
use Rattle.text_productions.proofs.access.end_point.Goals as goal

pub returns : goal.returns
returns c =
    part refl (rule_goes K (then K refl c.access-first.ensures c.access_given-second.ensures))
