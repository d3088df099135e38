use Rattle.std.proofs.Common.{refl}
use Rattle.text_reader.proofs.Going.{take, then, rule_goes, part}
use Rattle.text_reader.proofs.Single.{name_goes}
use Rattle.text_productions.proofs.Fits.{K}
use Rattle.est_grammar.proofs.routine.formal.Goals as goal

pub returns : goal.returns
returns c =
    part refl (rule_goes K (then K refl c.by_place-by_place.ensures
    (then K refl c.idents-names.ensures
    (take K c.symbol.ensures (name_goes K c.name-kind.ensures)))))
