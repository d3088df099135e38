use Rattle.std.proofs.Common.{refl}
use Rattle.text_reader.proofs.Going.{take, then, rule_goes, part}
use Rattle.text_reader.proofs.Single.{name_goes}
use Rattle.text_productions.proofs.Fits.{K}
use Rattle.est_grammar.proofs.estelle_statement.sending.Goals as goal

pub returns : goal.returns
returns c =
    part refl (rule_goes K (then K refl c.access-at.ensures
    (take K c.symbol.ensures (then K refl (name_goes K c.name-signal.ensures)
    c.arguments-arguments.ensures))))
