use Rattle.std.proofs.Common.{refl}
use Rattle.text_reader.proofs.Going.{take, then, last, rule_goes, part}
use Rattle.text_productions.proofs.Fits.{K}
use Rattle.text_productions.proofs.Made as made
use Rattle.text_productions.proofs.header.export.Goals as goal

pub returns : goal.returns
returns c = part (made.export_made _ _)
    (rule_goes K (then K refl c.idents-names.ensures
    (take K c.symbol.ensures (then K refl (part refl c.shorttype-text.ensures)
    (last K c.symbol-2.ensures)))))
