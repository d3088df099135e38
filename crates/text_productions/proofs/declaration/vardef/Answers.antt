use Rattle.std.proofs.Common.{refl}
use Rattle.text_reader.proofs.Going.{take, then, last, rule_goes, part}
use Rattle.text_productions.proofs.Fits.{K}
use Rattle.text_productions.proofs.Made as made
use Rattle.text_productions.proofs.declaration.vardef.Goals as goal

pub returns : goal.returns
returns c = part (made.variable_made _ _)
    (rule_goes K (then K refl c.idents-names.ensures
    (take K c.symbol.ensures (then K refl c.typetext-text.ensures (last K c.symbol-2.ensures)))))
