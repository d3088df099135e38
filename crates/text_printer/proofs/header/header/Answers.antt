use Rattle.std.proofs.Common.{refl}
use Rattle.text_printer.proofs.Printing.{take, take_sure, last, then, then_closed, rule_prints}
use Rattle.text_printer.proofs.Printing.{part}
use Rattle.text_printer.proofs.Single.{name_prints}
use Rattle.text_printer.proofs.Sections.{sections_print}
use Rattle.text_printer.specs.PlainNodes.{estelle}
use Rattle.text_printer.proofs.header.header.Goals as goal

pub returns : goal.returns
returns c = part refl refl (rule_prints (take refl c.word.ensures (then (name_prints _
    c.name.ensures) (then c.attribute.ensures (then c.parameters.ensures (take_sure refl
    c.symbol.ensures (then_closed (sections_print estelle refl refl c.points_section.ensures
    c.exports_section.ensures) (take refl c.word-2.ensures (last refl c.symbol-2.ensures)))))))))
