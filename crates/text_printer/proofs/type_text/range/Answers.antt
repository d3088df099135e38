use Rattle.std.proofs.Common.{refl}
use Rattle.text_printer.proofs.Printing.{shown}
use Rattle.text_printer.proofs.type_text.range.Goals as goal

pub returns-in-Named : goal.returns-in-Named
returns-in-Named c = rw c.in-Named.is (c.named_low.ensures c.in-Named.place)

pub returns-in-Number : goal.returns-in-Number
returns-in-Number c = shown (rw c.in-Number.is refl) c.unnamed_range.ensures

pub returns-in-Character : goal.returns-in-Character
returns-in-Character c = shown (rw c.in-Character.is refl) c.unnamed_range-in-Character.ensures
