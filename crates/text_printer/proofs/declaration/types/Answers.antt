use Rattle.std.proofs.Common.{refl}
use Rattle.text_printer.proofs.Printing.{take, rule_prints}
use Rattle.text_printer.proofs.declaration.types.Goals as goal

pub returns : goal.returns
returns c = rule_prints (take refl c.word.ensures c.typedefs.ensures)
