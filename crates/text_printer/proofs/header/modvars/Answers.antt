use Rattle.std.proofs.Common.{refl}
use Rattle.text_printer.proofs.Printing.{take}
use Rattle.text_printer.proofs.header.modvars.Goals as goal

pub returns : goal.returns
returns c = take refl c.word.ensures c.several_modvars.ensures
