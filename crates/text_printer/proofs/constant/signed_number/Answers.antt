use Rattle.text_printer.proofs.Printing.{then, in_first}
use Rattle.text_printer.proofs.Single.{number_prints}
use Rattle.text_printer.proofs.constant.signed_number.Goals as goal

pub returns : goal.returns
returns c = then c.plus_or_minus.ensures (in_first (number_prints c.args.number c.number.ensures))
