use Rattle.text_printer.proofs.Printing.{then, in_second}
use Rattle.text_printer.proofs.Single.{name_prints}
use Rattle.text_printer.proofs.constant.signed_name.Goals as goal

pub returns : goal.returns
returns c = then c.plus_or_minus.ensures (in_second (name_prints c.args.name.now c.name.ensures))
