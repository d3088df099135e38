use Rattle.std.proofs.Common.{refl}
use Rattle.text_printer.proofs.Printing.{take, at_least_one}
use Rattle.text_printer.proofs.Turns.{all_turns}
use Rattle.text_printer.proofs.header.points.Goals as goal

pub returns : goal.returns
returns c = take refl c.word.ensures (at_least_one (all_turns c.several_points.ensures))
