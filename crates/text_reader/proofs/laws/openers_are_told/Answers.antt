use Rattle.text_reader.proofs.Opening.{openers_are_told}
use Rattle.text_reader.proofs.laws.openers_are_told.Goals as goal

pub returns : goal.returns
returns g c = openers_are_told
