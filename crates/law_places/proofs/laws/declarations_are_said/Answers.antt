-- What is declared is what the whole outline says of it.
use Rattle.law_places.proofs.SaidWholes.{declarations_said}
use Rattle.law_places.proofs.laws.declarations_are_said.Goals as goal

pub returns : goal.returns
returns c = declarations_said
