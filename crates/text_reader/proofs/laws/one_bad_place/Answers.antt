use Rattle.text_reader.proofs.Fronts.{at_most_one_bad_place}
use Rattle.text_reader.proofs.laws.one_bad_place.Goals as goal

pub returns : goal.returns
returns g c = at_most_one_bad_place
