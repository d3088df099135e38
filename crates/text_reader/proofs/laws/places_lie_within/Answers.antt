use Rattle.text_reader.proofs.Extents.{law_places}
use Rattle.text_reader.proofs.laws.places_lie_within.Goals as goal

pub returns : goal.returns
returns g c = law_places
