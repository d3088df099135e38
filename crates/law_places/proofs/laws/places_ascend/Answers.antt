-- The specification of a sentence stands in order.
use Rattle.law_places.proofs.Ascending.{specification_stands}
use Rattle.law_places.proofs.laws.places_ascend.Goals as goal

pub returns : goal.returns
returns c = specification_stands
