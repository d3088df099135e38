-- The outline of a sentence grows from place to place.
use Rattle.law_places.proofs.Wholes.{outlines_grow}
use Rattle.law_places.proofs.laws.outlines_grow.Goals as goal

pub returns : goal.returns
returns c = outlines_grow
