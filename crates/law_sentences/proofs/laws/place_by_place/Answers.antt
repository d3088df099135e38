-- The lemma is the law.
use Rattle.law_sentences.proofs.InForce.{place_by_place}
use Rattle.law_sentences.proofs.laws.place_by_place.Goals as goal

pub returns : goal.returns
returns c = place_by_place
