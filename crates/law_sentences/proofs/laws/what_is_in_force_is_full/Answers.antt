-- The lemma is the law.
use Rattle.law_sentences.proofs.InForce.{in_force_full}
use Rattle.law_sentences.proofs.laws.what_is_in_force_is_full.Goals as goal

pub returns : goal.returns
returns c = in_force_full
