-- The law is its lemma.
use Rattle.law_sentences.proofs.WholeBodies.{specification_whole}
use Rattle.law_sentences.proofs.body_laws.specifications_lack_nothing.Goals as goal

pub returns : goal.returns
returns c = specification_whole
