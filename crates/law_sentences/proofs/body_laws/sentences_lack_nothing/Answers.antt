-- The law is its lemma.
use Rattle.law_sentences.proofs.WholeBodies.{sentence_whole}
use Rattle.law_sentences.proofs.body_laws.sentences_lack_nothing.Goals as goal

pub returns : goal.returns
returns c = sentence_whole
